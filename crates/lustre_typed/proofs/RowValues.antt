-- The equations for the value of a row agree in types.
use Rattle.std.proofs.Common.{◌≡◌, refl, sym, subst, ℕ, ◌<◌, ◌≤◌, Bool, true, false, if◌then◌else◌, List, [], ◌∷◌, ◌++◌, map, Option, Some, None, arith, inl, inr}
use Rattle.std.specs.Prelude.{Contains, slice_get}
use Rattle.std.specs.List.{AllByRecursion}
use Rattle.std.proofs.lemmas.List.Elements.{Contains-append_cases}
use Rattle.base_fixed_point.specs.declared.FixType.{FixType}
use Rattle.diagram_blocks.specs.Kinds.{is_delay, is_reset_outport}
use Rattle.diagram_blocks.specs.Meaning.{has_value}
use Rattle.diagram_meaning.specs.Rows.{row_at, system_control}
use Rattle.diagram_meaning.specs.Diagram.{Diagram, op_at, type_at}
use Rattle.diagram_meaning.specs.ResolvedTree.{ResolvedTree, IsResolvedTree, diagram_of}
use Rattle.diagram_meaning.specs.SystemRuns.{IsRowOf}
use Rattle.modules_profile.proofs.lemmas.Members.{in-none}
use Rattle.c_syntax.specs.declared.Leaf.{Leaf}
use Rattle.c_syntax.specs.declared.Leaf.TheVariants.{Child}
use Rattle.c_syntax.specs.Tree.{ExprTree, read}
use Rattle.c_syntax.specs.Lawful.{IsLawfulExpr, IsLawfulLeaf}
use Rattle.c_syntax.specs.Limits.{expr_depth}
use Rattle.emit_prelude.proofs.lemmas.PreludeLaws.{prelude_is}
use Rattle.emit_row_code.specs.Reading.{ReadsOnly}
use Rattle.emit_row_code.specs.RowCode.{nought, rhs_code}
use Rattle.emit_row_code.specs.TestCode.{disabled_by}
use Rattle.emit_shape.specs.Names.{value_name}
use Rattle.lustre_syntax.specs.declared.LusOp.TheVariants as op
use Rattle.lustre_syntax.specs.Tree.{int, bool, NodeTree, name, two, previous, set}
use Rattle.lustre_syntax.specs.Named.{NamedExpr, NamedEquation}
use Rattle.lustre_syntax.specs.Lawful.{AreDistinct}
use Rattle.lustre_system.specs.FromC.{call_count, value_of, calls_of}
use Rattle.lustre_system.specs.Functions.{function_name}
use Rattle.lustre_system.specs.Names.{around_active, part_name, leaf_name, leaves_of, control_leaves}
use Rattle.lustre_system.specs.RowEquations.{test_in, row_code, runs, kept, value_or_kept, or_reset, row_value, value_equations}
use Rattle.lustre_rows.proofs.lemmas.Lists.{all-after, all-map, all-member}
use Rattle.lustre_right.specs.Systems.{system_texts, place_in}
use Rattle.lustre_right.specs.NodeLaws.{IsFunctionNode}
use Rattle.lustre_typed.proofs.FromC.{value-typed, calls-sound}
use Rattle.lustre_typed.proofs.LawsOfRows.{Laws}
use Rattle.lustre_typed.proofs.Leaves.{reach_of, IsLeaf, all-leaves}
use Rattle.lustre_typed.proofs.Names.{types, Holds, Fits, oldest-holds, part-holds, value-holds}
use Rattle.lustre_rows.proofs.lemmas.MemoryCodes.{only-memory, no-memory}
use Rattle.lustre_rows.proofs.lemmas.RowFacts.{remembers, row-op}
use Rattle.lustre_typed.proofs.RowParts.{start, start-typed, runs-typed}
use Rattle.lustre_typed.proofs.Sound.{IsSound}
use Rattle.lustre_typed.proofs.Tests.{On, disabled-on, on-typed}
use Rattle.lustre_typed.proofs.Typed.{deeper, name-typed, previous-typed, two-typed, choice-typed, arrow-typed}

module _ (laws : Laws) (r : ResolvedTree) (resolved : IsResolvedTree r) (s : Option ℕ)
    (distinct : AreDistinct (system_texts (diagram_of r) s)) (callee : List ℕ → ℕ) (earlier : List NodeTree)
    (functions : (k : ℕ) → k < 8 →
    (n : NodeTree) × (slice_get earlier (callee (function_name k)) ≡ Some n) × IsFunctionNode n k) where
  abbrev d : Diagram
  d = diagram_of r

  abbrev place : List ℕ → ℕ
  place = place_in d s

  abbrev Sound : NamedEquation → Type 0
  Sound = IsSound (types d s) place callee earlier

  module _ (b : ℕ) (row : IsRowOf d.rows s b) where
    abbrev begins : NamedExpr
    begins = start laws r resolved s distinct b row

    abbrev leaves : List Leaf
    leaves = leaves_of d.rows s b

    abbrev own_types : List FixType
    own_types = map (type_at d.types) (row_at d.rows b).inputs

    abbrev plain_code : ExprTree
    plain_code = rhs_code (op_at d b) leaves own_types nought

    abbrev Among : Leaf → Type 0
    Among = Contains (leaves ++ [])

    among-holds : (l : Leaf) → Among l → Holds d s (leaf_name d.rows s l) int
    among-holds l here = elim (Contains-append_cases leaves [] l here) [
      | inl first ↦ (all-member (IsLeaf r resolved s distinct) leaves (all-leaves r resolved s distinct b row) l first).0
      | inr none ↦ absurd (in-none l none)
    ]

    plain-reads : ReadsOnly Among plain_code
    plain-reads = laws.reading (op_at d b) leaves [] own_types nought tt

    plain-lawful : IsLawfulExpr (reach_of d s) plain_code
    plain-lawful =
        laws.lawful (reach_of d s) (op_at d b) leaves own_types nought prelude_is (row-op r resolved b row.in_table laws.narrow)
        (all-map (IsLeaf r resolved s distinct) (IsLawfulLeaf (reach_of d s)) (λ l is. is.1) leaves
        (all-leaves r resolved s distinct b row))
        (0, refl, omega arith)

    plain-low : expr_depth plain_code ≤ 40
    plain-low = let low = laws.shallow (op_at d b) leaves own_types nought in omega (arith, low)

    abbrev coded : ExprTree → NamedExpr
    coded e = value_of (leaf_name d.rows s) function_name (part_name b) e

    abbrev calls : ExprTree → List NamedEquation
    calls e = calls_of (leaf_name d.rows s) function_name (part_name b) e

    module _ (valued : has_value (row_at d.rows b).kind ≡ true) where
      plain-parts : (code : ExprTree) → row_code d s b ≡ code → (k : ℕ) → 0 < k → k ≤ call_count code → Holds d s (part_name b k) int
      plain-parts code same k low high =
          part-holds d s distinct b row valued k low (subst (λ (e : ExprTree). k ≤ call_count e) (sym same) high)

      code-typed : Fits d s (coded (row_code d s b)) int 40
      code-typed = by (is_delay (op_at d b)) refl
        where
          by : (t : Bool) → is_delay (op_at d b) ≡ t → Fits d s (coded (row_code d s b)) int 40
          by true is =
              subst (λ (e : ExprTree). Fits d s (coded e) int 40) (sym (only-memory (op_at d b) leaves own_types (read (Child b 0)) is))
              (deeper (types d s) place (name (leaf_name d.rows s (Child b 0))) int 1 40 (omega arith)
              (name-typed (types d s) place (leaf_name d.rows s (Child b 0)) int
              (oldest-holds d s distinct b row is (remembers r resolved b row.in_table is))))
          by false is =
              let same = no-memory (op_at d b) leaves own_types (read (Child b 0)) is in
              subst (λ (e : ExprTree). Fits d s (coded e) int 40) (sym same)
              (deeper (types d s) place (coded plain_code) int (expr_depth plain_code) 40 plain-low
              (value-typed (types d s) place (leaf_name d.rows s) (part_name b) (reach_of d s) Among among-holds (call_count plain_code)
              (plain-parts plain_code same) 0 plain_code (omega arith) plain-reads plain-lawful))

      code-calls : AllByRecursion Sound (calls (row_code d s b))
      code-calls = by (is_delay (op_at d b)) refl
        where
          by : (t : Bool) → is_delay (op_at d b) ≡ t → AllByRecursion Sound (calls (row_code d s b))
          by true is =
              subst (λ (e : ExprTree). AllByRecursion Sound (calls e))
              (sym (only-memory (op_at d b) leaves own_types (read (Child b 0)) is)) tt
          by false is =
              let same = no-memory (op_at d b) leaves own_types (read (Child b 0)) is in
              subst (λ (e : ExprTree). AllByRecursion Sound (calls e)) (sym same)
              (calls-sound (types d s) place (leaf_name d.rows s) (part_name b) (reach_of d s) Among among-holds (call_count plain_code)
              (plain-parts plain_code same) prelude_is callee earlier functions 0 plain_code (omega arith) plain-reads plain-lawful
              (let low = plain-low in omega (arith, low)))

      -- the value
      value-is : Holds d s (value_name b) int
      value-is = value-holds d s distinct b row (resolved.tree.table.outports s) valued

      kept-typed : Fits d s (kept d s b) int 3
      kept-typed =
          arrow-typed (types d s) place begins (previous (value_name b)) int 2 (start-typed laws r resolved s distinct b row)
          (deeper (types d s) place (previous (value_name b)) int 1 2 (omega arith)
          (previous-typed (types d s) place (value_name b) int value-is))

      running-typed : Fits d s (value_or_kept d s b) int 41
      running-typed =
          choice-typed (types d s) place (runs d s b) (coded (row_code d s b)) (kept d s b) int 40
          (deeper (types d s) place (runs d s b) bool 11 40 (omega arith) (runs-typed laws r resolved s distinct b row)) code-typed
          (deeper (types d s) place (kept d s b) int 3 40 (omega arith) kept-typed)

      reset-by : (o : Option NamedExpr) → On d s distinct o → Fits d s (or_reset d s b o) int 42
      reset-by None on = deeper (types d s) place (value_or_kept d s b) int 41 42 (omega arith) running-typed
      reset-by (Some test) on =
          choice-typed (types d s) place (two op.And (name around_active) test) begins (value_or_kept d s b) int 41
          (deeper (types d s) place (two op.And (name around_active) test) bool 11 41 (omega arith)
          (two-typed (types d s) place op.And (name around_active) test bool bool 10 refl (on-typed d s distinct) on))
          (deeper (types d s) place begins int 2 41 (omega arith) (start-typed laws r resolved s distinct b row)) running-typed

      disabled-or-none : (t : Bool) →
          On d s distinct (if t then test_in d s (disabled_by (system_control d.rows s) (control_leaves d.rows s)) else None)
      disabled-or-none true = disabled-on d s distinct (system_control d.rows s) refl
      disabled-or-none false = tt

      value-typed-in : Fits d s (row_value d s b) int 42
      value-typed-in =
          let reset = is_reset_outport (row_at d.rows b).kind in
          reset-by (if reset then test_in d s (disabled_by (system_control d.rows s) (control_leaves d.rows s)) else None)
          (disabled-or-none reset)

      pub value-sound : AllByRecursion Sound (value_equations d s b)
      value-sound =
          all-after Sound (calls (row_code d s b)) (set 0 (value_name b) (row_value d s b) ∷ []) code-calls
          ((int, value-is, deeper (types d s) place (row_value d s b) int 42 100 (omega arith) value-typed-in), tt)
