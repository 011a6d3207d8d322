-- Procedures that contain helpers' bodies keep the rules of their system.
use Rattle.std.specs.Prelude.{◌≡◌, ℕ, ◌<◌, ◌==◌, Bool, true, false, if◌then◌else◌, List, [], ◌++◌, length, Option, Some, None, slice_get, slice_index_or}
use Rattle.std.specs.List.{AllByRecursion, AllZip}
use Rattle.std.proofs.Common.{refl, sym, ap, subst, ◌∙◌, arith, eq-eqb}
use Rattle.std.proofs.lemmas.Option.{get_or_from_slice_get}
use Rattle.modules_profile.specs.LocalSystem.{LocalSystem}
use Rattle.modules_profile.proofs.lemmas.Members.{in-at, in-filter, at-below, below-at}
use Rattle.c_syntax.specs.declared.code.Leaf.{Leaf}
use Rattle.c_syntax.specs.declared.code.Leaf.TheVariants.{Param, Own, Child}
use Rattle.c_syntax.specs.declared.code.Target.TheVariants as target
use Rattle.c_syntax.specs.Tree.{ExprTree, StmtTree, call, StmtTrees, no_stmts, more_stmts, stmts_append, ParamTree, ProcedureTree, ProgramTree, list_of_exprs}
use Rattle.c_syntax.specs.Lawful.{AreProcedures, AreLawfulStmts}
use Rattle.c_semantics.specs.Machine.{is_interface}
use Rattle.emit_shape.specs.NamedLeaf.{param}
use Rattle.emit_shape.specs.Heads.{Head, head_of}
use Rattle.emit_shape.specs.CodeNames.{CodeNames, named_leaf, IsReadOf}
use Rattle.emit_shape.specs.Rules.{KeepsRules}
use Rattle.emit_shape.specs.Programs as programs
use Rattle.emit_shape.specs.Programs.{names_in, procedures_of}
use Rattle.emit_pruned.proofs.lemmas.Numbers.{all-left, all-right, all-both}
use Rattle.emit_inlined.specs.Inlined.{stmt_calls, stmts_calls, procedure_at, helper_call, stays, place, itself, moved_leaf, moved_stmt, moved_stmts, inlined_stmts, inlined_procedure, inlined}
use Rattle.emit_inlined.proofs.lemmas.AtPositions.{reach_of, body-lawful}
use Rattle.emit_inlined.proofs.lemmas.CallCounts.{others_in}
use Rattle.emit_inlined.proofs.lemmas.Staying.{procedure-at, stays-at, remaining-holds, helper-holds}
use Rattle.right_pruned.proofs.lemmas.Lists.{member}
use Rattle.right_inlined.proofs.MovedRules.{renamed, KeepsPart, part-none, part-first, part-rest, part-append, part-moved}
use Rattle.right_inlined.proofs.HelperCalls.{HasHelper, has-helper, leaf-names}

-- a leaf whose parameter is as it was
pub itself-named : (n : CodeNames) (params : List ParamTree) (move : ℕ → ℕ) (leaf : Leaf) →
    named_leaf n params (moved_leaf itself move leaf) ≡ named_leaf n params leaf
itself-named n params move (Param k) = refl
itself-named n params move (Own f) = refl
itself-named n params move (Child f g) = refl

-- ---- Heads at places

module _ (p : ProgramTree) where
  abbrev pub callee : ℕ → Head
  callee k = head_of (programs.procedure_at (inlined p) k)

  -- a procedure's head is at its place
  abbrev pub Placed : ℕ → Type 0
  Placed k = callee (place p k) ≡ head_of (programs.procedure_at p k)

  pub head-at : (k : ℕ) (x : ProcedureTree) → slice_get p.procedures k ≡ Some x → head_of (programs.procedure_at p k) ≡ head_of x
  head-at k x there = ap head_of (get_or_from_slice_get p.procedures k x programs.no_procedure there)

  pub placed : (k : ℕ) (x : ProcedureTree) → slice_get p.procedures k ≡ Some x → stays p k ≡ true → Placed k
  placed k x there keep =
      ap head_of (get_or_from_slice_get (inlined p).procedures (place p k) (inlined_procedure p x) programs.no_procedure
      (stays-at p k x there keep)) ∙ sym (head-at k x there)

  -- so it is with each that stays, before the end
  pub placed-below : (n k : ℕ) → n < length p.procedures → k < n → stays p k ≡ true → Placed k
  placed-below n k end below keep =
      let (x, there) = below-at p.procedures k (let inside : k < length p.procedures = omega (arith, end, below) in inside) in
      placed k x there keep

-- ---- The rules

module _ (p : ProgramTree) (lawful : AreProcedures p.pures p.structs [] p.procedures) (of : ℕ) (local : LocalSystem)
    (counters : List (List ℕ)) (rules : AllByRecursion (KeepsRules (names_in p of) local counters) (procedures_of p of)) where
  abbrev n : CodeNames
  n = names_in p of

  abbrev m : CodeNames
  m = renamed n (callee p)

  pub rule-at : (k : ℕ) (x : ProcedureTree) → slice_get p.procedures k ≡ Some x → x.of ≡ of → KeepsRules n local counters x
  rule-at k x there same =
      member (KeepsRules n local counters) (procedures_of p of) x rules
      (in-filter (λ (y : ProcedureTree). y.of == of) p.procedures x (in-at p.procedures k x there) (eq-eqb x.of of same))

  as-part : (x : ProcedureTree) → KeepsRules n local counters x → KeepsPart n local counters x x.body
  as-part x h = record { calls = h.calls; stores = h.stores; indices = h.indices; tests = h.tests }

  module _ (k : ℕ) (x : ProcedureTree) (there : slice_get p.procedures k ≡ Some x) (same : x.of ≡ of) where
    abbrev y : ProcedureTree
    y = inlined_procedure p x

    end : k < length p.procedures
    end = at-below p.procedures k x there

    -- a statement at its new place
    stmt-kept : (s : StmtTree) (ss : StmtTrees) → AreLawfulStmts (reach_of p k x) (more_stmts s ss) →
        AllByRecursion (Placed p) (stmt_calls s) → KeepsPart n local counters x (more_stmts s ss) →
        KeepsPart m local counters y (moved_stmts itself (place p) (more_stmts s no_stmts))
    stmt-kept s ss right called h =
        part-moved n itself (place p) x y (λ leaf inside. itself-named n x.params (place p) leaf) local (callee p) counters
        (reach_of p k x) refl (more_stmts s no_stmts) (right.0, tt) (all-both (Placed p) (stmt_calls s) [] called tt)
        (part-first n local counters x s ss h)

    -- the body of a helper in place of its call
    body-kept : (s : StmtTree) (ss : StmtTrees) (found : ℕ × List ℕ) → HasHelper p k x s found →
        KeepsPart n local counters x (more_stmts s ss) →
        KeepsPart m local counters y (moved_stmts (λ i. slice_index_or found.1 i 0) (place p) (procedure_at p found.0).body)
    body-kept s ss found c h =
        let Read : ParamTree → ExprTree → Type 0 = λ w e. IsReadOf n x.params (param w.name) e in
        let first : KeepsPart n local counters x (more_stmts (call c.line found.0 target.Own c.values) no_stmts) =
        subst (λ z. KeepsPart n local counters x (more_stmts z no_stmts)) c.is (part-first n local counters x s ss h) in
        let passes : AllZip Read c.helper.params (list_of_exprs c.values) =
        subst (λ (g : Head). AllZip Read g.params (list_of_exprs c.values)) (head-at p found.0 c.helper c.there) first.calls.0 in
        subst (λ (z : ProcedureTree). KeepsPart m local counters y (moved_stmts (λ i. slice_index_or found.1 i 0) (place p) z.body))
        (sym (procedure-at p found.0 c.helper c.there))
        (part-moved n (λ i. slice_index_or found.1 i 0) (place p) c.helper y
        (leaf-names n x.params c.helper.params c.values found.1 (place p) passes c.reads) local (callee p) counters
        (reach_of p found.0 c.helper) refl c.helper.body (body-lawful p found.0 c.helper lawful c.there)
        (helper-holds (Placed p) p found.0 c.helper lawful c.there c.unlogged
        (λ j below keep. placed-below p found.0 j (at-below p.procedures found.0 c.helper c.there) below keep))
        (as-part c.helper (rule-at found.0 c.helper c.there (c.of ∙ same))))

    part-inlined : (ss : StmtTrees) → AreLawfulStmts (reach_of p k x) ss → AllByRecursion (Placed p) (others_in p ss) →
        KeepsPart n local counters x ss → KeepsPart m local counters y (inlined_stmts p ss)
    part-inlined no_stmts right called h = part-none m local counters y
    part-inlined (more_stmts s ss) right called h =
        by (helper_call p s) refl called (λ others. part-inlined ss right.1 others (part-rest n local counters x s ss h))
      where
        by : (o : Option (ℕ × List ℕ)) → helper_call p s ≡ o →
            AllByRecursion (Placed p) (elim o [ Some found ↦ others_in p ss | None ↦ stmt_calls s ++ others_in p ss ]) →
            (AllByRecursion (Placed p) (others_in p ss) → KeepsPart m local counters y (inlined_stmts p ss)) →
            KeepsPart m local counters y
            (stmts_append (elim o [
              | Some found ↦ moved_stmts (λ i. slice_index_or found.1 i 0) (place p) (procedure_at p found.0).body
              | None ↦ more_stmts (moved_stmt itself (place p) s) no_stmts
            ]) (inlined_stmts p ss))
        by (Some found) is others rest =
            part-append m local counters y (moved_stmts (λ i. slice_index_or found.1 i 0) (place p) (procedure_at p found.0).body)
            (inlined_stmts p ss) (body-kept s ss found (has-helper p k x s found right.0 is) h) (rest others)
        by None is others rest =
            part-append m local counters y (more_stmts (moved_stmt itself (place p) s) no_stmts) (inlined_stmts p ss)
            (stmt-kept s ss right (all-left (Placed p) (stmt_calls s) (others_in p ss) others) h)
            (rest (all-right (Placed p) (stmt_calls s) (others_in p ss) others))

    pub keeps-inlined : KeepsRules m local counters y
    keeps-inlined =
        let rule = rule-at k x there same in
        let right = body-lawful p k x lawful there in
        let part = by (is_interface x.name) right (as-part x rule)
        (remaining-holds (Placed p) p k x lawful there (λ j below keep. placed-below p k j end below keep)) in record {
          private_name = rule.private_name;
          params = rule.params;
          calls = part.calls;
          stores = part.stores;
          indices = part.indices;
          tests = part.tests;
        }
      where
        by : (b : Bool) → AreLawfulStmts (reach_of p k x) x.body → KeepsPart n local counters x x.body →
            AllByRecursion (Placed p) (if b then others_in p x.body else stmts_calls x.body) →
            KeepsPart m local counters y (if b then inlined_stmts p x.body else moved_stmts itself (place p) x.body)
        by true right h called = part-inlined x.body right called h
        by false right h called =
            part-moved n itself (place p) x y (λ leaf inside. itself-named n x.params (place p) leaf) local (callee p) counters
            (reach_of p k x) refl x.body right called h
