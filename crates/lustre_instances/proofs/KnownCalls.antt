-- The calls of a system's node: of functions, and one for each child.
use Rattle.std.specs.Prelude.{◌≡◌, ◌⊎◌, ⊤, ℕ, true, List, [], ◌∷◌, ◌++◌, flat_map, Option, Some, refl}
use Rattle.std.specs.List.{AllByRecursion}
use Rattle.std.proofs.Common.{inl, inr}
use Rattle.diagram_blocks.specs.Kinds.{is_subsystem, is_delay}
use Rattle.diagram_blocks.specs.Meaning.{has_value}
use Rattle.diagram_meaning.specs.Rows.{row_at, rows_of}
use Rattle.diagram_meaning.specs.Diagram.{Diagram, op_at}
use Rattle.diagram_meaning.specs.SystemRuns.{IsRowOf}
use Rattle.modules_profile.specs.Systems.{system_name}
use Rattle.emit_shape.specs.Names.{trigger_name}
use Rattle.lustre_syntax.specs.Tree.{set, call}
use Rattle.lustre_syntax.specs.Named.{NamedExpr, NamedEquation}
use Rattle.lustre_system.specs.Functions.{function_name}
use Rattle.lustre_system.specs.Names.{active_name, reset_name}
use Rattle.lustre_system.specs.RowEquations.{only_if, memory_equations, value_equations, child_equations, row_equations}
use Rattle.lustre_system.specs.SystemNodes.{active_value, reset_value, trigger_memory, has_trigger, system_equations}
use Rattle.lustre_rows.proofs.lemmas.FunctionCalls.{memory-calls, value-calls}
use Rattle.lustre_rows.proofs.lemmas.Lists.{all-after, all-map, all-joined, all-only, own-rows}

-- ---- The equations of a system

-- a call for a child
pub record IsChildCall (d : Diagram) (s : Option ℕ) (callee : List ℕ) : Type 0 where
  pub child : ℕ
  pub row : IsRowOf d.rows s child
  pub subsystem : is_subsystem (row_at d.rows child).kind ≡ true
  pub callee_is : callee ≡ system_name (Some child)

-- an equation that calls a function or a child, or nothing
abbrev pub IsKnown : Diagram → Option ℕ → NamedEquation → Type 0
IsKnown d s (set line text value) = ⊤
IsKnown d s (call line texts callee arguments) = ((k : ℕ) × (callee ≡ function_name k)) ⊎ IsChildCall d s callee

pub known-equations : (d : Diagram) (s : Option ℕ) → AllByRecursion (IsKnown d s) (system_equations d s)
known-equations d s =
    let P = IsKnown d s in
    let activity = set 0 active_name (active_value d s) ∷ set 0 reset_name (reset_value d s)
    ∷ flat_map (row_equations d s) (rows_of d.rows s) in
    all-after P (only_if (has_trigger d s) (set 0 trigger_name (trigger_memory d s) ∷ [])) activity
    (all-only P (has_trigger d s) (set 0 trigger_name (trigger_memory d s) ∷ []) (λ on. (tt, tt))) (
      tt,
      (
        tt,
        all-joined P (row_equations d s) (rows_of d.rows s)
            (all-map (IsRowOf d.rows s) (λ b. AllByRecursion P (row_equations d s b)) by-row (rows_of d.rows s) (own-rows d.rows s)),
      ),
    )
  where
    each : (k : ℕ) (texts : List (List ℕ)) (arguments : List NamedExpr) → IsKnown d s (call 0 texts (function_name k) arguments)
    each k texts arguments = inl (k, refl)

    by-row : (b : ℕ) → IsRowOf d.rows s b → AllByRecursion (IsKnown d s) (row_equations d s b)
    by-row b row =
        let P = IsKnown d s in
        let memories = only_if (is_delay (op_at d b)) (memory_equations d s b) in
        let values = only_if (has_value (row_at d.rows b).kind) (value_equations d s b) in
        let children = only_if (is_subsystem (row_at d.rows b).kind) (child_equations d s b) in
        all-after P (memories ++ values) children
        (all-after P memories values
        (all-only P (is_delay (op_at d b)) (memory_equations d s b) (λ on. memory-calls d s P (λ text value. tt) each b))
        (all-only P (has_value (row_at d.rows b).kind) (value_equations d s b) (λ on. value-calls d s P (λ text value. tt) each b)))
        (all-only P (is_subsystem (row_at d.rows b).kind) (child_equations d s b)
        (λ on. (inr (record { child = b; row = row; subsystem = on; callee_is = refl }), tt)))
