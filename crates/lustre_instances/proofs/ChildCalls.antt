-- The call for a child among the equations of a system.
use Rattle.std.specs.Prelude.{◌≡◌, ℕ, true, List, [], ◌∷◌, ◌++◌, map, flat_map, Contains, slice_get, Option, Some}
use Rattle.std.proofs.lemmas.List.Elements.{Contains-append_right}
use Rattle.diagram_blocks.specs.Kinds.{is_subsystem, is_delay}
use Rattle.diagram_blocks.specs.Meaning.{has_value}
use Rattle.diagram_meaning.specs.Rows.{row_at, rows_of, outports_of}
use Rattle.diagram_meaning.specs.Inputs.{input_ports}
use Rattle.diagram_meaning.specs.Diagram.{Diagram, op_at}
use Rattle.diagram_meaning.specs.SystemRuns.{IsRowOf}
use Rattle.modules_profile.specs.Systems.{system_name, entering_wire}
use Rattle.modules_profile.proofs.lemmas.Members.{in-first, in-rest, at-in}
use Rattle.modules_profile.proofs.lemmas.PortRows.{in-rows}
use Rattle.emit_shape.specs.Names.{value_name, now_name, trigger_name}
use Rattle.lustre_syntax.specs.Tree.{name, set, call}
use Rattle.lustre_syntax.specs.Named.{NamedExpr, NamedEquation}
use Rattle.lustre_system.specs.Names.{active_name, reset_name}
use Rattle.lustre_system.specs.RowEquations.{only_if, memory_equations, value_equations, child_equations, row_equations, wire_read}
use Rattle.lustre_system.specs.SystemNodes.{active_value, reset_value, trigger_memory, has_trigger, system_equations}
use Rattle.lustre_rows.proofs.lemmas.Lists.{in-joined, in-only}

-- the call for a child
abbrev pub child_arguments : Diagram → Option ℕ → ℕ → List NamedExpr
child_arguments d s e =
    name now_name ∷ name active_name ∷ name reset_name
    ∷ map (λ p. wire_read d s (entering_wire d.rows e p)) (input_ports d.rows (Some e))

abbrev pub child_call : Diagram → Option ℕ → ℕ → NamedEquation
child_call d s e = call 0 (map value_name (outports_of d.rows (Some e))) (system_name (Some e)) (child_arguments d s e)

pub child-there : (d : Diagram) (s : Option ℕ) (e : ℕ) → IsRowOf d.rows s e → is_subsystem (row_at d.rows e).kind ≡ true →
    (m : ℕ) × (slice_get (system_equations d s) m ≡ Some (child_call d s e))
child-there d s e row subsystem =
    let memories = only_if (is_delay (op_at d e)) (memory_equations d s e) in
    let values = only_if (has_value (row_at d.rows e).kind) (value_equations d s e) in
    let children = only_if (is_subsystem (row_at d.rows e).kind) (child_equations d s e) in
    let own : Contains (row_equations d s e) (child_call d s e) =
    Contains-append_right (memories ++ values) children (child_call d s e)
    (in-only (is_subsystem (row_at d.rows e).kind) (child_equations d s e) (child_call d s e) subsystem
    (in-first (child_call d s e) [])) in
    let rows = flat_map (row_equations d s) (rows_of d.rows s) in
    let reset = set 0 reset_name (reset_value d s) in
    let active = set 0 active_name (active_value d s) in
    at-in (system_equations d s) (child_call d s e)
    (Contains-append_right (only_if (has_trigger d s) (set 0 trigger_name (trigger_memory d s) ∷ [])) (active ∷ reset ∷ rows)
    (child_call d s e)
    (in-rest active (child_call d s e) (reset ∷ rows)
    (in-rest reset (child_call d s e) rows
    (in-joined (row_equations d s) (rows_of d.rows s) e (child_call d s e) (in-rows d.rows s e row.in_table row.own) own))))
