-- Whether a system is active and reset, and what its trigger remembers, as expressions with types.
use Rattle.std.proofs.Common.{◌≡◌, refl, ℕ, ◌≤◌, true, List, [], Option, Some, None, pos, arith}
use Rattle.std.proofs.lemmas.List.{length-map}
use Rattle.base_core.specs.declared.Control.{Control}
use Rattle.base_core.specs.declared.Port.TheVariants.{Trigger}
use Rattle.diagram_meaning.specs.Rows.{system_control, column}
use Rattle.diagram_meaning.specs.Inputs.{input_ports}
use Rattle.diagram_meaning.specs.Diagram.{Diagram}
use Rattle.emit_row_code.specs.TestCode.{active_by, off_by}
use Rattle.emit_shape.specs.Names.{trigger_name, port_name}
use Rattle.lustre_syntax.specs.declared.LusOp.TheVariants as op
use Rattle.lustre_syntax.specs.Tree.{int, bool, number, name, two, choice, previous}
use Rattle.lustre_syntax.specs.Named.{NamedExpr}
use Rattle.lustre_syntax.specs.Lawful.{AreDistinct}
use Rattle.lustre_system.specs.Names.{around_active, around_off, port_names, control_leaves}
use Rattle.lustre_system.specs.RowEquations.{test_in}
use Rattle.lustre_system.specs.SystemNodes.{active_value, off_too, reset_value, trigger_input, trigger_memory, has_trigger}
use Rattle.lustre_right.specs.Systems.{system_texts, place_in}
use Rattle.lustre_typed.proofs.Lists.{item-in}
use Rattle.lustre_typed.proofs.Names.{types, Fits, on-holds, off-holds, port-holds, trigger-holds}
use Rattle.lustre_typed.proofs.Tests.{On, active-on, off-on, also-typed, on-typed, trigger-column}
use Rattle.lustre_typed.proofs.Typed.{deeper, number-typed, name-typed, previous-typed, two-typed, choice-typed, arrow-typed}

module _ (d : Diagram) (s : Option ℕ) (distinct : AreDistinct (system_texts d s)) where
  abbrev Held : NamedExpr → ℕ → Type 0
  Held e deep = Fits d s e bool deep

  abbrev place : List ℕ → ℕ
  place = place_in d s

  abbrev control : Control
  control = system_control d.rows s

  abbrev on : NamedExpr
  on = name around_active

  pub active-typed : Held (active_value d s) 11
  active-typed =
      also-typed d s distinct on (test_in d s (active_by control (control_leaves d.rows s))) (on-typed d s distinct)
      (active-on d s distinct control refl)

  off-typed : (o : Option NamedExpr) → On d s distinct o → Held (off_too d s o) 12
  off-typed None on = deeper (types d s) place (name around_off) bool 1 12 (omega arith)
      (name-typed (types d s) place around_off bool (off-holds d s distinct))
  off-typed (Some test) is =
      two-typed (types d s) place op.Or (name around_off) (two op.And on test) bool bool 11 refl
      (deeper (types d s) place (name around_off) bool 1 11 (omega arith)
      (name-typed (types d s) place around_off bool (off-holds d s distinct)))
      (two-typed (types d s) place op.And on test bool bool 10 refl (on-typed d s distinct) is)

  pub reset-typed : Held (reset_value d s) 12
  reset-typed = off-typed (test_in d s (off_by control (control_leaves d.rows s))) (off-on d s distinct control refl)

  pub trigger-typed : has_trigger d s ≡ true → Fits d s (trigger_memory d s) int 6
  trigger-typed is =
      let t = types d s in
      let input = port-holds d s distinct (trigger_input d s) (item-in (port_names d.rows s) (column d.rows s Trigger) []
      (let below = trigger-column d s distinct is in
      let many = length-map (input_ports d.rows s) (port_name control) in omega (arith, below, many))) in
      let zero_1 = number-typed t place 0 (omega arith) in
      let zero = λ (deep : ℕ) (low : 1 ≤ deep). deeper t place (number (pos 0)) int 1 deep low zero_1 in
      let level = choice (two op.Gt (previous (trigger_input d s)) (number (pos 0))) (number (pos 2)) (number (pos 1)) in
      let inner = choice (previous around_active) level (previous trigger_name) in
      let high = two op.Gt (previous (trigger_input d s)) (number (pos 0)) in
      let level_typed = choice-typed t place high (number (pos 2)) (number (pos 1)) int 2
      (two-typed t place op.Gt (previous (trigger_input d s)) (number (pos 0)) int bool 1 refl
      (previous-typed t place (trigger_input d s) int input) zero_1)
      (deeper t place (number (pos 2)) int 1 2 (omega arith) (number-typed t place 2 (omega arith)))
      (deeper t place (number (pos 1)) int 1 2 (omega arith) (number-typed t place 1 (omega arith))) in
      let inner_typed = choice-typed t place (previous around_active) level (previous trigger_name) int 3
      (deeper t place (previous around_active) bool 1 3 (omega arith) (previous-typed t place around_active bool (on-holds d s distinct)))
      level_typed
      (deeper t place (previous trigger_name) int 1 3 (omega arith)
      (previous-typed t place trigger_name int (trigger-holds d s distinct is))) in
      arrow-typed t place (number (pos 0)) (choice (previous around_off) (number (pos 0)) inner) int 5 (zero 5 (omega arith))
      (choice-typed t place (previous around_off) (number (pos 0)) inner int 4
      (deeper t place (previous around_off) bool 1 4 (omega arith) (previous-typed t place around_off bool (off-holds d s distinct)))
      (zero 4 (omega arith)) inner_typed)
