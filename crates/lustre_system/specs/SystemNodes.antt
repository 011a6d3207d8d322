-- The node of a system.
use Rattle.std.specs.Prelude.{ℕ, Bool, List, [], ◌∷◌, ◌++◌, map, flat_map, slice_index_or, Option, Some, None, pos}
use Rattle.base_core.specs.declared.Port.TheVariants.{Trigger}
use Rattle.diagram_meaning.specs.Rows.{rows_of, outports_of, system_control, is_triggered, column}
use Rattle.diagram_meaning.specs.Diagram.{Diagram}
use Rattle.modules_profile.specs.Systems.{system_name}
use Rattle.emit_row_code.specs.TestCode.{active_by, off_by}
use Rattle.emit_shape.specs.Names.{value_name, now_name, trigger_name}
use Rattle.lustre_syntax.specs.declared.LusOp.TheVariants.{Gt, And, Or}
use Rattle.lustre_syntax.specs.Tree.{Declared, number, name, two, choice, arrow, previous, set}
use Rattle.lustre_syntax.specs.Named.{NamedExpr, NamedEquation, NamedNode}
use Rattle.lustre_system.specs.Functions.{int_name}
use Rattle.lustre_system.specs.Names.{around_active, around_off, active_name, reset_name, port_names, control_leaves}
use Rattle.lustre_system.specs.RowEquations.{bool_name, also, test_in, only_if, row_equations, row_names}

module _ (d : Diagram) (s : Option ℕ) where
  -- the system is active where that around it is and its controls say so
  abbrev pub active_value : NamedExpr
  active_value =
      also (name around_active)
      (test_in d s (active_by (system_control d.rows s) (control_leaves d.rows s)))

  -- it or one around it is off
  abbrev pub off_too : Option NamedExpr → NamedExpr
  off_too None = name around_off
  off_too (Some test) = two Or (name around_off) (two And (name around_active) test)

  abbrev pub reset_value : NamedExpr
  reset_value =
      off_too (test_in d s (off_by (system_control d.rows s) (control_leaves d.rows s)))

  -- the name of its trigger
  abbrev pub trigger_input : List ℕ
  trigger_input = slice_index_or (port_names d.rows s) (column d.rows s Trigger) []

  -- what its trigger remembers: 0 not yet, 1 low, 2 high
  abbrev pub trigger_memory : NamedExpr
  trigger_memory =
      arrow (number (pos 0))
      (choice (previous around_off) (number (pos 0))
      (choice (previous around_active)
      (choice (two Gt (previous trigger_input) (number (pos 0))) (number (pos 2)) (number (pos 1)))
      (previous trigger_name)))

  abbrev pub has_trigger : Bool
  has_trigger = is_triggered (system_control d.rows s)

  abbrev pub system_inputs : List Declared
  system_inputs =
      int_name now_name ∷ bool_name around_active ∷ bool_name around_off
      ∷ map int_name (port_names d.rows s)

  abbrev pub system_names : List Declared
  system_names =
      bool_name active_name ∷ bool_name reset_name
      ∷ only_if has_trigger (int_name trigger_name ∷ [])
      ++ flat_map (row_names d s) (rows_of d.rows s)

  abbrev pub system_equations : List NamedEquation
  system_equations =
      only_if has_trigger (set 0 trigger_name trigger_memory ∷ [])
      ++ set 0 active_name active_value ∷ set 0 reset_name reset_value
      ∷ flat_map (row_equations d s) (rows_of d.rows s)

  abbrev pub system_node : NamedNode
  system_node = record {
    text = system_name s;
    inputs = system_inputs;
    outputs = map (λ o. int_name (value_name o)) (outports_of d.rows s);
    others = system_names;
    equations = system_equations;
  }
