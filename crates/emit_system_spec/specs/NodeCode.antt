-- The code of a row, a memory, a trigger and a child, in a procedure of a system.
use Rattle.std.specs.Prelude.{ℕ, ◌+◌, ◌-◌, if◌then◌else◌, List, [], ◌∷◌, map, length, slice_get, get_or, Option}
use Rattle.std.specs.Option.{option_map_or}
use Rattle.diagram_blocks.specs.Meaning.{has_value, delay_length}
use Rattle.diagram_blocks.specs.Kinds.{is_inport, port_of, is_reset_outport}
use Rattle.modules_profile.specs.declared.local.ChildUse.{ChildUse}
use Rattle.modules_profile.specs.declared.local.LocalRow.{LocalRow}
use Rattle.modules_profile.specs.LocalSystem.{LocalSystem}
use Rattle.modules_profile.specs.Headers.{header_functions, taken}
use Rattle.modules_profile.specs.Locals.{entering}
use Rattle.c_syntax.specs.declared.code.Leaf.{Leaf}
use Rattle.c_syntax.specs.declared.code.Leaf.TheVariants.{Own}
use Rattle.c_syntax.specs.Tree.{ExprTree, read, CondTree, StmtTrees, no_stmts, stmts_append, ParamTree}
use Rattle.emit_row_code.specs.declared.leaves.ControlLeaves.{ControlLeaves}
use Rattle.emit_row_code.specs.declared.leaves.RingFields.{RingFields}
use Rattle.emit_row_code.specs.RowCode.{rhs_code}
use Rattle.emit_row_code.specs.RingCode.{oldest_code}
use Rattle.emit_row_code.specs.TestCode as test
use Rattle.emit_row_code.specs.StatementCode.{value_statements, value_reset_statements, memory_statements, ring_statements, trigger_statements, call_statements, reset_call_statements}
use Rattle.emit_shape.specs.Names.{input_name, control_name, trigger_param}
use Rattle.emit_shape.specs.Delays.{is_line}
use Rattle.emit_shape.specs.RowStarts.{row_start}
use Rattle.emit_system_spec.specs.declared.node.Place.{Place}
use Rattle.emit_system_spec.specs.declared.node.Place.TheVariants.{Row, Call}
use Rattle.emit_system_spec.specs.Fields.{value_field, memory_field, ring_field, trigger_field, child_field}
use Rattle.emit_system_spec.specs.Places.{node_places, child_base, param_leaf, now_leaf}
use Rattle.emit_system_spec.specs.Sources.{wire_leaf, wire_types}

-- the three fields of a ring
abbrev pub ring_fields : LocalSystem → ℕ → RingFields
ring_fields local b =
    let f = ring_field local b in record { items = f; place = f + 1; taken = f + 2 }

-- what a delay remembers from its oldest sample; of no meaning at another row
abbrev pub memory_read : LocalSystem → LocalRow → ExprTree
memory_read local r =
    if is_line r.op then oldest_code (ring_fields local r.row) (delay_length r.op)
    (row_start local r)
    else read (Own (memory_field local r.row))

-- In a procedure with these parameters.
module _ (local : LocalSystem) (params : List ParamTree) where
  -- ---- Tests

  abbrev pub control_leaves : ControlLeaves
  control_leaves =
      record {
        enable = param_leaf params control_name;
        trigger = param_leaf params (trigger_param local.control);
        remembers =
            Own (trigger_field local);
      }

  abbrev pub active_test : Option CondTree
  active_test = test.active_by local.control control_leaves

  abbrev pub off_test : Option CondTree
  off_test = test.off_by local.control control_leaves

  -- the system is active, and the tick is one of the row's
  abbrev pub runs_test : LocalRow → Option CondTree
  runs_test r = test.both_tests active_test (test.hit_test r.time (now_leaf params))

  -- ---- Rows

  abbrev pub input_leaves : LocalRow → List Leaf
  input_leaves r = if is_inport r.kind then param_leaf params (input_name (port_of r.kind)) ∷ []
      else map (wire_leaf local) r.inputs

  abbrev pub first_input : LocalRow → Leaf
  first_input r = get_or (input_leaves r) 0 (Own 0)

  -- an Outport whose output is reset while the system is disabled
  abbrev pub output_reset : LocalRow → StmtTrees
  output_reset r =
      if is_reset_outport r.kind then value_reset_statements (value_field local r.row)
      (test.disabled_by local.control control_leaves) (row_start local r)
      else no_stmts

  -- where a row runs, what it computes is stored
  abbrev pub value_store : LocalRow → StmtTrees
  value_store r =
      value_statements (value_field local r.row) (runs_test r)
      (rhs_code r.op (input_leaves r) (wire_types local r.inputs) (memory_read local r))

  abbrev pub value_code : LocalRow → StmtTrees
  value_code r =
      if has_value r.kind then stmts_append (output_reset r) (value_store r) else no_stmts

  abbrev pub memory_code : LocalRow → StmtTrees
  memory_code r =
      if is_line r.op then ring_statements (ring_fields local r.row) (delay_length r.op)
      (runs_test r) (first_input r) off_test
      else memory_statements (memory_field local r.row) (runs_test r) (first_input r) off_test
      (row_start local r)

  -- the update is called only where the system around is active, so the trigger remembers its level
  abbrev pub trigger_code : StmtTrees
  trigger_code = trigger_statements (trigger_field local) control_leaves.trigger

-- In such a procedure, where so many procedures are the system's own.
module _ (local : LocalSystem) (count : ℕ) (params : List ParamTree) where
  -- ---- The child at a place

  abbrev pub call_code : ℕ → ChildUse → (function : ℕ) → StmtTrees
  call_code k u j =
      call_statements (active_test local params) (child_base local count k + (j - 1))
      (child_field local k)
      (now_leaf params ∷ taken u.header j (map (wire_leaf local) (entering u)))

  abbrev pub update_code : ℕ × ChildUse → StmtTrees
  update_code e =
      call_statements (active_test local params) (child_base local count e.0
      + length (header_functions e.1.header)) (child_field local e.0)
      (now_leaf params ∷ map (wire_leaf local) (entering e.1))

  abbrev pub reset_code : ℕ × ChildUse → StmtTrees
  reset_code e =
      reset_call_statements (off_test local params) (child_base local count e.0
      + length (header_functions e.1.header) + 2) (child_field local e.0)

  -- ---- Nodes

  abbrev pub node_code : Place → StmtTrees
  node_code (Row p) = option_map_or (value_code local params) (slice_get local.rows p) no_stmts
  node_code (Call k j) = option_map_or (λ u. call_code k u j) (slice_get local.children k) no_stmts

  -- the node at a position of the system's nodes
  abbrev pub code_at : ℕ → StmtTrees
  code_at n = option_map_or node_code (slice_get (node_places local) n) no_stmts
