-- The equations for one row of a system. A row has its value where it runs, else that of the tick
-- before, and its start before the first tick.
use Rattle.std.specs.Prelude.{ℕ, Bool, not, if◌then◌else◌, List, [], ◌∷◌, ◌++◌, map, slice_index_or, Option, Some, None, ℤ, pos, neg_ℤ, int_lt}
use Rattle.std.specs.List.{range_with_len}
use Rattle.diagram_blocks.specs.Meaning.{has_value, delay_length}
use Rattle.diagram_blocks.specs.Kinds.{is_subsystem, is_outport, is_delay, is_reset_outport}
use Rattle.diagram_meaning.specs.Rows.{row_at, system_control, outports_of}
use Rattle.diagram_meaning.specs.Diagram.{Diagram, type_at, op_at, time_at}
use Rattle.diagram_meaning.specs.Run.{start_of}
use Rattle.diagram_meaning.specs.Inputs.{input_ports}
use Rattle.modules_profile.specs.Systems.{system_name, entering_wire}
use Rattle.c_syntax.specs.declared.Leaf.TheVariants.{Child}
use Rattle.c_syntax.specs.Tree.{ExprTree, CondTree, read}
use Rattle.emit_row_code.specs.RowCode.{rhs_code}
use Rattle.emit_row_code.specs.TestCode.{hit_test, disabled_by}
use Rattle.emit_shape.specs.Names.{value_name, now_name}
use Rattle.lustre_syntax.specs.declared.LusOp.TheVariants.{And}
use Rattle.lustre_syntax.specs.Tree.{bool, Declared, number, name, negative, two, choice, arrow, previous, set, call}
use Rattle.lustre_syntax.specs.Named.{NamedExpr, NamedEquation}
use Rattle.lustre_system.specs.FromC.{call_count, value_of, test_of, calls_of}
use Rattle.lustre_system.specs.Functions.{int_name, function_name}
use Rattle.lustre_system.specs.Names.{active_name, reset_name, around_active, takes_name, sample_name, part_name, leaf_name, leaves_of, now_leaf, control_leaves}

-- a number, with its sign
abbrev pub signed_number : ℤ → NamedExpr
signed_number v = if int_lt v (pos 0) then negative (number (neg_ℤ v)) else number v

abbrev pub bool_name : List ℕ → Declared
bool_name text = record { text = text; type = bool }

-- a test and a further one, where there is one
abbrev pub also : NamedExpr → Option NamedExpr → NamedExpr
also first None = first
also first (Some second) = two And first second

-- a list where a test holds
abbrev pub only_if : {A : Type 0} → Bool → List A → List A
only_if test xs = if test then xs else []

-- rows of the system s
module _ (d : Diagram) (s : Option ℕ) where
  -- a test of C
  abbrev pub test_in : Option CondTree → Option NamedExpr
  test_in None = None
  test_in (Some test) = Some (test_of (leaf_name d.rows s) function_name (λ n. []) test)

  -- the row's value as an expression of C
  abbrev pub row_code : ℕ → ExprTree
  row_code b =
      rhs_code (op_at d b) (leaves_of d.rows s b) (map (type_at d.types) (row_at d.rows b).inputs)
      (read (Child b 0))

  -- whether the row runs
  abbrev pub runs : ℕ → NamedExpr
  runs b = also (name active_name) (test_in (hit_test (time_at d b) (now_leaf d.rows s)))

  -- its value at the tick before
  abbrev pub kept : ℕ → NamedExpr
  kept b = arrow (signed_number (start_of d b)) (previous (value_name b))

  -- its value, where its output isn't reset
  abbrev pub value_or_kept : ℕ → NamedExpr
  value_or_kept b =
      choice (runs b)
      (value_of (leaf_name d.rows s) function_name (part_name b) (row_code b)) (kept b)

  -- the start of an Outport that is reset while the system is disabled
  abbrev pub or_reset : ℕ → Option NamedExpr → NamedExpr
  or_reset b None = value_or_kept b
  or_reset b (Some disabled) =
      choice (two And (name around_active) disabled) (signed_number (start_of d b))
      (value_or_kept b)

  abbrev pub row_value : ℕ → NamedExpr
  row_value b =
      or_reset b (if is_reset_outport (row_at d.rows b).kind
      then test_in (disabled_by (system_control d.rows s) (control_leaves d.rows s)) else None)

  -- the equations of a row with a value: its calls of functions, and its value
  abbrev pub value_equations : ℕ → List NamedEquation
  value_equations b =
      calls_of (leaf_name d.rows s) function_name (part_name b) (row_code b)
      ++ set 0 (value_name b) (row_value b) ∷ []

  -- the names of its samples
  abbrev pub samples : ℕ → List (List ℕ)
  samples b = map (sample_name b) (range_with_len 0 (delay_length (op_at d b)))

  -- the name of the row that a delay reads
  abbrev pub delayed_name : ℕ → List ℕ
  delayed_name b = value_name (slice_index_or (row_at d.rows b).inputs 0 0)

  -- a sample is the start at first and after a reset, the next one where the delay took a
  -- sample, and else what it was
  abbrev pub sample_value : (b : ℕ) (sample next : List ℕ) → NamedExpr
  sample_value b sample next =
      arrow (signed_number (start_of d b))
      (choice (previous reset_name) (signed_number (start_of d b))
      (choice (previous (takes_name b)) (previous next) (previous sample)))

  -- samples from the oldest on; after the last one comes what the delay reads
  abbrev pub sample_equations : ℕ → List (List ℕ) → List NamedEquation
  sample_equations b [] = []
  sample_equations b (m ∷ []) = set 0 m (sample_value b m (delayed_name b)) ∷ []
  sample_equations b (m ∷ n ∷ ms) =
      set 0 m (sample_value b m n) ∷ sample_equations b (n ∷ ms)

  abbrev pub memory_equations : ℕ → List NamedEquation
  memory_equations b =
      set 0 (takes_name b) (runs b) ∷ sample_equations b (samples b)

  -- the call for a child: the tick, the system's activity and reset, and the wires that enter it
  abbrev pub wire_read : Option ℕ → NamedExpr
  wire_read None = number (pos 0)
  wire_read (Some c) = name (value_name c)

  abbrev pub child_equations : ℕ → List NamedEquation
  child_equations e =
      call 0 (map value_name (outports_of d.rows (Some e))) (system_name (Some e))
      (name now_name ∷ name active_name ∷ name reset_name
      ∷ map (λ p. wire_read (entering_wire d.rows e p)) (input_ports d.rows (Some e))) ∷ []

  -- the equations of row b
  abbrev pub row_equations : ℕ → List NamedEquation
  row_equations b =
      only_if (is_delay (op_at d b)) (memory_equations b)
      ++ only_if (has_value (row_at d.rows b).kind) (value_equations b)
      ++ only_if (is_subsystem (row_at d.rows b).kind) (child_equations b)

  -- the names that these give, except for the value of an Outport, which is an output of the node
  abbrev pub row_names : ℕ → List Declared
  row_names b =
      only_if (is_delay (op_at d b)) (bool_name (takes_name b) ∷ map int_name (samples b))
      ++ only_if (has_value (row_at d.rows b).kind)
      (map (λ n. int_name (part_name b n)) (range_with_len 1 (call_count (row_code b)))
      ++ only_if (not (is_outport (row_at d.rows b).kind)) (int_name (value_name b) ∷ []))
      ++ only_if (is_subsystem (row_at d.rows b).kind)
      (map (λ o. int_name (value_name o)) (outports_of d.rows (Some b)))
