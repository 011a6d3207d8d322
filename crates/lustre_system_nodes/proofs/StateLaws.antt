-- What the controls of a system come to, over the places of a node's names.
use Rattle.std.proofs.Common.{◌≡◌, ℕ, ◌<◌, true, false, List, [], ◌∷◌, ◌++◌, map, length, Option, None, Some, refl, sym, ap, ap₂, ◌∙◌, arith, true≢false}
use Rattle.std.specs.Prelude.{slice_index_or}
use Rattle.std.specs.List.{range_with_len}
use Rattle.std.specs.Option.{option_map}
use Rattle.std.proofs.lemmas.List.{length-map, length-append, get_or_append_left, append_assoc, append-nil, map-append}
use Rattle.std.proofs.lemmas.List.FromFn.{length-map-range_with_len}
use Rattle.base_core.specs.declared.Control.{Control}
use Rattle.base_core.specs.declared.Control.TheVariants.{Plain, Enabled, Triggered, Both}
use Rattle.base_core.specs.declared.Port.TheVariants.{Number, Trigger}
use Rattle.base_core.specs.Ports.{control_ports}
use Rattle.c_syntax.specs.declared.Leaf.{Leaf}
use Rattle.c_syntax.specs.Tree.{CondTree}
use Rattle.diagram_meaning.specs.declared.table.Row.{Row}
use Rattle.diagram_meaning.specs.Diagram.{Diagram}
use Rattle.diagram_meaning.specs.Inputs.{input_ports}
use Rattle.diagram_meaning.specs.Rows.{system_control, is_triggered, enable_count, inports_of, column}
use Rattle.emit_row_code.specs.declared.leaves.ControlLeaves.{ControlLeaves}
use Rattle.emit_row_code.specs.TestCode.{active_by, off_by}
use Rattle.emit_shape.specs.Names.{port_name, trigger_name, now_name}
use Rattle.lustre_syntax.specs.declared.LusOp.TheVariants.{And, Or}
use Rattle.lustre_syntax.specs.Tree.{ExprTree, EquationTree, name, two, set}
use Rattle.lustre_syntax.specs.Named.{NamedExpr}
use Rattle.lustre_system.specs.Names.{around_active, around_off, active_name, reset_name, port_names, param_names, control_leaves, leaf_name}
use Rattle.lustre_system.specs.RowEquations.{also, only_if, test_in}
use Rattle.lustre_system.specs.SystemNodes.{off_too, active_value, reset_value, trigger_input, trigger_memory}
use Rattle.lustre_expressions.specs.declared.scopes.RowNames.{RowNames}
use Rattle.lustre_expressions.specs.Found.{place_in}
use Rattle.lustre_expressions.specs.RowNaming.{leaf_by}
use Rattle.lustre_expressions.specs.Scopes.{AreNamesOf}
use Rattle.lustre_expressions.proofs.lemmas.ScopeLaws.{leaf-is}
use Rattle.lustre_row_equations.specs.Also.{also_tree}
use Rattle.lustre_row_equations.specs.Placed.{placed_expr, placed_equation, placed_equations}
use Rattle.lustre_system_nodes.specs.States.{trigger_equations, state_equations}

-- ---- The trigger among the inputs

last-control : (c : Control) → is_triggered c ≡ true → enable_count c < length (control_ports c)
last-control Plain is = absurd (true≢false (sym is))
last-control (Enabled reset) is = absurd (true≢false (sym is))
last-control (Triggered edge) is = omega arith
last-control (Both reset edge) is = omega arith

module _ (rows : List Row) (s : Option ℕ) (is : is_triggered (system_control rows s) ≡ true) where
  within : column rows s Trigger < length (port_names rows s)
  within =
      let named = length-map (input_ports rows s) (port_name (system_control rows s)) in
      let numbers = length-map-range_with_len Number 1 (length (inports_of rows s)) in
      let all = length-append (map Number (range_with_len 1 (length (inports_of rows s)))) (control_ports (system_control rows s)) in
      let last = last-control (system_control rows s) is in
      omega (arith, named, numbers, all, last)

  trigger-param : slice_index_or (param_names rows s) (column rows s Trigger) []
      ≡ slice_index_or (port_names rows s) (column rows s Trigger) []
  trigger-param = get_or_append_left (port_names rows s) (trigger_name ∷ now_name ∷ []) [] (column rows s Trigger) within

-- one or the other is off
abbrev pub off_tree : ExprTree → ExprTree → Option ExprTree → ExprTree
off_tree around active None = around
off_tree around active (Some test) = two Or around (two And active test)

module _ (names : RowNames) (d : Diagram) (s : Option ℕ) (are : AreNamesOf names d.rows s None) where
  abbrev placed : NamedExpr → ExprTree
  placed = placed_expr names

  abbrev place : List ℕ → ℕ
  place = place_in names.places.now

  pub trigger-placed : (leaf : Leaf) → is_triggered names.control ≡ true → leaf ≡ (control_leaves d.rows s).trigger →
      place (leaf_by names.control names.ports.now leaf) ≡ place (trigger_input d s)
  trigger-placed leaf triggered is =
      ap place (leaf-is names d.rows s None are leaf)
      ∙ ap (λ l. place (leaf_name d.rows s l)) is
      ∙ ap place (trigger-param d.rows s (ap is_triggered (sym are.control) ∙ triggered))

  also-placed : (a : NamedExpr) (o : Option NamedExpr) →
      also_tree (placed a) (option_map placed o) ≡ placed (also a o)
  also-placed a None = refl
  also-placed a (Some b) = refl

  off-placed : (o : Option NamedExpr) →
      off_tree (placed (name around_off)) (placed (name around_active)) (option_map placed o) ≡ placed (off_too d s o)
  off-placed None = refl
  off-placed (Some b) = refl

  -- a test over the control and its leaves is that of the system
  module _ (by : Control → ControlLeaves → Option CondTree) (leaves : ControlLeaves) (test : Option CondTree)
      (value : Option ExprTree) (are_leaves : leaves ≡ control_leaves d.rows s) (told : test ≡ by names.control leaves)
      (is : value ≡ option_map placed (test_in d s test)) where
    tested : value ≡ option_map placed (test_in d s (by (system_control d.rows s) (control_leaves d.rows s)))
    tested = is ∙ ap (λ t. option_map placed (test_in d s t)) (told ∙ ap₂ by are.control are_leaves)

  pub active-is : (leaves : ControlLeaves) (test : Option CondTree) (value : Option ExprTree) (on : ℕ) (e : ExprTree) →
      leaves ≡ control_leaves d.rows s → test ≡ active_by names.control leaves → value ≡ option_map placed (test_in d s test) →
      on ≡ place around_active → e ≡ also_tree (name on) value → e ≡ placed (active_value d s)
  active-is leaves test value on e are_leaves told is here made =
      made ∙ ap₂ (λ (k : ℕ) (o : Option ExprTree). also_tree (name k) o) here (tested active_by leaves test value are_leaves told is)
      ∙ also-placed (name around_active) (test_in d s (active_by (system_control d.rows s) (control_leaves d.rows s)))

  pub reset-is : (leaves : ControlLeaves) (test : Option CondTree) (value : Option ExprTree) (off on : ℕ) (e : ExprTree) →
      leaves ≡ control_leaves d.rows s → test ≡ off_by names.control leaves → value ≡ option_map placed (test_in d s test) →
      off ≡ place around_off → on ≡ place around_active → e ≡ off_tree (name off) (name on) value → e ≡ placed (reset_value d s)
  reset-is leaves test value off on e are_leaves told is away here made =
      made ∙ ap (off_tree (name off) (name on)) (tested off_by leaves test value are_leaves told is)
      ∙ ap₂ (λ (j k : ℕ). off_tree (name j) (name k) (option_map placed (test_in d s (off_by (system_control d.rows s) (control_leaves d.rows s))))) away here
      ∙ off-placed (test_in d s (off_by (system_control d.rows s) (control_leaves d.rows s)))

  -- the equations of the states
  pub states-are : (before first second third : List EquationTree) (active reset : EquationTree) →
      first ≡ before ++ placed_equations names (trigger_equations d s) → second ≡ first ++ active ∷ [] →
      third ≡ second ++ reset ∷ [] → active ≡ placed_equation names (set 0 active_name (active_value d s)) →
      reset ≡ placed_equation names (set 0 reset_name (reset_value d s)) →
      third ≡ before ++ placed_equations names (state_equations d s)
  states-are before first second third active reset trigger more ended is too =
      let of_trigger = placed_equations names (trigger_equations d s) in
      let last : List EquationTree = active ∷ reset ∷ [] in
      ended ∙ ap (λ (l : List EquationTree). l ++ reset ∷ []) (more ∙ ap (λ (l : List EquationTree). l ++ active ∷ []) trigger)
      ∙ append_assoc (before ++ of_trigger) (active ∷ []) (reset ∷ [])
      ∙ append_assoc before of_trigger last
      ∙ ap₂ (λ (a r : EquationTree). before ++ (of_trigger ++ a ∷ r ∷ [])) is too
      ∙ ap (λ (l : List EquationTree). before ++ l)
      (sym (map-append (placed_equation names) (trigger_equations d s)
      (set 0 active_name (active_value d s) ∷ set 0 reset_name (reset_value d s) ∷ [])))

  -- that of the trigger, where there is one
  pub with-trigger : (before : List EquationTree) (e : EquationTree) → is_triggered names.control ≡ true →
      e ≡ placed_equation names (set 0 trigger_name (trigger_memory d s)) →
      before ++ e ∷ [] ≡ before ++ placed_equations names (trigger_equations d s)
  with-trigger before e is made =
      ap (λ (x : EquationTree). before ++ x ∷ []) made
      ∙ ap (λ t. before ++ placed_equations names (only_if t (set 0 trigger_name (trigger_memory d s) ∷ [])))
      (sym (ap is_triggered (sym are.control) ∙ is))

  pub no-trigger : (before : List EquationTree) → is_triggered names.control ≡ false →
      before ≡ before ++ placed_equations names (trigger_equations d s)
  no-trigger before is =
      sym (append-nil before)
      ∙ ap (λ t. before ++ placed_equations names (only_if t (set 0 trigger_name (trigger_memory d s) ∷ [])))
      (sym (ap is_triggered (sym are.control) ∙ is))
