-- What is made from the names of a system is what is said of the system.
use Rattle.std.proofs.Common.{◌≡◌, ℕ, ◌+◌, List, [], Option, Some, None, length, map, sym, ap, ◌∙◌}
use Rattle.std.specs.List.{range_with_len}
use Rattle.std.proofs.lemmas.List.{length-map, length-append}
use Rattle.std.proofs.lemmas.List.FromFn.{length-range_with_len}
use Rattle.base_core.specs.Ports.{control_ports}
use Rattle.base_core.specs.declared.Port.TheVariants.{Number}
use Rattle.diagram_meaning.specs.declared.table.Row.{Row}
use Rattle.diagram_meaning.specs.Inputs.{input_ports}
use Rattle.diagram_meaning.specs.Rows.{inports_of, system_control, enable_count}
use Rattle.c_syntax.specs.declared.Leaf.TheVariants.{Param}
use Rattle.c_syntax.specs.Tree as code
use Rattle.lustre_system.specs.FromC.{value_from, value_of, test_from, test_of, calls_from, calls_of}
use Rattle.lustre_system.specs.Functions.{function_name}
use Rattle.lustre_system.specs.Names.{leaf_name, part_name, control_leaves}
use Rattle.lustre_expressions.specs.declared.scopes.RowNames.{RowNames}
use Rattle.lustre_expressions.specs.Namings.{row_naming}
use Rattle.lustre_expressions.specs.Placed.{placed_value, placed_test, placed_calls}
use Rattle.lustre_expressions.specs.RowNaming.{part_by}
use Rattle.lustre_expressions.specs.Scopes.{AreNamesOf}
use Rattle.lustre_expressions.proofs.lemmas.ScopeLaws.{leaf-is}
use Rattle.lustre_row_equations.specs.Placed.{placed_expr, placed_equations}

module _ (names : RowNames) (rows : List Row) (s : Option ℕ) (is : AreNamesOf names rows s None) where
  -- a test, for no row
  pub test_is : (test : code.CondTree) →
      placed_test (row_naming names) 0 test ≡ placed_expr names (test_of (leaf_name rows s) function_name (λ n. []) test)
  test_is test = λ i. placed_expr names
      (test_from (λ leaf. leaf-is names rows s None is leaf i) function_name (λ n. ap (λ r. part_by r n) is.row i) 0 test)

  -- what is computed for row b
  pub value_is : (b : ℕ) (e : code.ExprTree) →
      placed_value (row_naming (record names { row = Some b })) 0 e
      ≡ placed_expr names (value_of (leaf_name rows s) function_name (part_name b) e)
  value_is b e = λ i. placed_expr names
      (value_from (λ leaf. leaf-is names rows s None is leaf i) function_name (part_name b) 0 e)

  pub calls_are : (b : ℕ) (e : code.ExprTree) →
      placed_calls (row_naming (record names { row = Some b })) 0 e
      ≡ placed_equations names (calls_of (leaf_name rows s) function_name (part_name b) e)
  calls_are b e = λ i. placed_equations names
      (calls_from (λ leaf. leaf-is names rows s None is leaf i) function_name (part_name b) 0 e)

-- ---- Leaves of controls

port-count : (rows : List Row) (s : Option ℕ) →
    length (input_ports rows s) ≡ length (inports_of rows s) + length (control_ports (system_control rows s))
port-count rows s =
    let count = length (inports_of rows s) in
    length-append (map Number (range_with_len 1 count)) (control_ports (system_control rows s))
    ∙ ap (λ n. n + length (control_ports (system_control rows s)))
    (length-map (range_with_len 1 count) Number ∙ length-range_with_len 1 count)

pub control_leaves_are : (names : RowNames) (rows : List Row) (s b : Option ℕ) → AreNamesOf names rows s b →
    (count enable trigger : ℕ) → count ≡ length names.ports.now →
    ((n : ℕ) → count ≡ n + length (control_ports names.control) → enable ≡ n) →
    ((n : ℕ) → count ≡ n + length (control_ports names.control) → trigger ≡ n + enable_count names.control) →
    record { enable = Param enable; trigger = Param trigger; remembers = Param count } ≡ control_leaves rows s
control_leaves_are names rows s b is count enable trigger counted enabled triggered =
    let ports = counted ∙ ap length is.ports in
    let split : count ≡ length (inports_of rows s) + length (control_ports names.control) =
    ports ∙ port-count rows s ∙ ap (λ c. length (inports_of rows s) + length (control_ports c)) (sym is.control) in
    let at_enable = enabled (length (inports_of rows s)) split in
    let at_trigger : trigger ≡ length (inports_of rows s) + enable_count (system_control rows s) =
    triggered (length (inports_of rows s)) split ∙ ap (λ c. length (inports_of rows s) + enable_count c) is.control in
    λ i. record { enable = Param (at_enable i); trigger = Param (at_trigger i); remembers = Param (ports i) }
