-- Expressions of C as Lustre, with names as places.
use Rattle.std.specs.Prelude.{ℕ, List, length, map}
use Rattle.c_syntax.specs.declared.Leaf.{Leaf}
use Rattle.c_syntax.specs.Tree as code
use Rattle.lustre_syntax.specs.Tree.{ExprTree, EquationTree, NodeTree, texts_of}
use Rattle.lustre_syntax.specs.Named.{NamedNode, renamed, renamed_equation, place_of, all_names}
use Rattle.lustre_system.specs.Functions.{function_name}
use Rattle.lustre_system.specs.FromC.{value_from, values_from, test_from, calls_from, all_calls_from, test_calls_from}

-- the places of names and of callees, the names of leaves, and those of what calls give
pub record Naming : Type 0 where
  pub place : List ℕ → ℕ
  pub callee : List ℕ → ℕ
  pub leaf_name : Leaf → List ℕ
  pub part_name : ℕ → List ℕ

module _ (names : Naming) where
  -- the value of an expression after n calls
  abbrev pub placed_value : ℕ → code.ExprTree → ExprTree
  placed_value n e =
      renamed names.place (value_from names.leaf_name function_name names.part_name n e)

  -- the values of expressions after n calls
  abbrev pub placed_values : ℕ → code.ExprTrees → List ExprTree
  placed_values n es =
      map (renamed names.place) (values_from names.leaf_name function_name names.part_name n es)

  -- the value of a condition after n calls
  abbrev pub placed_test : ℕ → code.CondTree → ExprTree
  placed_test n test =
      renamed names.place (test_from names.leaf_name function_name names.part_name n test)

  -- the calls of an expression after n others
  abbrev pub placed_calls : ℕ → code.ExprTree → List EquationTree
  placed_calls n e =
      map (renamed_equation names.place names.callee)
      (calls_from names.leaf_name function_name names.part_name n e)

  -- the calls of expressions after n others
  abbrev pub all_placed_calls : ℕ → code.ExprTrees → List EquationTree
  all_placed_calls n es =
      map (renamed_equation names.place names.callee)
      (all_calls_from names.leaf_name function_name names.part_name n es)

  -- the calls of a condition after n others
  abbrev pub placed_test_calls : ℕ → code.CondTree → List EquationTree
  placed_test_calls n test =
      map (renamed_equation names.place names.callee)
      (test_calls_from names.leaf_name function_name names.part_name n test)

-- the node that one by names stands for, where callees have these places; all lines are 0
abbrev pub placed_by : (List ℕ → ℕ) → NamedNode → NodeTree
placed_by callee n = record {
  text = n.text;
  line = 0;
  inputs = length n.inputs;
  outputs = length n.outputs;
  names = all_names n;
  equations =
      map (renamed_equation (place_of (texts_of (all_names n))) callee) n.equations;
}
