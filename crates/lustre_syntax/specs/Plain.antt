-- The plain trees of the values of the source.
use Rattle.std.specs.Prelude.{ℕ, Bool, List, map}
use Rattle.lustre_syntax.specs.declared.code.LusExpr.{LusExpr, Number, Truth, Name, Neg', Not', Two', If', Arrow', Pre}
use Rattle.lustre_syntax.specs.declared.code.LusEq.{LusEq}
use Rattle.lustre_syntax.specs.declared.code.LusEq.TheVariants.{Set, Call}
use Rattle.lustre_syntax.specs.declared.file.LusNode.{LusNode}
use Rattle.lustre_syntax.specs.declared.file.LusFile.{LusFile}
use Rattle.lustre_syntax.specs.Tree.{ExprTree, number, truth, name, negative, negation, two, choice, arrow, previous, EquationTree, set, call, ValueType, Declared, NodeTree, FileTree}

-- the plain tree of an expression
abbrev pub expr_tree : LusExpr → ExprTree
expr_tree (Number value) = number value
expr_tree (Truth value) = truth value
expr_tree (Name place) = name place
expr_tree (Neg' p operand) = negative (expr_tree operand)
expr_tree (Not' p operand) = negation (expr_tree operand)
expr_tree (Two' op p left q right) = two op (expr_tree left) (expr_tree right)
expr_tree (If' p test q on_true r on_false) =
    choice (expr_tree test) (expr_tree on_true) (expr_tree on_false)
expr_tree (Arrow' p first q later) = arrow (expr_tree first) (expr_tree later)
expr_tree (Pre place) = previous place

-- of an equation
abbrev pub equation_tree : LusEq → EquationTree
equation_tree (Set line given value) = set line given (expr_tree value)
equation_tree (Call line given node values) = call line given node (map expr_tree values.items)

-- the names of a node with their types
abbrev pub declared_names : List (List ℕ × Bool) → List Declared
declared_names names = map (λ x. record { text = x.0; type = x.1 }) names

-- of a node
abbrev pub node_tree : LusNode → NodeTree
node_tree n = record {
  text = n.name;
  line = n.line;
  inputs = n.inputs;
  outputs = n.outputs;
  names = declared_names n.names.items;
  equations = map equation_tree n.equations.items;
}

-- of a file
abbrev pub file_tree : LusFile → FileTree
file_tree f = record { nodes = map node_tree f.nodes.items }
