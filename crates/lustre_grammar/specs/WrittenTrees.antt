-- The written trees of the values of the source.
use Rattle.std.specs.Prelude.{pos, map}
use Rattle.lustre_syntax.specs.Tree.{number, truth, name, negative, negation, two, choice, arrow, previous}
use Rattle.lustre_grammar.specs.Written.{Word, WrittenExpr, WrittenEquation, set, call, WrittenDeclared, WrittenNode, WrittenFile}
use Rattle.lustre_grammar.specs.declared.written.LusWord.{LusWord}
use Rattle.lustre_grammar.specs.declared.written.LusWrittenExpr.{LusWrittenExpr, Number, Truth, Name, Neg', Not', Two', If', Arrow', Pre}
use Rattle.lustre_grammar.specs.declared.written.LusWrittenEq.{LusWrittenEq}
use Rattle.lustre_grammar.specs.declared.written.LusWrittenEq.TheVariants.{Set, Call}
use Rattle.lustre_grammar.specs.declared.written.LusWrittenDecl.{LusWrittenDecl}
use Rattle.lustre_grammar.specs.declared.written.LusWrittenNode.{LusWrittenNode}
use Rattle.lustre_grammar.specs.declared.written.LusWrittenFile.{LusWrittenFile}

-- a name that is read
abbrev pub word_of : LusWord → Word
word_of w = record { line = w.line; text = w.text.now }

-- an expression
abbrev pub expr_of : LusWrittenExpr → WrittenExpr
expr_of (Number value) = number (pos value.value)
expr_of (Truth value) = truth value
expr_of (Name w) = name (word_of w)
expr_of (Neg' p operand) = negative (expr_of operand)
expr_of (Not' p operand) = negation (expr_of operand)
expr_of (Two' op p left q right) = two op (expr_of left) (expr_of right)
expr_of (If' p test q on_true r on_false) =
    choice (expr_of test) (expr_of on_true) (expr_of on_false)
expr_of (Arrow' p first q later) = arrow (expr_of first) (expr_of later)
expr_of (Pre w) = previous (word_of w)

-- an equation
abbrev pub equation_of : LusWrittenEq → WrittenEquation
equation_of (Set line given value) = set line given.now (expr_of value)
equation_of (Call line given callee values) =
    call line (map (λ text. text.now) given.items) callee.now (map expr_of values.items)

-- a declared name
abbrev pub declared_of : LusWrittenDecl → WrittenDeclared
declared_of d = record { line = d.line; text = d.name.now; type = d.is_bool }

-- a node
abbrev pub node_of : LusWrittenNode → WrittenNode
node_of n = record {
  line = n.line;
  text = n.name.now;
  inputs = map declared_of n.inputs.items;
  outputs = map declared_of n.outputs.items;
  others = map declared_of n.others.items;
  equations = map equation_of n.equations.items;
}

-- a file
abbrev pub file_of : LusWrittenFile → WrittenFile
file_of f = record { nodes = map node_of f.nodes.items }
