-- What a printed text spells: names for positions, with the lines of the text. And what it is read as: the file with these
-- lines.
use Rattle.std.proofs.Common.{ℕ, ◌+◌, List, [], ◌∷◌, map, length}
use Rattle.base_core.specs.Numbers.{reported_number}
use Rattle.c_syntax.specs.Names.{name_at}
use Rattle.lustre_syntax.specs.Tree.{ExprTree, EquationTree, set, call, Declared, NodeTree, FileTree, texts_of, node_texts}
use Rattle.lustre_syntax.specs.Named.{renamed}
use Rattle.lustre_grammar.specs.Written.{Word, WrittenExpr, WrittenEquation, WrittenDeclared, WrittenNode, WrittenFile}
use Rattle.lustre_printer.specs.Printing.{inputs_of, outputs_of, others_of}

abbrev pub word_at : (names : List (List ℕ)) (line : ℕ) → ℕ → Word
word_at names line k = record { line = line; text = name_at names k }

abbrev pub written_expr : (names : List (List ℕ)) (line : ℕ) → ExprTree → WrittenExpr
written_expr names line e = renamed (word_at names line) e

abbrev pub written_equation : (nodes names : List (List ℕ)) (line : ℕ) → EquationTree → WrittenEquation
written_equation nodes names line (set old given value) = WrittenEquation.set line (name_at names given) (written_expr names line value)
written_equation nodes names line (call old given callee values) =
    WrittenEquation.call line (map (name_at names) given) (name_at nodes callee) (map (written_expr names line) values)

abbrev pub read_equation : (line : ℕ) → EquationTree → EquationTree
read_equation line (set old given value) = set line given value
read_equation line (call old given callee values) = call line given callee values

-- equations from a line on
abbrev pub written_equations : (nodes names : List (List ℕ)) → ℕ → List EquationTree → List WrittenEquation
written_equations nodes names l [] = []
written_equations nodes names l (e ∷ es) =
    written_equation nodes names (reported_number l) e ∷ written_equations nodes names (l + 1) es

abbrev pub read_equations : ℕ → List EquationTree → List EquationTree
read_equations l [] = []
read_equations l (e ∷ es) = read_equation (reported_number l) e ∷ read_equations (l + 1) es

abbrev pub written_declared : (line : ℕ) → Declared → WrittenDeclared
written_declared line d = record { line = line; text = d.text; type = d.type }

-- further names from a line on
abbrev pub written_others : ℕ → List Declared → List WrittenDeclared
written_others l [] = []
written_others l (d ∷ ds) = written_declared (reported_number l) d ∷ written_others (l + 1) ds

-- how many lines the further names take, with that of `var`
abbrev pub others_lines : List Declared → ℕ
others_lines [] = 0
others_lines (d ∷ ds) = length ds + 2

-- the line of a node's first equation, where the node begins at this one
abbrev pub body_line : ℕ → NodeTree → ℕ
body_line l n = l + 1 + 1 + others_lines (others_of n) + 1

abbrev pub written_node : (nodes : List (List ℕ)) → ℕ → NodeTree → WrittenNode
written_node nodes l n = record {
  line = reported_number l;
  text = n.text;
  inputs = map (written_declared (reported_number l)) (inputs_of n);
  outputs = map (written_declared (reported_number (l + 1))) (outputs_of n);
  others = written_others (l + 1 + 1 + 1) (others_of n);
  equations = written_equations nodes (texts_of n.names) (body_line l n) n.equations;
}

abbrev pub read_node : ℕ → NodeTree → NodeTree
read_node l n = record {
  text = n.text;
  line = reported_number l;
  inputs = n.inputs;
  outputs = n.outputs;
  names = n.names;
  equations = read_equations (body_line l n) n.equations;
}

-- the line after a node
abbrev pub next_line : ℕ → NodeTree → ℕ
next_line l n = body_line l n + length n.equations + 1

abbrev pub written_nodes : (nodes : List (List ℕ)) → ℕ → List NodeTree → List WrittenNode
written_nodes nodes l [] = []
written_nodes nodes l (n ∷ ns) = written_node nodes l n ∷ written_nodes nodes (next_line l n) ns

abbrev pub read_nodes : ℕ → List NodeTree → List NodeTree
read_nodes l [] = []
read_nodes l (n ∷ ns) = read_node l n ∷ read_nodes (next_line l n) ns

-- the line after nodes
abbrev pub lines_after_nodes : ℕ → List NodeTree → ℕ
lines_after_nodes l [] = l
lines_after_nodes l (n ∷ ns) = lines_after_nodes (next_line l n) ns

abbrev pub written_file : FileTree → WrittenFile
written_file f = record { nodes = written_nodes (node_texts f.nodes) 1 f.nodes }

abbrev pub read_file : FileTree → FileTree
read_file f = record { nodes = read_nodes 1 f.nodes }
