-- The bytes that a file is printed as: a line for each declared name and for each equation, one
-- space between tokens but at parentheses and marks.
use Rattle.std.specs.Prelude.{ℕ, ℤ, List, [], ◌∷◌, ◌++◌, map, flat_map, take, drop, unsigned_abs, codes, decimal}
use Rattle.c_syntax.specs.Names.{name_at}
use Rattle.lustre_syntax.specs.Tree.{ExprTree, number, truth, name, negative, negation, two, choice, arrow, previous, EquationTree, set, call, Declared, NodeTree, FileTree, texts_of, node_texts}
use Rattle.lustre_grammar.specs.Grammar.{truth_text, type_text, op_text}

-- a number, which in a lawful file is one from 0 on
abbrev pub number_bytes : ℤ → List ℕ
number_bytes value = decimal (unsigned_abs value)

-- an expression of a node with these names
abbrev pub expr_bytes : (names : List (List ℕ)) → ExprTree → List ℕ
expr_bytes names (number value) = number_bytes value
expr_bytes names (truth value) = truth_text value
expr_bytes names (name k) = name_at names k
expr_bytes names (negative a) = codes "(- " ++ expr_bytes names a ++ codes ")"
expr_bytes names (negation a) = codes "(not " ++ expr_bytes names a ++ codes ")"
expr_bytes names (two op a b) =
    codes "(" ++ expr_bytes names a ++ codes " " ++ op_text op ++ codes " " ++ expr_bytes names b
    ++ codes ")"
expr_bytes names (choice test a b) =
    codes "(if " ++ expr_bytes names test ++ codes " then " ++ expr_bytes names a
    ++ codes " else " ++ expr_bytes names b ++ codes ")"
expr_bytes names (arrow a b) =
    codes "(" ++ expr_bytes names a ++ codes " -> " ++ expr_bytes names b ++ codes ")"
expr_bytes names (previous k) = codes "(pre " ++ name_at names k ++ codes ")"

-- texts with a mark between each two
abbrev pub parted : (mark : List ℕ) → List (List ℕ) → List ℕ
parted mark [] = []
parted mark (t ∷ ts) = t ++ flat_map (λ u. mark ++ u) ts

-- the line of an equation
abbrev pub equation_bytes : (nodes names : List (List ℕ)) → EquationTree → List ℕ
equation_bytes nodes names (set line given value) =
    name_at names given ++ codes " = " ++ expr_bytes names value ++ codes ";\n"
equation_bytes nodes names (call line given callee values) =
    parted (codes ", ") (map (name_at names) given) ++ codes " = call " ++ name_at nodes callee
    ++ codes "(" ++ parted (codes ", ") (map (expr_bytes names) values) ++ codes ");\n"

-- a declared name with its type
abbrev pub declared_bytes : Declared → List ℕ
declared_bytes d = d.text ++ codes ": " ++ type_text d.type

-- inputs or outputs
abbrev pub ports_bytes : List Declared → List ℕ
ports_bytes ds = codes "(" ++ parted (codes "; ") (map declared_bytes ds) ++ codes ")"

-- further names, after a line of `var` where there are any
abbrev pub others_bytes : List Declared → List ℕ
others_bytes [] = []
others_bytes (d ∷ ds) = codes "var\n" ++ flat_map (λ e. declared_bytes e ++ codes ";\n") (d ∷ ds)

-- the inputs, the outputs and the further names of a node
abbrev pub inputs_of : NodeTree → List Declared
inputs_of n = take n.inputs n.names

abbrev pub outputs_of : NodeTree → List Declared
outputs_of n = take n.outputs (drop n.inputs n.names)

abbrev pub others_of : NodeTree → List Declared
others_of n = drop n.outputs (drop n.inputs n.names)

-- the name of a node with its inputs and outputs
abbrev pub interface_bytes : NodeTree → List ℕ
interface_bytes n = codes "node " ++ n.text ++ codes " " ++ ports_bytes (inputs_of n)
    ++ codes "\nreturns " ++ ports_bytes (outputs_of n) ++ codes ";\n"

-- a node of a file in which nodes have these names
abbrev pub node_bytes : (nodes : List (List ℕ)) → NodeTree → List ℕ
node_bytes nodes n =
    interface_bytes n ++ others_bytes (others_of n) ++ codes "let\n"
    ++ flat_map (equation_bytes nodes (texts_of n.names)) n.equations ++ codes "tel;\n"

-- the text of a file
abbrev pub file_bytes : FileTree → List ℕ
file_bytes f = flat_map (node_bytes (node_texts f.nodes)) f.nodes
