-- The grammar: which tokens spell which written file.
use Rattle.std.specs.Prelude.{◌≡◌, ℕ, ℤ, pos, negsuc, Bool, true, false, if◌then◌else◌, List, [], ◌∷◌, ◌++◌, Some, codes}
use Rattle.c_grammar.specs.Tokens.{Token}
use Rattle.c_grammar.specs.Grammar.{Spelling, ◌⨾◌, nothing, never, word, at_line, literal_word, in_parens, all_spelling, some_spelling}
use Rattle.lustre_syntax.specs.declared.code.LusOp.{LusOp}
use Rattle.lustre_syntax.specs.declared.code.LusOp.TheVariants.{Add, Sub, Mul, Div, Mod, Eq, Ne, Lt, Le, Gt, Ge, And, Or}
use Rattle.lustre_syntax.specs.Names.{is_lustre_name}
use Rattle.lustre_syntax.specs.Tree.{ValueType, number, truth, name, negative, negation, two, choice, arrow, previous}
use Rattle.lustre_grammar.specs.Written.{Word, WrittenExpr, WrittenEquation, set, call, WrittenDeclared, WrittenNode, WrittenFile}

-- a token that is this name
abbrev pub name_word : List ℕ → Spelling
name_word text = if is_lustre_name text then word text else never

-- a name on its line
abbrev pub read_word : Word → Spelling
read_word w = at_line w.line (name_word w.text)

-- `true` or `false`, a type, and an operator as they are written
abbrev pub truth_text : Bool → List ℕ
truth_text true = codes "true"
truth_text false = codes "false"

abbrev pub type_text : ValueType → List ℕ
type_text true = codes "bool"
type_text false = codes "int"

abbrev pub op_text : LusOp → List ℕ
op_text Add = codes "+"
op_text Sub = codes "-"
op_text Mul = codes "*"
op_text Div = codes "div"
op_text Mod = codes "mod"
op_text Eq = codes "="
op_text Ne = codes "<>"
op_text Lt = codes "<"
op_text Le = codes "<="
op_text Gt = codes ">"
op_text Ge = codes ">="
op_text And = codes "and"
op_text Or = codes "or"

-- a number from 0 on
abbrev pub number_word : ℤ → Spelling
number_word (pos n) = literal_word n
number_word (negsuc n) = never

abbrev pub expr_spelling : WrittenExpr → Spelling
expr_spelling (number value) = number_word value
expr_spelling (truth value) = word (truth_text value)
expr_spelling (name w) = read_word w
expr_spelling (negative a) = in_parens (word (codes "-") ⨾ expr_spelling a)
expr_spelling (negation a) = in_parens (word (codes "not") ⨾ expr_spelling a)
expr_spelling (two op a b) = in_parens (expr_spelling a ⨾ word (op_text op) ⨾ expr_spelling b)
expr_spelling (choice test a b) =
    in_parens (word (codes "if") ⨾ expr_spelling test ⨾ word (codes "then") ⨾ expr_spelling a
    ⨾ word (codes "else") ⨾ expr_spelling b)
expr_spelling (arrow a b) = in_parens (expr_spelling a ⨾ word (codes "->") ⨾ expr_spelling b)
expr_spelling (previous w) = in_parens (word (codes "pre") ⨾ read_word w)

-- the things of a list, each after a mark
abbrev pub each_after : {A : Type 0} → List ℕ → (A → Spelling) → List A → Spelling
each_after mark spelling [] = nothing
each_after mark spelling (x ∷ xs) = word mark ⨾ spelling x ⨾ each_after mark spelling xs

-- the things of a list with a mark between each two; there may be none
abbrev pub parted_by : {A : Type 0} → List ℕ → (A → Spelling) → List A → Spelling
parted_by mark spelling [] = nothing
parted_by mark spelling (x ∷ xs) = spelling x ⨾ each_after mark spelling xs

-- a declared name with its type
abbrev pub declared_spelling : WrittenDeclared → Spelling
declared_spelling d =
    at_line d.line (name_word d.text) ⨾ word (codes ":") ⨾ word (type_text d.type)

-- the names that an equation gives
abbrev pub given_spelling : List (List ℕ) → Spelling
given_spelling texts = parted_by (codes ",") name_word texts

-- the arguments of a call
abbrev pub arguments_spelling : List WrittenExpr → Spelling
arguments_spelling values = in_parens (parted_by (codes ",") expr_spelling values)

abbrev pub equation_spelling : WrittenEquation → Spelling
equation_spelling (set line given value) =
    at_line line (name_word given) ⨾ word (codes "=") ⨾ expr_spelling value ⨾ word (codes ";")
equation_spelling (call line given callee values) =
    at_line line (given_spelling given ⨾ word (codes "=")) ⨾ word (codes "call") ⨾ name_word callee
    ⨾ arguments_spelling values ⨾ word (codes ";")

-- inputs or outputs
abbrev pub ports_spelling : List WrittenDeclared → Spelling
ports_spelling ds = in_parens (parted_by (codes ";") declared_spelling ds)

-- the further names, each with its `;`, after one `var` where there are any
abbrev pub other_spelling : WrittenDeclared → Spelling
other_spelling d = declared_spelling d ⨾ word (codes ";")

abbrev pub others_spelling : List WrittenDeclared → Spelling
others_spelling [] = nothing
others_spelling (d ∷ ds) = word (codes "var") ⨾ other_spelling d ⨾ all_spelling other_spelling ds

abbrev pub node_spelling : WrittenNode → Spelling
node_spelling n =
    at_line n.line (word (codes "node")) ⨾ name_word n.text ⨾ ports_spelling n.inputs
    ⨾ word (codes "returns") ⨾ ports_spelling n.outputs ⨾ word (codes ";")
    ⨾ others_spelling n.others ⨾ word (codes "let") ⨾ all_spelling equation_spelling n.equations
    ⨾ word (codes "tel") ⨾ word (codes ";")

-- nodes, at least one
abbrev pub file_spelling : WrittenFile → Spelling
file_spelling f = some_spelling node_spelling f.nodes

-- these tokens, and no others, spell the file
abbrev pub Spells : List Token → WrittenFile → Type 0
Spells tokens f = file_spelling f tokens ≡ Some []

-- a file can go on with these tokens: some file of the grammar begins with them
abbrev pub CanGoOn : List Token → Type 0
CanGoOn tokens = (more : List Token) × (f : WrittenFile) × Spells (tokens ++ more) f
