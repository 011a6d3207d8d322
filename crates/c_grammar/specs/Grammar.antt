-- The grammar: which tokens spell which written program.
use Rattle.std.specs.Prelude.{◌≡◌, ℕ, ◌^◌, Bool, true, false, ◌==◌, nat_lt, if◌then◌else◌, List, [], ◌∷◌, ◌++◌, Option, Some, None, codes, bytes_eq, decimal, option_and_then}
use Rattle.base_core.specs.declared.base.Compare.{Compare}
use Rattle.base_core.specs.declared.base.Compare.TheVariants.{Eq, Ne, Lt, Le, Ge, Gt}
use Rattle.c_syntax.specs.declared.code.BinOp.{BinOp}
use Rattle.c_syntax.specs.declared.code.BinOp.TheVariants.{Add, Sub, Mul, Div, Rem}
use Rattle.c_syntax.specs.declared.code.CType.{CType}
use Rattle.c_syntax.specs.declared.code.CType.TheVariants.{I8, U8, I16, U16, I32, U32, I64}
use Rattle.c_grammar.specs.Tokens.{Token}
use Rattle.c_syntax.specs.Names.{is_name}
use Rattle.c_syntax.specs.Kinds.{WrittenKind, number_kind, array_kind, struct_kind}
use Rattle.c_grammar.specs.Written.{WrittenLeaf, param, own, child, WrittenExpr, literal, neg, read, binary, pick, pure, item, WrittenExprs, no_exprs, more_exprs, WrittenCond, compare, both, either, negated, WrittenTarget, own_target, field_target, WrittenArguments, no_arguments, more_arguments, WrittenStmt, assign, assign_at, branch, branch_else, call, WrittenStmts, no_stmts, more_stmts, WrittenParam, WrittenPureParam, WrittenPure, WrittenField, WrittenStruct, WrittenProcedure, WrittenProgram}

infixr 30 ◌⨾◌
-- spells at the front of a list of tokens, and gives what is left; none where the front is
-- otherwise
abbrev pub Spelling : Type 0
Spelling = List Token → Option (List Token)

-- one spelling and then another
abbrev pub ◌⨾◌ : Spelling → Spelling → Spelling
(first ⨾ second) tokens = option_and_then second (first tokens)

-- no token
abbrev pub nothing : Spelling
nothing tokens = Some tokens

-- no list of tokens at all
abbrev pub never : Spelling
never tokens = None

-- one token with this text
abbrev pub word : List ℕ → Spelling
word text [] = None
word text (t ∷ tokens) = if bytes_eq t.text text then Some tokens else None

-- the same, and its first token is on this line
abbrev pub at_line : ℕ → Spelling → Spelling
at_line line spelling [] = None
at_line line spelling (t ∷ tokens) = if t.line == line then spelling (t ∷ tokens) else None

-- a token that is this name
abbrev pub name_word : List ℕ → Spelling
name_word name = if is_name name then word name else never

-- a token that is this number, of at most 63 bits
abbrev pub literal_word : ℕ → Spelling
literal_word value = if nat_lt value (2 ^ 63) then word (decimal value) else never

-- a type as it is written
abbrev pub type_text : CType → List ℕ
type_text I8 = codes "int8_t"
type_text U8 = codes "uint8_t"
type_text I16 = codes "int16_t"
type_text U16 = codes "uint16_t"
type_text I32 = codes "int32_t"
type_text U32 = codes "uint32_t"
type_text I64 = codes "int64_t"

-- an operator as it is written
abbrev pub op_text : BinOp → List ℕ
op_text Add = codes "+"
op_text Sub = codes "-"
op_text Mul = codes "*"
op_text Div = codes "/"
op_text Rem = codes "%"

-- a comparison as it is written
abbrev pub compare_text : Compare → List ℕ
compare_text Eq = codes "=="
compare_text Ne = codes "!="
compare_text Lt = codes "<"
compare_text Le = codes "<="
compare_text Ge = codes ">="
compare_text Gt = codes ">"

-- a spelling between `(` and `)`
abbrev pub in_parens : Spelling → Spelling
in_parens inner = word (codes "(") ⨾ inner ⨾ word (codes ")")

-- a spelling between `{` and `}`
abbrev pub in_braces : Spelling → Spelling
in_braces inner = word (codes "{") ⨾ inner ⨾ word (codes "}")

-- a spelling between `[` and `]`
abbrev pub in_brackets : Spelling → Spelling
in_brackets inner = word (codes "[") ⨾ inner ⨾ word (codes "]")

-- a field of the instance
abbrev pub own_spelling : List ℕ → Spelling
own_spelling field = word (codes "s") ⨾ word (codes "->") ⨾ name_word field

-- a parameter, a field of the instance, or a field of a field
abbrev pub leaf_spelling : WrittenLeaf → Spelling
leaf_spelling (param name) = name_word name
leaf_spelling (own field) = own_spelling field
leaf_spelling (child field inner) =
    word (codes "s") ⨾ word (codes "->") ⨾ name_word field ⨾ word (codes ".") ⨾ name_word inner

abbrev mutual
  pub expr_spelling : WrittenExpr → Spelling
  expr_spelling (literal value) = word (codes "INT64_C") ⨾ in_parens (literal_word value)
  expr_spelling (neg e) = in_parens (word (codes "-") ⨾ expr_spelling e)
  expr_spelling (read line leaf) =
      in_parens (word (codes "int64_t")) ⨾ at_line line (leaf_spelling leaf)
  expr_spelling (binary op a b) = in_parens (expr_spelling a ⨾ word (op_text op) ⨾ expr_spelling b)
  expr_spelling (pick test a b) =
      in_parens (cond_spelling test ⨾ word (codes "?") ⨾ expr_spelling a ⨾ word (codes ":")
      ⨾ expr_spelling b)
  expr_spelling (pure line function values) =
      at_line line (name_word function) ⨾ in_parens (exprs_spelling values)
  expr_spelling (item line field index) =
      in_parens (word (codes "int64_t")) ⨾ at_line line (own_spelling field)
      ⨾ in_brackets (expr_spelling index)

  -- expressions with `,` between each two, and at least one
  pub exprs_spelling : WrittenExprs → Spelling
  exprs_spelling no_exprs = never
  exprs_spelling (more_exprs e es) = expr_spelling e ⨾ more_exprs_spelling es

  pub more_exprs_spelling : WrittenExprs → Spelling
  more_exprs_spelling no_exprs = nothing
  more_exprs_spelling (more_exprs e es) =
      word (codes ",") ⨾ expr_spelling e ⨾ more_exprs_spelling es

  pub cond_spelling : WrittenCond → Spelling
  cond_spelling (compare how a b) =
      in_parens (expr_spelling a ⨾ word (compare_text how) ⨾ expr_spelling b)
  cond_spelling (both a b) = in_parens (cond_spelling a ⨾ word (codes "&&") ⨾ cond_spelling b)
  cond_spelling (either a b) = in_parens (cond_spelling a ⨾ word (codes "||") ⨾ cond_spelling b)
  cond_spelling (negated a) = in_parens (word (codes "!") ⨾ cond_spelling a)

-- whose procedure is called
abbrev pub target_spelling : WrittenTarget → Spelling
target_spelling own_target = word (codes "s")
target_spelling (field_target field) =
    word (codes "&") ⨾ word (codes "s") ⨾ word (codes "->") ⨾ name_word field

-- a cast, without what is cast
abbrev pub cast_spelling : CType → Spelling
cast_spelling type = in_parens (word (type_text type))

-- the arguments of a call of a procedure, each with its cast after a `,`
abbrev pub arguments_spelling : WrittenArguments → Spelling
arguments_spelling no_arguments = nothing
arguments_spelling (more_arguments cast e rest) =
    word (codes ",") ⨾ cast_spelling cast ⨾ expr_spelling e ⨾ arguments_spelling rest

abbrev mutual
  pub stmt_spelling : WrittenStmt → Spelling
  stmt_spelling (assign line field cast value) =
      at_line line (word (codes "s")) ⨾ word (codes "->") ⨾ name_word field ⨾ word (codes "=")
      ⨾ cast_spelling cast ⨾ expr_spelling value ⨾ word (codes ";")
  stmt_spelling (assign_at line field index cast value) =
      at_line line (own_spelling field) ⨾ in_brackets (expr_spelling index) ⨾ word (codes "=")
      ⨾ cast_spelling cast ⨾ expr_spelling value
      ⨾ word (codes ";")
  stmt_spelling (branch line test on_true) =
      at_line line (word (codes "if")) ⨾ cond_spelling test ⨾ in_braces (stmts_spelling on_true)
  stmt_spelling (branch_else line test on_true on_false) =
      at_line line (word (codes "if")) ⨾ cond_spelling test ⨾ in_braces (stmts_spelling on_true)
      ⨾ word (codes "else") ⨾ in_braces (stmts_spelling on_false)
  stmt_spelling (call line procedure target values) =
      at_line line (name_word procedure)
      ⨾ in_parens (target_spelling target ⨾ arguments_spelling values) ⨾ word (codes ";")

  pub stmts_spelling : WrittenStmts → Spelling
  stmts_spelling no_stmts = nothing
  stmts_spelling (more_stmts s ss) = stmt_spelling s ⨾ stmts_spelling ss

-- a parameter of a procedure
abbrev pub param_spelling : WrittenParam → Spelling
param_spelling p = at_line p.line (word (type_text p.type)) ⨾ name_word p.name

-- parameters, each after a `,`
abbrev pub more_params_spelling : List WrittenParam → Spelling
more_params_spelling [] = nothing
more_params_spelling (p ∷ ps) = word (codes ",") ⨾ param_spelling p ⨾ more_params_spelling ps

-- a parameter of a pure function
abbrev pub pure_param_spelling : WrittenPureParam → Spelling
pure_param_spelling p = at_line p.line (word (codes "int64_t")) ⨾ name_word p.name

-- parameters of a pure function, each after a `,`
abbrev pub more_pure_params_spelling : List WrittenPureParam → Spelling
more_pure_params_spelling [] = nothing
more_pure_params_spelling (p ∷ ps) =
    word (codes ",") ⨾ pure_param_spelling p ⨾ more_pure_params_spelling ps

-- the parameters of a pure function, at least one
abbrev pub pure_params_spelling : List WrittenPureParam → Spelling
pure_params_spelling [] = never
pure_params_spelling (p ∷ ps) = pure_param_spelling p ⨾ more_pure_params_spelling ps

-- a pure function
abbrev pub pure_spelling : WrittenPure → Spelling
pure_spelling p =
    at_line p.line (word (codes "static")) ⨾ word (codes "int64_t") ⨾ name_word p.name
    ⨾ in_parens (pure_params_spelling p.params)
    ⨾ in_braces (at_line p.return_line (word (codes "return")) ⨾ expr_spelling p.body
    ⨾ word (codes ";"))

-- what a field's declaration begins with
abbrev pub kind_spelling : WrittenKind → Spelling
kind_spelling (number_kind type) = word (type_text type)
kind_spelling (array_kind type count) = word (type_text type)
kind_spelling (struct_kind name) = word (codes "struct") ⨾ name_word name

-- what comes after the field's name: the length of an array
abbrev pub length_spelling : WrittenKind → Spelling
length_spelling (number_kind type) = nothing
length_spelling (array_kind type count) = in_brackets (literal_word count)
length_spelling (struct_kind name) = nothing

-- a field
abbrev pub field_spelling : WrittenField → Spelling
field_spelling f = at_line f.line (kind_spelling f.kind) ⨾ name_word f.name ⨾ length_spelling f.kind
    ⨾ word (codes ";")

-- the things of a list, one after another
abbrev pub all_spelling : {A : Type 0} → (A → Spelling) → List A → Spelling
all_spelling spelling [] = nothing
all_spelling spelling (x ∷ xs) = spelling x ⨾ all_spelling spelling xs

-- the same, and there is at least one
abbrev pub some_spelling : {A : Type 0} → (A → Spelling) → List A → Spelling
some_spelling spelling [] = never
some_spelling spelling (x ∷ xs) = spelling x ⨾ all_spelling spelling xs

-- a struct
abbrev pub struct_spelling : WrittenStruct → Spelling
struct_spelling d =
    at_line d.line (word (codes "struct")) ⨾ name_word d.name
    ⨾ in_braces (some_spelling field_spelling d.fields) ⨾ word (codes ";")

-- what a procedure begins with: only a private one is `static`
abbrev pub private_spelling : Bool → Spelling
private_spelling true = word (codes "static") ⨾ word (codes "void")
private_spelling false = word (codes "void")

-- a procedure
abbrev pub procedure_spelling : WrittenProcedure → Spelling
procedure_spelling p =
    at_line p.line (private_spelling p.private) ⨾ name_word p.name
    ⨾ in_parens (word (codes "struct") ⨾ name_word p.of ⨾ word (codes "*") ⨾ word (codes "s")
    ⨾ more_params_spelling p.params) ⨾ in_braces (stmts_spelling p.body)

-- pure functions, then structs, then procedures
abbrev pub program_spelling : WrittenProgram → Spelling
program_spelling p =
    all_spelling pure_spelling p.pures ⨾ some_spelling struct_spelling p.structs
    ⨾ some_spelling procedure_spelling p.procedures

-- these tokens, and no others, spell the program
abbrev pub Spells : List Token → WrittenProgram → Type 0
Spells tokens p = program_spelling p tokens ≡ Some []

-- a file can go on with these tokens: some file of the grammar begins with them
abbrev pub CanGoOn : List Token → Type 0
CanGoOn tokens = (more : List Token) × (p : WrittenProgram) × Spells (tokens ++ more) p
