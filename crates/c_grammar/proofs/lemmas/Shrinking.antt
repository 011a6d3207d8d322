-- What a spelling leaves is no longer than what it began with.
use Rattle.std.proofs.Common.{◌≡◌, subst, ℕ, ◌+◌, ◌<◌, ◌≤◌, List, [], ◌∷◌, length, Bool, true, false, Some, None, codes, decimal, nat_lt, ◌^◌, if◌then◌else◌, arith}
use Rattle.c_syntax.specs.declared.code.CType.{CType}
use Rattle.c_grammar.specs.Tokens.{Token}
use Rattle.c_syntax.specs.Names.{is_name}
use Rattle.c_syntax.specs.Kinds.{WrittenKind, number_kind, array_kind, struct_kind}
use Rattle.c_grammar.specs.Written.{WrittenLeaf, param, own, child, WrittenExpr, literal, neg, read, binary, pick, pure, item, WrittenExprs, no_exprs, more_exprs, WrittenCond, compare, both, either, negated, WrittenTarget, own_target, field_target, WrittenArguments, no_arguments, more_arguments, WrittenStmt, assign, assign_at, branch, branch_else, call, WrittenStmts, no_stmts, more_stmts, WrittenParam, WrittenPureParam, WrittenPure, WrittenField, WrittenStruct, WrittenProcedure}
use Rattle.c_grammar.specs.Grammar.{Spelling, ◌⨾◌, nothing, never, word, at_line, name_word, literal_word, in_parens, in_brackets, in_braces, type_text, op_text, compare_text, own_spelling, leaf_spelling, cast_spelling, expr_spelling, exprs_spelling, more_exprs_spelling, cond_spelling, target_spelling, arguments_spelling, stmt_spelling, stmts_spelling, param_spelling, more_params_spelling, pure_param_spelling, more_pure_params_spelling, pure_params_spelling, pure_spelling, kind_spelling, length_spelling, field_spelling, all_spelling, some_spelling, struct_spelling, private_spelling, procedure_spelling}
use Rattle.c_grammar.proofs.lemmas.PrefixLaws.{Front, word-front, seq-parts, at_line-inner, some_same}

pub record Shrinks (a : Spelling) : Type 0 where
  pub by : (tokens rest : List Token) → a tokens ≡ Some rest → length rest ≤ length tokens

infixr 25 ◌▹◌
pub ◌▹◌ : {a b : Spelling} → Shrinks a → Shrinks b → Shrinks (a ⨾ b)
◌▹◌ {a} {b} first second = record {
  by = λ tokens rest h. let p : _ = seq-parts a b tokens rest h in let one : length p.0 ≤ length tokens =
      first.by tokens p.0 p.1 in let two : length rest ≤ length p.0 = second.by p.0 rest p.2 in omega arith;
}

pub word-shrinks : (text : List ℕ) → Shrinks (word text)
word-shrinks text = record {
  by = λ tokens rest h. let f : Front text tokens rest = word-front text tokens rest h in
      rw f.list (omega arith);
}

pub line-shrinks : {a : Spelling} (line : ℕ) → Shrinks a → Shrinks (at_line line a)
line-shrinks {a} line inner = record { by = λ tokens rest h. inner.by tokens rest (at_line-inner line a tokens rest h) }

pub never-shrinks : Shrinks never
never-shrinks = record { by = λ tokens rest h. absurd (none rest h) }
  where
    none : (rest : List Token) → None ≡ Some rest → ⊥
    none rest h = cc

pub nothing-shrinks : Shrinks nothing
nothing-shrinks = record { by = λ tokens rest h. subst (λ x. length x ≤ length tokens) (some_same tokens rest h) (omega arith) }

pub name-shrinks : (name : List ℕ) → Shrinks (name_word name)
name-shrinks name = by (is_name name)
  where
    by : (b : Bool) → Shrinks (if b then word name else never)
    by true = word-shrinks name
    by false = never-shrinks

pub literal-shrinks : (v : ℕ) → Shrinks (literal_word v)
literal-shrinks v = by (nat_lt v (2 ^ 63))
  where
    by : (b : Bool) → Shrinks (if b then word (decimal v) else never)
    by true = word-shrinks (decimal v)
    by false = never-shrinks

pub parens-shrink : {a : Spelling} → Shrinks a → Shrinks (in_parens a)
parens-shrink inner = word-shrinks (codes "(") ▹ inner ▹ word-shrinks (codes ")")

pub braces-shrink : {a : Spelling} → Shrinks a → Shrinks (in_braces a)
braces-shrink inner = word-shrinks (codes "{") ▹ inner ▹ word-shrinks (codes "}")

pub brackets-shrink : {a : Spelling} → Shrinks a → Shrinks (in_brackets a)
brackets-shrink inner = word-shrinks (codes "[") ▹ inner ▹ word-shrinks (codes "]")

pub own-shrinks : (field : List ℕ) → Shrinks (own_spelling field)
own-shrinks field = word-shrinks (codes "s") ▹ word-shrinks (codes "->") ▹ name-shrinks field

pub leaf-shrinks : (leaf : WrittenLeaf) → Shrinks (leaf_spelling leaf)
leaf-shrinks (param name) = name-shrinks name
leaf-shrinks (own field) = own-shrinks field
leaf-shrinks (child field inner) =
    word-shrinks (codes "s") ▹ word-shrinks (codes "->") ▹ name-shrinks field ▹ word-shrinks
    (codes ".") ▹ name-shrinks inner

mutual
  pub expr-shrinks : (e : WrittenExpr) → Shrinks (expr_spelling e)
  expr-shrinks (literal value) = word-shrinks (codes "INT64_C") ▹ parens-shrink (literal-shrinks value)
  expr-shrinks (neg e) = parens-shrink (word-shrinks (codes "-") ▹ expr-shrinks e)
  expr-shrinks (read line leaf) = parens-shrink (word-shrinks (codes "int64_t")) ▹ line-shrinks line (leaf-shrinks leaf)
  expr-shrinks (binary op a b) = parens-shrink (expr-shrinks a ▹ word-shrinks (op_text op) ▹ expr-shrinks b)
  expr-shrinks (pick c a b) =
      parens-shrink
      (cond-shrinks c ▹ word-shrinks (codes "?") ▹ expr-shrinks a ▹ word-shrinks (codes ":") ▹ expr-shrinks b)
  expr-shrinks (pure line name es) = line-shrinks line (name-shrinks name) ▹ parens-shrink (exprs-shrink es)
  expr-shrinks (item line field index) = parens-shrink (word-shrinks (codes "int64_t")) ▹ line-shrinks line (own-shrinks field)
      ▹ brackets-shrink (expr-shrinks index)

  pub exprs-shrink : (es : WrittenExprs) → Shrinks (exprs_spelling es)
  exprs-shrink no_exprs = never-shrinks
  exprs-shrink (more_exprs e es) = expr-shrinks e ▹ more_exprs-shrink es

  pub more_exprs-shrink : (es : WrittenExprs) → Shrinks (more_exprs_spelling es)
  more_exprs-shrink no_exprs = nothing-shrinks
  more_exprs-shrink (more_exprs e es) = word-shrinks (codes ",") ▹ expr-shrinks e ▹ more_exprs-shrink es

  pub cond-shrinks : (c : WrittenCond) → Shrinks (cond_spelling c)
  cond-shrinks (compare how a b) = parens-shrink (expr-shrinks a ▹ word-shrinks (compare_text how) ▹ expr-shrinks b)
  cond-shrinks (both a b) = parens-shrink (cond-shrinks a ▹ word-shrinks (codes "&&") ▹ cond-shrinks b)
  cond-shrinks (either a b) = parens-shrink (cond-shrinks a ▹ word-shrinks (codes "||") ▹ cond-shrinks b)
  cond-shrinks (negated a) = parens-shrink (word-shrinks (codes "!") ▹ cond-shrinks a)

pub cast-shrinks : (type : CType) → Shrinks (cast_spelling type)
cast-shrinks type = parens-shrink (word-shrinks (type_text type))

pub target-shrinks : (target : WrittenTarget) → Shrinks (target_spelling target)
target-shrinks own_target = word-shrinks (codes "s")
target-shrinks (field_target field) = word-shrinks (codes "&") ▹ word-shrinks (codes "s") ▹ word-shrinks (codes "->") ▹ name-shrinks field

pub arguments-shrink : (values : WrittenArguments) → Shrinks (arguments_spelling values)
arguments-shrink no_arguments = nothing-shrinks
arguments-shrink (more_arguments cast e rest) = word-shrinks (codes ",") ▹ cast-shrinks cast ▹ expr-shrinks e ▹ arguments-shrink rest

mutual
  pub stmt-shrinks : (s : WrittenStmt) → Shrinks (stmt_spelling s)
  stmt-shrinks (assign line field cast value) =
      line-shrinks line (word-shrinks (codes "s")) ▹ word-shrinks (codes "->") ▹ name-shrinks field ▹ word-shrinks
      (codes "=") ▹ cast-shrinks cast ▹ expr-shrinks value ▹ word-shrinks (codes ";")
  stmt-shrinks (assign_at line field index cast value) = line-shrinks line (own-shrinks field) ▹ brackets-shrink (expr-shrinks index)
      ▹ word-shrinks (codes "=") ▹ cast-shrinks cast ▹ expr-shrinks value ▹ word-shrinks (codes ";")
  stmt-shrinks (branch line test on_true) =
      line-shrinks line (word-shrinks (codes "if")) ▹ cond-shrinks test ▹ braces-shrink (stmts-shrink on_true)
  stmt-shrinks (branch_else line test on_true on_false) =
      line-shrinks line (word-shrinks (codes "if")) ▹ cond-shrinks test ▹ braces-shrink
      (stmts-shrink on_true) ▹ word-shrinks (codes "else") ▹ braces-shrink (stmts-shrink on_false)
  stmt-shrinks (call line procedure target values) =
      line-shrinks line (name-shrinks procedure) ▹ parens-shrink (target-shrinks target ▹ arguments-shrink values) ▹
      word-shrinks (codes ";")

  pub stmts-shrink : (ss : WrittenStmts) → Shrinks (stmts_spelling ss)
  stmts-shrink no_stmts = nothing-shrinks
  stmts-shrink (more_stmts s ss) = stmt-shrinks s ▹ stmts-shrink ss

pub param-shrinks : (p : WrittenParam) → Shrinks (param_spelling p)
param-shrinks p = line-shrinks p.line (word-shrinks (type_text p.type)) ▹ name-shrinks p.name

pub more_params-shrink : (ps : List WrittenParam) → Shrinks (more_params_spelling ps)
more_params-shrink [] = nothing-shrinks
more_params-shrink (p ∷ ps) = word-shrinks (codes ",") ▹ param-shrinks p ▹ more_params-shrink ps

pub pure_param-shrinks : (p : WrittenPureParam) → Shrinks (pure_param_spelling p)
pure_param-shrinks p = line-shrinks p.line (word-shrinks (codes "int64_t")) ▹ name-shrinks p.name

pub more_pure_params-shrink : (ps : List WrittenPureParam) → Shrinks (more_pure_params_spelling ps)
more_pure_params-shrink [] = nothing-shrinks
more_pure_params-shrink (p ∷ ps) = word-shrinks (codes ",") ▹ pure_param-shrinks p ▹ more_pure_params-shrink ps

pub pure_params-shrink : (ps : List WrittenPureParam) → Shrinks (pure_params_spelling ps)
pure_params-shrink [] = never-shrinks
pure_params-shrink (p ∷ ps) = pure_param-shrinks p ▹ more_pure_params-shrink ps

pub pure-shrinks : (p : WrittenPure) → Shrinks (pure_spelling p)
pure-shrinks p =
    line-shrinks p.line (word-shrinks (codes "static")) ▹ word-shrinks
    (codes "int64_t") ▹ name-shrinks p.name ▹ parens-shrink (pure_params-shrink p.params) ▹ braces-shrink
    (line-shrinks p.return_line (word-shrinks (codes "return")) ▹ expr-shrinks p.body ▹ word-shrinks (codes ";"))

pub kind-shrinks : (kind : WrittenKind) → Shrinks (kind_spelling kind)
kind-shrinks (number_kind type) = word-shrinks (type_text type)
kind-shrinks (array_kind type count) = word-shrinks (type_text type)
kind-shrinks (struct_kind name) = word-shrinks (codes "struct") ▹ name-shrinks name

pub length-shrinks : (kind : WrittenKind) → Shrinks (length_spelling kind)
length-shrinks (number_kind type) = nothing-shrinks
length-shrinks (array_kind type count) = brackets-shrink (literal-shrinks count)
length-shrinks (struct_kind name) = nothing-shrinks

pub field-shrinks : (f : WrittenField) → Shrinks (field_spelling f)
field-shrinks f = line-shrinks f.line (kind-shrinks f.kind) ▹ name-shrinks f.name ▹ length-shrinks f.kind ▹ word-shrinks (codes ";")

pub all-shrink : {A : Type 0} {spelling : A → Spelling} → ((x : A) → Shrinks (spelling x)) → (xs : List A) →
    Shrinks (all_spelling spelling xs)
all-shrink each [] = nothing-shrinks
all-shrink each (x ∷ xs) = each x ▹ all-shrink each xs

pub some-shrink : {A : Type 0} {spelling : A → Spelling} → ((x : A) → Shrinks (spelling x)) → (xs : List A) →
    Shrinks (some_spelling spelling xs)
some-shrink each [] = never-shrinks
some-shrink each (x ∷ xs) = each x ▹ all-shrink each xs

pub struct-shrinks : (d : WrittenStruct) → Shrinks (struct_spelling d)
struct-shrinks d =
    line-shrinks d.line (word-shrinks (codes "struct")) ▹ name-shrinks d.name ▹ braces-shrink
    (some-shrink field-shrinks d.fields) ▹ word-shrinks (codes ";")

pub private-shrinks : (private : Bool) → Shrinks (private_spelling private)
private-shrinks true = word-shrinks (codes "static") ▹ word-shrinks (codes "void")
private-shrinks false = word-shrinks (codes "void")

pub procedure-shrinks : (p : WrittenProcedure) → Shrinks (procedure_spelling p)
procedure-shrinks p =
    line-shrinks p.line (private-shrinks p.private) ▹ name-shrinks p.name ▹ parens-shrink
    (word-shrinks (codes "struct") ▹ name-shrinks p.of ▹ word-shrinks (codes "*") ▹ word-shrinks
    (codes "s") ▹ more_params-shrink p.params) ▹ braces-shrink (stmts-shrink p.body)

-- it takes a token at least
pub record Takes (a : Spelling) : Type 0 where
  pub by : (tokens rest : List Token) → a tokens ≡ Some rest → length rest < length tokens

infixr 25 ◌▸◌
pub ◌▸◌ : {a b : Spelling} → Takes a → Shrinks b → Takes (a ⨾ b)
◌▸◌ {a} {b} first second = record {
  by = λ tokens rest h. let p : _ = seq-parts a b tokens rest h in let one : length p.0 < length tokens =
      first.by tokens p.0 p.1 in let two : length rest ≤ length p.0 = second.by p.0 rest p.2 in omega arith;
}

pub word-takes : (text : List ℕ) → Takes (word text)
word-takes text = record { by = λ tokens rest h. let f : Front text tokens rest = word-front text tokens rest h in rw f.list (omega arith) }

pub line-takes : {a : Spelling} (line : ℕ) → Takes a → Takes (at_line line a)
line-takes {a} line inner = record { by = λ tokens rest h. inner.by tokens rest (at_line-inner line a tokens rest h) }

pub kind-takes : (kind : WrittenKind) → Takes (kind_spelling kind)
kind-takes (number_kind type) = word-takes (type_text type)
kind-takes (array_kind type count) = word-takes (type_text type)
kind-takes (struct_kind name) = word-takes (codes "struct") ▸ name-shrinks name

pub field-takes : (f : WrittenField) → Takes (field_spelling f)
field-takes f = line-takes f.line (kind-takes f.kind) ▸ name-shrinks f.name ▹ length-shrinks f.kind ▹ word-shrinks (codes ";")

pub pure-takes : (p : WrittenPure) → Takes (pure_spelling p)
pure-takes p =
    line-takes p.line (word-takes (codes "static")) ▸ word-shrinks
    (codes "int64_t") ▹ name-shrinks p.name ▹ parens-shrink (pure_params-shrink p.params) ▹ braces-shrink
    (line-shrinks p.return_line (word-shrinks (codes "return")) ▹ expr-shrinks p.body ▹ word-shrinks (codes ";"))

pub struct-takes : (d : WrittenStruct) → Takes (struct_spelling d)
struct-takes d =
    line-takes d.line (word-takes (codes "struct")) ▸ name-shrinks d.name ▹ braces-shrink
    (some-shrink field-shrinks d.fields) ▹ word-shrinks (codes ";")

pub private-takes : (private : Bool) → Takes (private_spelling private)
private-takes true = word-takes (codes "static") ▸ word-shrinks (codes "void")
private-takes false = word-takes (codes "void")

pub procedure-takes : (p : WrittenProcedure) → Takes (procedure_spelling p)
procedure-takes p =
    line-takes p.line (private-takes p.private) ▸ name-shrinks p.name ▹ parens-shrink
    (word-shrinks (codes "struct") ▹ name-shrinks p.of ▹ word-shrinks (codes "*") ▹ word-shrinks
    (codes "s") ▹ more_params-shrink p.params) ▹ braces-shrink (stmts-shrink p.body)

-- so there are no more of such things than tokens
pub all-few : {A : Type 0} (spelling : A → Spelling) → ((x : A) → Takes (spelling x)) →
    (xs : List A) (tokens rest : List Token) → all_spelling spelling xs tokens ≡ Some rest →
    length xs + length rest ≤ length tokens
all-few spelling each [] tokens rest h = rw (some_same tokens rest h) (omega arith)
all-few spelling each (x ∷ xs) tokens rest h =
    let p : _ = seq-parts (spelling x) (all_spelling spelling xs) tokens rest h in
    let one : length p.0 < length tokens = (each x).by tokens p.0 p.1 in
    let two : length xs + length rest ≤ length p.0 = all-few spelling each xs p.0 rest p.2 in
    omega arith

pub more_params-few : (ps : List WrittenParam) (tokens rest : List Token) → more_params_spelling ps tokens ≡ Some rest →
    length ps + length rest ≤ length tokens
more_params-few [] tokens rest h = rw (some_same tokens rest h) (omega arith)
more_params-few (p ∷ ps) tokens rest h =
    let q : _ = seq-parts (word (codes ",")) (param_spelling p ⨾ more_params_spelling ps) tokens rest h in
    let r : _ = seq-parts (param_spelling p) (more_params_spelling ps) q.0 rest q.2 in
    let one : length q.0 < length tokens = (word-takes (codes ",")).by tokens q.0 q.1 in
    let two : length r.0 ≤ length q.0 = (param-shrinks p).by q.0 r.0 r.1 in
    let three : length ps + length rest ≤ length r.0 = more_params-few ps r.0 rest r.2 in
    omega arith

pub more_pure_params-few : (ps : List WrittenPureParam) (tokens rest : List Token) →
    more_pure_params_spelling ps tokens ≡ Some rest → length ps + length rest ≤ length tokens
more_pure_params-few [] tokens rest h = rw (some_same tokens rest h) (omega arith)
more_pure_params-few (p ∷ ps) tokens rest h =
    let q : _ = seq-parts (word (codes ",")) (pure_param_spelling p ⨾ more_pure_params_spelling ps) tokens rest h in
    let r : _ = seq-parts (pure_param_spelling p) (more_pure_params_spelling ps) q.0 rest q.2 in
    let one : length q.0 < length tokens = (word-takes (codes ",")).by tokens q.0 q.1 in
    let two : length r.0 ≤ length q.0 = (pure_param-shrinks p).by q.0 r.0 r.1 in
    let three : length ps + length rest ≤ length r.0 = more_pure_params-few ps r.0 rest r.2 in
    omega arith
