-- What the grammar says of a written program itself: its names are names, its literals have at most 63 bits, and no
-- list is empty that may not be.
use Rattle.std.proofs.Common.{◌≡◌, refl, ℕ, suc, ◌^◌, ◌<◌, List, [], ◌∷◌, length, Some, Bool, true, false, if◌then◌else◌, nat_lt, decimal, codes, arith, leb-true}
use Rattle.std.specs.List.{AllByRecursion}
use Rattle.c_grammar.specs.Tokens.{Token}
use Rattle.c_syntax.specs.Names.{is_name}
use Rattle.c_grammar.specs.Written.{WrittenExpr, WrittenExprs, WrittenCond, WrittenArguments, WrittenStmt, WrittenStmts, WrittenParam, WrittenPureParam, WrittenPure, WrittenField, WrittenStruct, WrittenProcedure, WrittenProgram}
use Rattle.c_grammar.specs.Grammar.{Spelling, ◌⨾◌, never, word, at_line, name_word, literal_word, in_parens, in_brackets, in_braces, type_text, op_text, compare_text, own_spelling, expr_spelling, more_exprs_spelling, cond_spelling, target_spelling, cast_spelling, arguments_spelling, stmt_spelling, stmts_spelling, param_spelling, more_params_spelling, pure_param_spelling, more_pure_params_spelling, pure_params_spelling, pure_spelling, kind_spelling, length_spelling, field_spelling, all_spelling, some_spelling, struct_spelling, private_spelling, procedure_spelling, Spells}
use Rattle.c_grammar.proofs.lemmas.PrefixLaws.{seq-parts, name_word-inner}
use Rattle.c_reading_laws.proofs.LawfulBodies.{SmallExpr, SmallExprs, SmallCond, SmallArguments, SmallStmt, SmallStmts}

-- what is between `(` and `)`, `[` and `]`, or `{` and `}`
inner : (open_text close_text : List ℕ) (a : Spelling) (tokens rest : List Token) →
    (word open_text ⨾ a ⨾ word close_text) tokens ≡ Some rest →
    (start : List Token) × (end : List Token) × (a start ≡ Some end)
inner open_text close_text a tokens rest h =
    let p : _ = seq-parts (word open_text) (a ⨾ word close_text) tokens rest h in
    let q : _ = seq-parts a (word close_text) p.0 rest p.2 in
    (p.0, q.0, q.1)

literal-small : (value : ℕ) (tokens rest : List Token) → literal_word value tokens ≡ Some rest → value < 2 ^ 63
literal-small value tokens rest h = by (nat_lt value (2 ^ 63)) refl h
  where
    by : (b : Bool) → nat_lt value (2 ^ 63) ≡ b → (if b then word (decimal value) else never) tokens ≡ Some rest → value < 2 ^ 63
    by true e k = leb-true (suc value) (2 ^ 63) e
    by false e k = cc

mutual
  pub expr-small : (e : WrittenExpr) (tokens rest : List Token) → expr_spelling e tokens ≡ Some rest → SmallExpr e
  expr-small (WrittenExpr.literal value) tokens rest h =
      let p : _ = seq-parts (word (codes "INT64_C")) (in_parens (literal_word value)) tokens rest h in
      let q : _ = inner (codes "(") (codes ")") (literal_word value) p.0 rest p.2 in
      literal-small value q.0 q.1 q.2
  expr-small (WrittenExpr.neg e) tokens rest h =
      let q : _ = inner (codes "(") (codes ")") (word (codes "-") ⨾ expr_spelling e) tokens rest h in
      let p : _ = seq-parts (word (codes "-")) (expr_spelling e) q.0 q.1 q.2 in
      expr-small e p.0 q.1 p.2
  expr-small (WrittenExpr.read line leaf) tokens rest h = tt
  expr-small (WrittenExpr.binary op a b) tokens rest h =
      let q : _ = inner (codes "(") (codes ")") (expr_spelling a ⨾ word (op_text op) ⨾ expr_spelling b) tokens rest h in
      let p : _ = seq-parts (expr_spelling a) (word (op_text op) ⨾ expr_spelling b) q.0 q.1 q.2 in
      let r : _ = seq-parts (word (op_text op)) (expr_spelling b) p.0 q.1 p.2 in
      (expr-small a q.0 p.0 p.1, expr-small b r.0 q.1 r.2)
  expr-small (WrittenExpr.pick test a b) tokens rest h =
      let q : _ =
      inner (codes "(") (codes ")") (cond_spelling test ⨾ word (codes "?") ⨾ expr_spelling a ⨾ word (codes ":")
      ⨾ expr_spelling b) tokens rest h in
      let p : _ = seq-parts (cond_spelling test) (word (codes "?") ⨾ expr_spelling a ⨾ word (codes ":") ⨾ expr_spelling b) q.0 q.1 q.2 in
      let r : _ = seq-parts (word (codes "?")) (expr_spelling a ⨾ word (codes ":") ⨾ expr_spelling b) p.0 q.1 p.2 in
      let t : _ = seq-parts (expr_spelling a) (word (codes ":") ⨾ expr_spelling b) r.0 q.1 r.2 in
      let u : _ = seq-parts (word (codes ":")) (expr_spelling b) t.0 q.1 t.2 in
      (cond-small test q.0 p.0 p.1, expr-small a r.0 t.0 t.1, expr-small b u.0 q.1 u.2)
  expr-small (WrittenExpr.pure line function WrittenExprs.no_exprs) tokens rest h = tt
  expr-small (WrittenExpr.pure line function (WrittenExprs.more_exprs e es)) tokens rest h =
      let p : _ = seq-parts (at_line line (name_word function)) (in_parens (expr_spelling e ⨾ more_exprs_spelling es)) tokens rest h in
      let q : _ = inner (codes "(") (codes ")") (expr_spelling e ⨾ more_exprs_spelling es) p.0 rest p.2 in
      let r : _ = seq-parts (expr_spelling e) (more_exprs_spelling es) q.0 q.1 q.2 in
      (expr-small e q.0 r.0 r.1, more_exprs-small es r.0 q.1 r.2)
  expr-small (WrittenExpr.item line field index) tokens rest h =
      let p : _ =
      seq-parts (in_parens (word (codes "int64_t"))) (at_line line (own_spelling field)
      ⨾ in_brackets (expr_spelling index)) tokens rest h in
      let r : _ = seq-parts (at_line line (own_spelling field)) (in_brackets (expr_spelling index)) p.0 rest p.2 in
      let q : _ = inner (codes "[") (codes "]") (expr_spelling index) r.0 rest r.2 in
      expr-small index q.0 q.1 q.2

  pub more_exprs-small : (es : WrittenExprs) (tokens rest : List Token) → more_exprs_spelling es tokens ≡ Some rest → SmallExprs es
  more_exprs-small WrittenExprs.no_exprs tokens rest h = tt
  more_exprs-small (WrittenExprs.more_exprs e es) tokens rest h =
      let p : _ = seq-parts (word (codes ",")) (expr_spelling e ⨾ more_exprs_spelling es) tokens rest h in
      let r : _ = seq-parts (expr_spelling e) (more_exprs_spelling es) p.0 rest p.2 in
      (expr-small e p.0 r.0 r.1, more_exprs-small es r.0 rest r.2)

  pub cond-small : (c : WrittenCond) (tokens rest : List Token) → cond_spelling c tokens ≡ Some rest → SmallCond c
  cond-small (WrittenCond.compare how a b) tokens rest h =
      let q : _ = inner (codes "(") (codes ")") (expr_spelling a ⨾ word (compare_text how) ⨾ expr_spelling b) tokens rest h in
      let p : _ = seq-parts (expr_spelling a) (word (compare_text how) ⨾ expr_spelling b) q.0 q.1 q.2 in
      let r : _ = seq-parts (word (compare_text how)) (expr_spelling b) p.0 q.1 p.2 in
      (expr-small a q.0 p.0 p.1, expr-small b r.0 q.1 r.2)
  cond-small (WrittenCond.both a b) tokens rest h =
      let q : _ = inner (codes "(") (codes ")") (cond_spelling a ⨾ word (codes "&&") ⨾ cond_spelling b) tokens rest h in
      let p : _ = seq-parts (cond_spelling a) (word (codes "&&") ⨾ cond_spelling b) q.0 q.1 q.2 in
      let r : _ = seq-parts (word (codes "&&")) (cond_spelling b) p.0 q.1 p.2 in
      (cond-small a q.0 p.0 p.1, cond-small b r.0 q.1 r.2)
  cond-small (WrittenCond.either a b) tokens rest h =
      let q : _ = inner (codes "(") (codes ")") (cond_spelling a ⨾ word (codes "||") ⨾ cond_spelling b) tokens rest h in
      let p : _ = seq-parts (cond_spelling a) (word (codes "||") ⨾ cond_spelling b) q.0 q.1 q.2 in
      let r : _ = seq-parts (word (codes "||")) (cond_spelling b) p.0 q.1 p.2 in
      (cond-small a q.0 p.0 p.1, cond-small b r.0 q.1 r.2)
  cond-small (WrittenCond.negated a) tokens rest h =
      let q : _ = inner (codes "(") (codes ")") (word (codes "!") ⨾ cond_spelling a) tokens rest h in
      let p : _ = seq-parts (word (codes "!")) (cond_spelling a) q.0 q.1 q.2 in
      cond-small a p.0 q.1 p.2

arguments-small : (values : WrittenArguments) (tokens rest : List Token) →
    arguments_spelling values tokens ≡ Some rest → SmallArguments values
arguments-small WrittenArguments.no_arguments tokens rest h = tt
arguments-small (WrittenArguments.more_arguments cast e values) tokens rest h =
    let p : _ = seq-parts (word (codes ",")) (cast_spelling cast ⨾ expr_spelling e ⨾ arguments_spelling values) tokens rest h in
    let q : _ = seq-parts (cast_spelling cast) (expr_spelling e ⨾ arguments_spelling values) p.0 rest p.2 in
    let r : _ = seq-parts (expr_spelling e) (arguments_spelling values) q.0 rest q.2 in
    (expr-small e q.0 r.0 r.1, arguments-small values r.0 rest r.2)

mutual
  pub stmt-small : (s : WrittenStmt) (tokens rest : List Token) → stmt_spelling s tokens ≡ Some rest → SmallStmt s
  stmt-small (WrittenStmt.assign line field cast value) tokens rest h =
      let p : _ =
      seq-parts (at_line line (word (codes "s"))) (word (codes "->") ⨾ name_word field ⨾ word (codes "=")
      ⨾ cast_spelling cast ⨾ expr_spelling value ⨾ word (codes ";")) tokens rest h in
      let q : _ =
      seq-parts (word (codes "->")) (name_word field ⨾ word (codes "=") ⨾ cast_spelling cast ⨾ expr_spelling value
      ⨾ word (codes ";")) p.0 rest p.2 in
      let r : _ =
      seq-parts (name_word field) (word (codes "=") ⨾ cast_spelling cast ⨾ expr_spelling value ⨾ word (codes ";"))
      q.0 rest q.2 in
      let t : _ = seq-parts (word (codes "=")) (cast_spelling cast ⨾ expr_spelling value ⨾ word (codes ";")) r.0 rest r.2 in
      let u : _ = seq-parts (cast_spelling cast) (expr_spelling value ⨾ word (codes ";")) t.0 rest t.2 in
      let v : _ = seq-parts (expr_spelling value) (word (codes ";")) u.0 rest u.2 in
      expr-small value u.0 v.0 v.1
  stmt-small (WrittenStmt.assign_at line field index cast value) tokens rest h =
      let p : _ =
      seq-parts (at_line line (own_spelling field)) (in_brackets (expr_spelling index) ⨾ word (codes "=")
      ⨾ cast_spelling cast ⨾ expr_spelling value ⨾ word (codes ";")) tokens rest h in
      let q : _ =
      seq-parts (in_brackets (expr_spelling index)) (word (codes "=") ⨾ cast_spelling cast ⨾ expr_spelling value
      ⨾ word (codes ";")) p.0 rest p.2 in
      let i : _ = inner (codes "[") (codes "]") (expr_spelling index) p.0 q.0 q.1 in
      let t : _ = seq-parts (word (codes "=")) (cast_spelling cast ⨾ expr_spelling value ⨾ word (codes ";")) q.0 rest q.2 in
      let u : _ = seq-parts (cast_spelling cast) (expr_spelling value ⨾ word (codes ";")) t.0 rest t.2 in
      let v : _ = seq-parts (expr_spelling value) (word (codes ";")) u.0 rest u.2 in
      (expr-small index i.0 i.1 i.2, expr-small value u.0 v.0 v.1)
  stmt-small (WrittenStmt.branch line test xs) tokens rest h =
      let p : _ = seq-parts (at_line line (word (codes "if"))) (cond_spelling test ⨾ in_braces (stmts_spelling xs)) tokens rest h in
      let q : _ = seq-parts (cond_spelling test) (in_braces (stmts_spelling xs)) p.0 rest p.2 in
      let r : _ = inner (codes "{") (codes "}") (stmts_spelling xs) q.0 rest q.2 in
      (cond-small test p.0 q.0 q.1, stmts-small xs r.0 r.1 r.2)
  stmt-small (WrittenStmt.branch_else line test xs ys) tokens rest h =
      let p : _ =
      seq-parts (at_line line (word (codes "if"))) (cond_spelling test ⨾ in_braces (stmts_spelling xs)
      ⨾ word (codes "else") ⨾ in_braces (stmts_spelling ys)) tokens rest h in
      let q : _ =
      seq-parts (cond_spelling test) (in_braces (stmts_spelling xs) ⨾ word (codes "else")
      ⨾ in_braces (stmts_spelling ys)) p.0 rest p.2 in
      let t : _ = seq-parts (in_braces (stmts_spelling xs)) (word (codes "else") ⨾ in_braces (stmts_spelling ys)) q.0 rest q.2 in
      let u : _ = seq-parts (word (codes "else")) (in_braces (stmts_spelling ys)) t.0 rest t.2 in
      let r : _ = inner (codes "{") (codes "}") (stmts_spelling xs) q.0 t.0 t.1 in
      let v : _ = inner (codes "{") (codes "}") (stmts_spelling ys) u.0 rest u.2 in
      (cond-small test p.0 q.0 q.1, stmts-small xs r.0 r.1 r.2, stmts-small ys v.0 v.1 v.2)
  stmt-small (WrittenStmt.call line procedure target values) tokens rest h =
      let p : _ =
      seq-parts (at_line line (name_word procedure)) (in_parens (target_spelling target ⨾ arguments_spelling values)
      ⨾ word (codes ";")) tokens rest h in
      let t : _ = seq-parts (in_parens (target_spelling target ⨾ arguments_spelling values)) (word (codes ";")) p.0 rest p.2 in
      let q : _ = inner (codes "(") (codes ")") (target_spelling target ⨾ arguments_spelling values) p.0 t.0 t.1 in
      let r : _ = seq-parts (target_spelling target) (arguments_spelling values) q.0 q.1 q.2 in
      arguments-small values r.0 q.1 r.2

  pub stmts-small : (ss : WrittenStmts) (tokens rest : List Token) → stmts_spelling ss tokens ≡ Some rest → SmallStmts ss
  stmts-small WrittenStmts.no_stmts tokens rest h = tt
  stmts-small (WrittenStmts.more_stmts s ss) tokens rest h =
      let p : _ = seq-parts (stmt_spelling s) (stmts_spelling ss) tokens rest h in
      (stmt-small s tokens p.0 p.1, stmts-small ss p.0 rest p.2)

pub record WellPure (w : WrittenPure) : Type 0 where
  pub name : is_name w.name ≡ true
  pub params : AllByRecursion (λ q. is_name q.name ≡ true) w.params
  pub some : 0 < length w.params
  pub body : SmallExpr w.body

pub record WellStruct (w : WrittenStruct) : Type 0 where
  pub name : is_name w.name ≡ true
  pub fields : AllByRecursion (λ f. is_name f.name ≡ true) w.fields
  pub some : 0 < length w.fields

pub record WellProcedure (w : WrittenProcedure) : Type 0 where
  pub name : is_name w.name ≡ true
  pub params : AllByRecursion (λ q. is_name q.name ≡ true) w.params
  pub body : SmallStmts w.body

pub record WellWritten (w : WrittenProgram) : Type 0 where
  pub pures : AllByRecursion WellPure w.pures
  pub structs : AllByRecursion WellStruct w.structs
  pub procedures : AllByRecursion WellProcedure w.procedures

more_params-names : (ps : List WrittenParam) (tokens rest : List Token) → more_params_spelling ps tokens ≡ Some rest →
    AllByRecursion (λ q. is_name q.name ≡ true) ps
more_params-names [] tokens rest h = tt
more_params-names (x ∷ ps) tokens rest h =
    let p : _ = seq-parts (word (codes ",")) (param_spelling x ⨾ more_params_spelling ps) tokens rest h in
    let q : _ = seq-parts (param_spelling x) (more_params_spelling ps) p.0 rest p.2 in
    let r : _ = seq-parts (at_line x.line (word (type_text x.type))) (name_word x.name) p.0 q.0 q.1 in
    ((name_word-inner x.name r.0 q.0 r.2).0, more_params-names ps q.0 rest q.2)

pure_param-name : (x : WrittenPureParam) (tokens rest : List Token) → pure_param_spelling x tokens ≡ Some rest → is_name x.name ≡ true
pure_param-name x tokens rest h =
    let r : _ = seq-parts (at_line x.line (word (codes "int64_t"))) (name_word x.name) tokens rest h in
    (name_word-inner x.name r.0 rest r.2).0

more_pure_params-names : (ps : List WrittenPureParam) (tokens rest : List Token) →
    more_pure_params_spelling ps tokens ≡ Some rest → AllByRecursion (λ q. is_name q.name ≡ true) ps
more_pure_params-names [] tokens rest h = tt
more_pure_params-names (x ∷ ps) tokens rest h =
    let p : _ = seq-parts (word (codes ",")) (pure_param_spelling x ⨾ more_pure_params_spelling ps) tokens rest h in
    let q : _ = seq-parts (pure_param_spelling x) (more_pure_params_spelling ps) p.0 rest p.2 in
    (pure_param-name x p.0 q.0 q.1, more_pure_params-names ps q.0 rest q.2)

pure_params-names : (ps : List WrittenPureParam) (tokens rest : List Token) →
    pure_params_spelling ps tokens ≡ Some rest → AllByRecursion (λ q. is_name q.name ≡ true) ps × (0 < length ps)
pure_params-names [] tokens rest h = cc
pure_params-names (x ∷ ps) tokens rest h =
    let q : _ = seq-parts (pure_param_spelling x) (more_pure_params_spelling ps) tokens rest h in
    ((pure_param-name x tokens q.0 q.1, more_pure_params-names ps q.0 rest q.2), omega arith)

pure-well : (w : WrittenPure) (tokens rest : List Token) → pure_spelling w tokens ≡ Some rest → WellPure w
pure-well w tokens rest h =
    let tail : Spelling = at_line w.return_line (word (codes "return")) ⨾ expr_spelling w.body ⨾ word (codes ";") in
    let p : _ =
    seq-parts (at_line w.line (word (codes "static"))) (word (codes "int64_t") ⨾ name_word w.name
    ⨾ in_parens (pure_params_spelling w.params) ⨾ in_braces tail) tokens rest h in
    let q : _ =
    seq-parts (word (codes "int64_t")) (name_word w.name ⨾ in_parens (pure_params_spelling w.params)
    ⨾ in_braces tail) p.0 rest p.2 in
    let r : _ = seq-parts (name_word w.name) (in_parens (pure_params_spelling w.params) ⨾ in_braces tail) q.0 rest q.2 in
    let t : _ = seq-parts (in_parens (pure_params_spelling w.params)) (in_braces tail) r.0 rest r.2 in
    let a : _ = inner (codes "(") (codes ")") (pure_params_spelling w.params) r.0 t.0 t.1 in
    let b : _ = inner (codes "{") (codes "}") tail t.0 rest t.2 in
    let u : _ = seq-parts (at_line w.return_line (word (codes "return"))) (expr_spelling w.body ⨾ word (codes ";")) b.0 b.1 b.2 in
    let v : _ = seq-parts (expr_spelling w.body) (word (codes ";")) u.0 b.1 u.2 in
    let ps : _ = pure_params-names w.params a.0 a.1 a.2 in
    record { name = (name_word-inner w.name q.0 r.0 r.1).0; params = ps.0; some = ps.1; body = expr-small w.body u.0 v.0 v.1 }

field-name : (f : WrittenField) (tokens rest : List Token) → field_spelling f tokens ≡ Some rest → is_name f.name ≡ true
field-name f tokens rest h =
    let p : _ =
    seq-parts (at_line f.line (kind_spelling f.kind)) (name_word f.name ⨾ length_spelling f.kind ⨾ word (codes ";"))
    tokens rest h in
    let q : _ = seq-parts (name_word f.name) (length_spelling f.kind ⨾ word (codes ";")) p.0 rest p.2 in
    (name_word-inner f.name p.0 q.0 q.1).0

fields-names : (fs : List WrittenField) (tokens rest : List Token) → all_spelling field_spelling fs tokens ≡ Some rest →
    AllByRecursion (λ f. is_name f.name ≡ true) fs
fields-names [] tokens rest h = tt
fields-names (f ∷ fs) tokens rest h =
    let p : _ = seq-parts (field_spelling f) (all_spelling field_spelling fs) tokens rest h in
    (field-name f tokens p.0 p.1, fields-names fs p.0 rest p.2)

some_fields-names : (fs : List WrittenField) (tokens rest : List Token) →
    some_spelling field_spelling fs tokens ≡ Some rest →
    AllByRecursion (λ f. is_name f.name ≡ true) fs × (0 < length fs)
some_fields-names [] tokens rest h = cc
some_fields-names (f ∷ fs) tokens rest h =
    let p : _ = seq-parts (field_spelling f) (all_spelling field_spelling fs) tokens rest h in
    ((field-name f tokens p.0 p.1, fields-names fs p.0 rest p.2), omega arith)

struct-well : (d : WrittenStruct) (tokens rest : List Token) → struct_spelling d tokens ≡ Some rest → WellStruct d
struct-well d tokens rest h =
    let p : _ =
    seq-parts (at_line d.line (word (codes "struct")))
    (name_word d.name ⨾ in_braces (some_spelling field_spelling d.fields) ⨾ word (codes ";")) tokens rest h in
    let q : _ = seq-parts (name_word d.name) (in_braces (some_spelling field_spelling d.fields) ⨾ word (codes ";")) p.0 rest p.2 in
    let r : _ = seq-parts (in_braces (some_spelling field_spelling d.fields)) (word (codes ";")) q.0 rest q.2 in
    let b : _ = inner (codes "{") (codes "}") (some_spelling field_spelling d.fields) q.0 r.0 r.1 in
    let fs : _ = some_fields-names d.fields b.0 b.1 b.2 in
    record { name = (name_word-inner d.name p.0 q.0 q.1).0; fields = fs.0; some = fs.1 }

procedure-well : (w : WrittenProcedure) (tokens rest : List Token) → procedure_spelling w tokens ≡ Some rest → WellProcedure w
procedure-well w tokens rest h =
    let head : Spelling = word (codes "struct") ⨾ name_word w.of ⨾ word (codes "*") ⨾ word (codes "s") ⨾ more_params_spelling w.params in
    let p : _ =
    seq-parts (at_line w.line (private_spelling w.private)) (name_word w.name ⨾ in_parens head
    ⨾ in_braces (stmts_spelling w.body)) tokens rest h in
    let q : _ = seq-parts (name_word w.name) (in_parens head ⨾ in_braces (stmts_spelling w.body)) p.0 rest p.2 in
    let r : _ = seq-parts (in_parens head) (in_braces (stmts_spelling w.body)) q.0 rest q.2 in
    let a : _ = inner (codes "(") (codes ")") head q.0 r.0 r.1 in
    let b : _ = inner (codes "{") (codes "}") (stmts_spelling w.body) r.0 rest r.2 in
    let t : _ =
    seq-parts (word (codes "struct")) (name_word w.of ⨾ word (codes "*") ⨾ word (codes "s")
    ⨾ more_params_spelling w.params) a.0 a.1 a.2 in
    let u : _ = seq-parts (name_word w.of) (word (codes "*") ⨾ word (codes "s") ⨾ more_params_spelling w.params) t.0 a.1 t.2 in
    let v : _ = seq-parts (word (codes "*")) (word (codes "s") ⨾ more_params_spelling w.params) u.0 a.1 u.2 in
    let z : _ = seq-parts (word (codes "s")) (more_params_spelling w.params) v.0 a.1 v.2 in
    record {
      name = (name_word-inner w.name p.0 q.0 q.1).0;
      params = more_params-names w.params z.0 a.1 z.2;
      body = stmts-small w.body b.0 b.1 b.2;
    }

all-well : {A : Type 0} (spelling : A → Spelling) (Well : A → Type 0) →
    ((x : A) (tokens rest : List Token) → spelling x tokens ≡ Some rest → Well x) →
    (xs : List A) (tokens rest : List Token) → all_spelling spelling xs tokens ≡ Some rest → AllByRecursion Well xs
all-well spelling Well one [] tokens rest h = tt
all-well spelling Well one (x ∷ xs) tokens rest h =
    let p : _ = seq-parts (spelling x) (all_spelling spelling xs) tokens rest h in
    (one x tokens p.0 p.1, all-well spelling Well one xs p.0 rest p.2)

some-well : {A : Type 0} (spelling : A → Spelling) (Well : A → Type 0) →
    ((x : A) (tokens rest : List Token) → spelling x tokens ≡ Some rest → Well x) →
    (xs : List A) (tokens rest : List Token) → some_spelling spelling xs tokens ≡ Some rest → AllByRecursion Well xs
some-well spelling Well one [] tokens rest h = tt
some-well spelling Well one (x ∷ xs) tokens rest h =
    let p : _ = seq-parts (spelling x) (all_spelling spelling xs) tokens rest h in
    (one x tokens p.0 p.1, all-well spelling Well one xs p.0 rest p.2)

pub spelled-well : (w : WrittenProgram) (tokens : List Token) → Spells tokens w → WellWritten w
spelled-well w tokens h =
    let p : _ =
    seq-parts (all_spelling pure_spelling w.pures) (some_spelling struct_spelling w.structs
    ⨾ some_spelling procedure_spelling w.procedures) tokens [] h in
    let q : _ = seq-parts (some_spelling struct_spelling w.structs) (some_spelling procedure_spelling w.procedures) p.0 [] p.2 in
    record {
      pures = all-well pure_spelling WellPure pure-well w.pures tokens p.0 p.1;
      structs = some-well struct_spelling WellStruct struct-well w.structs p.0 q.0 q.1;
      procedures = some-well procedure_spelling WellProcedure procedure-well w.procedures q.0 [] q.2;
    }
