-- Walks along statements, definitions and whole files.
use Rattle.std.proofs.Common.{◌≡◌, refl, sym, ◌∙◌, ap, ℕ, ◌+◌, List, [], ◌∷◌, ◌++◌, Some, Bool, true, false, if◌then◌else◌, nat_le, codes, bytes_eq, subst, append_assoc}
use Rattle.c_syntax.specs.declared.code.CType.{CType}
use Rattle.c_syntax.specs.declared.code.CType.TheVariants.{I8, U8, I16, U16, I32, U32, I64}
use Rattle.c_grammar.specs.Tokens.{Token}
use Rattle.c_syntax.specs.Kinds.{WrittenKind, number_kind, array_kind, struct_kind}
use Rattle.c_grammar.specs.Written.{WrittenTarget, own_target, field_target, WrittenArguments, no_arguments, more_arguments, WrittenStmt, assign, assign_at, branch, branch_else, call, WrittenStmts, no_stmts, more_stmts, WrittenParam, WrittenPureParam, WrittenPure, WrittenField, WrittenStruct, WrittenProcedure, WrittenProgram}
use Rattle.c_grammar.specs.Grammar.{Spelling, ◌⨾◌, word, at_line, name_word, in_parens, in_brackets, in_braces, literal_word, type_text, own_spelling, cast_spelling, expr_spelling, cond_spelling, target_spelling, arguments_spelling, stmt_spelling, stmts_spelling, param_spelling, more_params_spelling, pure_param_spelling, more_pure_params_spelling, pure_params_spelling, pure_spelling, kind_spelling, length_spelling, field_spelling, all_spelling, some_spelling, struct_spelling, private_spelling, procedure_spelling, Spells}
use Rattle.c_grammar.specs.Prefix.{Need, too_deep, leaves, step_needs, with_needs, as_kind, expression, condition, text_need, name_need, literal_need, type_need, index_need, length_need, target_need, arguments_need, stmts_need, else_need, param_need, params_need, pure_param_need, pure_params_need, field_need, fields_need, pures_need, structs_need, procedures_need, expr_need, cond_need, struct_needs, procedure_needs, pure_needs, file_needs}
use Rattle.c_syntax.specs.Limits.{stmt_limit, param_limit, pure_limit}
use Rattle.c_grammar.specs.Openings.{Opening, none, statement, parameter, pure_function, expr_openings, target_openings, arguments_openings, stmt_openings, stmts_openings, more_params_openings, more_pure_params_openings, pure_params_openings, pure_openings, pures_openings, kind_openings, length_openings, fields_openings, structs_openings, private_openings, procedures_openings, openings}
use Rattle.c_grammar.proofs.lemmas.PrefixLaws.{Front, word-front, some_same, seq-parts, at_line-inner, name_word-inner, not_word, limited, Parens, parens-parts, Brackets, brackets-parts, Firm, word-firm}
use Rattle.c_reading_laws.proofs.Walks.{AgreeOn, Walk, ◌▸◌, opening-walk, word-walk, agree-walk, same-walk, reopened}
use Rattle.c_reading_laws.proofs.ExprWalks.{name-walk, literal-walk, expr-walk, cond-walk}

-- the parts of a spelling in braces
pub record Braces (a : Spelling) (tokens rest : List Token) : Type 0 where
  pub inner : List Token
  pub behind : List Token
  pub start : word (codes "{") tokens ≡ Some inner
  pub body : a inner ≡ Some behind
  pub close : word (codes "}") behind ≡ Some rest

pub braces-parts : (a : Spelling) (tokens rest : List Token) → in_braces a tokens ≡ Some rest → Braces a tokens rest
braces-parts a tokens rest h =
    let p : _ = seq-parts (word (codes "{")) (a ⨾ word (codes "}")) tokens rest h in
    let q : _ = seq-parts a (word (codes "}")) p.0 rest p.2 in
    record { inner = p.0; behind = q.0; start = p.1; body = q.1; close = q.2 }

-- a text where it is needed
text-walk : (text : List ℕ) → bytes_eq text text ≡ true → (tokens rest : List Token) → word text tokens ≡ Some rest →
    (more : List Need) → Walk (none ∷ []) tokens (text_need text ∷ more) rest more
text-walk text same tokens rest h more = word-walk text tokens rest h (text_need text ∷ more) more (rw same refl)

type-walk : (type : CType) (tokens rest : List Token) → word (type_text type) tokens ≡ Some rest → (more : List Need) →
    Walk (none ∷ []) tokens (type_need ∷ more) rest more
type-walk type tokens rest h more = word-walk (type_text type) tokens rest h (type_need ∷ more) more (by type)
  where
    by : (t : CType) → step_needs (type_need ∷ more) (type_text t) ≡ leaves more
    by I8 = refl
    by U8 = refl
    by I16 = refl
    by U16 = refl
    by I32 = refl
    by U32 = refl
    by I64 = refl

cast-walk : (type : CType) (tokens rest : List Token) → cast_spelling type tokens ≡ Some rest → (more : List Need) →
    Walk (none ∷ none ∷ none ∷ []) tokens (text_need (codes "(") ∷ type_need ∷ text_need (codes ")") ∷ more) rest more
cast-walk type tokens rest h more =
    let q : Parens (word (type_text type)) tokens rest = parens-parts (word (type_text type)) tokens rest h in
    text-walk (codes "(") refl tokens q.inner q.start (type_need ∷ text_need (codes ")") ∷ more) ▸ type-walk type
    q.inner q.behind q.body (text_need (codes ")") ∷ more) ▸ text-walk (codes ")") refl q.behind rest q.close more

target-walk : (target : WrittenTarget) (tokens rest : List Token) → target_spelling target tokens ≡ Some rest →
    (more : List Need) → Walk (target_openings target) tokens (target_need ∷ more) rest more
target-walk own_target tokens rest h more = word-walk (codes "s") tokens rest h (target_need ∷ more) more refl
target-walk (field_target field) tokens rest h more =
    let p : _ = seq-parts (word (codes "&")) (word (codes "s") ⨾ word (codes "->") ⨾ name_word field) tokens rest h in
    let q : _ = seq-parts (word (codes "s")) (word (codes "->") ⨾ name_word field) p.0 rest p.2 in
    let r : _ = seq-parts (word (codes "->")) (name_word field) q.0 rest q.2 in
    word-walk (codes "&") tokens p.0 p.1 (target_need ∷ more) (text_need (codes "s") ∷ text_need (codes "->")
    ∷ name_need ∷ more) refl ▸ text-walk (codes "s") refl p.0 q.0 q.1 (text_need (codes "->") ∷ name_need
    ∷ more) ▸ text-walk (codes "->") refl q.0 r.0 r.1 (name_need ∷ more) ▸ name-walk field r.0 rest r.2 more

pub arguments-firm : (values : WrittenArguments) (tokens mid rest : List Token) →
    arguments_spelling values tokens ≡ Some mid → word (codes ")") mid ≡ Some rest → Firm tokens
arguments-firm no_arguments tokens mid rest h k = subst Firm (sym (some_same tokens mid h)) (word-firm (codes ")") mid rest refl k)
arguments-firm (more_arguments cast e values) tokens mid rest h k =
    let p : _ = seq-parts (word (codes ",")) (cast_spelling cast ⨾ expr_spelling e ⨾ arguments_spelling values) tokens mid h in
    word-firm (codes ",") tokens p.0 refl p.1

-- the tokens begin with one that is no `else`
unfoldable pub NoElse : List Token → Type 0
NoElse tokens = (t : Token) × (rest : List Token) × (tokens ≡ t ∷ rest) × (bytes_eq t.text (codes "else") ≡ false)

word-no_else : (text : List ℕ) (tokens rest : List Token) → bytes_eq text (codes "else") ≡ false →
    word text tokens ≡ Some rest → NoElse tokens
unfolding NoElse
word-no_else text tokens rest n h =
    let f : Front text tokens rest = word-front text tokens rest h in
    (f.token, rest, f.list, ap (λ x. bytes_eq x (codes "else")) f.same ∙ n)

else-left_out : (d : ℕ) (more : List Need) (tokens : List Token) → NoElse tokens → Walk [] tokens (else_need d ∷ more) tokens more
unfolding NoElse
else-left_out d more tokens other =
    agree-walk tokens (else_need d ∷ more) more
    (subst (λ ts. AgreeOn ts (else_need d ∷ more) more) (sym other.2)
    (ap (λ b. if b then leaves (text_need (codes "{") ∷ stmts_need (d + 1) ∷ more)
    else step_needs more other.0.text) other.3))

stmt-no_else : (s : WrittenStmt) (tokens rest : List Token) → stmt_spelling s tokens ≡ Some rest → NoElse tokens
stmt-no_else (assign line field cast value) tokens rest h =
    let p : _ =
    seq-parts (at_line line (word (codes "s"))) (word (codes "->") ⨾ name_word field ⨾ word (codes "=")
    ⨾ cast_spelling cast ⨾ expr_spelling value ⨾ word (codes ";")) tokens rest h in
    word-no_else (codes "s") tokens p.0 refl (at_line-inner line (word (codes "s")) tokens p.0 p.1)
stmt-no_else (assign_at line field index cast value) tokens rest h =
    let p : _ =
    seq-parts (at_line line (own_spelling field)) (in_brackets (expr_spelling index) ⨾ word (codes "=")
    ⨾ cast_spelling cast ⨾ expr_spelling value ⨾ word (codes ";")) tokens rest h in
    let q : _ =
    seq-parts (word (codes "s")) (word (codes "->") ⨾ name_word field) tokens p.0
    (at_line-inner line (own_spelling field) tokens p.0 p.1) in
    word-no_else (codes "s") tokens q.0 refl q.1
stmt-no_else (branch line test xs) tokens rest h =
    let p : _ = seq-parts (at_line line (word (codes "if"))) (cond_spelling test ⨾ in_braces (stmts_spelling xs)) tokens rest h in
    word-no_else (codes "if") tokens p.0 refl (at_line-inner line (word (codes "if")) tokens p.0 p.1)
stmt-no_else (branch_else line test xs ys) tokens rest h =
    let p : _ =
    seq-parts (at_line line (word (codes "if"))) (cond_spelling test ⨾ in_braces (stmts_spelling xs)
    ⨾ word (codes "else") ⨾ in_braces (stmts_spelling ys)) tokens rest h in
    word-no_else (codes "if") tokens p.0 refl (at_line-inner line (word (codes "if")) tokens p.0 p.1)
stmt-no_else (call line procedure target values) tokens rest h =
    let p : _ =
    seq-parts (at_line line (name_word procedure)) (in_parens (target_spelling target ⨾ arguments_spelling values)
    ⨾ word (codes ";")) tokens rest h in
    let n : _ = name_word-inner procedure tokens p.0 (at_line-inner line (name_word procedure) tokens p.0 p.1) in
    word-no_else procedure tokens p.0 (not_word procedure (codes "else") n.0 refl) n.1

pub stmts-no_else : (ss : WrittenStmts) (tokens mid rest : List Token) → stmts_spelling ss tokens ≡ Some mid →
    word (codes "}") mid ≡ Some rest → NoElse tokens
stmts-no_else no_stmts tokens mid rest h k = subst NoElse (sym (some_same tokens mid h)) (word-no_else (codes "}") mid rest refl k)
stmts-no_else (more_stmts s ss) tokens mid rest h k =
    let p : _ = seq-parts (stmt_spelling s) (stmts_spelling ss) tokens mid h in
    stmt-no_else s tokens p.0 p.1

twice_limited : (b : Bool) (needs after more : List Need) →
    with_needs (with_needs (if b then leaves needs else too_deep) after) more
    ≡ (if b then leaves (needs ++ after ++ more) else too_deep)
twice_limited true needs after more = refl
twice_limited false needs after more = refl

-- the `s` of a store
store-opens : (d : ℕ) (more : List Need) →
    step_needs (stmts_need d ∷ more) (codes "s")
    ≡ (if nat_le d stmt_limit
    then leaves (text_need (codes "->") ∷ name_need ∷ index_need ∷ text_need (codes "=") ∷ text_need (codes "(")
    ∷ type_need ∷ text_need (codes ")") ∷ expr_need 1 ∷ text_need (codes ";") ∷ stmts_need d ∷ more) else too_deep)
store-opens d more =
    twice_limited (nat_le d stmt_limit) (text_need (codes "->") ∷ name_need ∷ index_need ∷ text_need (codes "=")
    ∷ text_need (codes "(") ∷ type_need ∷ text_need (codes ")") ∷ expr_need 1 ∷ text_need (codes ";") ∷ [])
    (stmts_need d ∷ []) more

arguments-walk : (values : WrittenArguments) (more : List Need) (tokens mid rest : List Token) →
    arguments_spelling values tokens ≡ Some mid → word (codes ")") mid ≡ Some rest →
    {later : List Opening} {end : List Token} {left : List Need} → Walk later rest more end left →
    Walk (arguments_openings values ++ none ∷ later) tokens (arguments_need ∷ more) end left
arguments-walk no_arguments more tokens mid rest h k walk =
    same-walk tokens mid (some_same tokens mid h) (arguments_need ∷ more) ▸ word-walk (codes ")") mid rest k
    (arguments_need ∷ more) more refl ▸ walk
arguments-walk (more_arguments cast e values) more tokens mid rest h k {later} walk =
    let p : _ = seq-parts (word (codes ",")) (cast_spelling cast ⨾ expr_spelling e ⨾ arguments_spelling values) tokens mid h in
    let q : _ = seq-parts (cast_spelling cast) (expr_spelling e ⨾ arguments_spelling values) p.0 mid p.2 in
    let r : _ = seq-parts (expr_spelling e) (arguments_spelling values) q.0 mid q.2 in
    reopened
    (ap (λ os. none ∷ none ∷ none ∷ none ∷ os)
    (sym (append_assoc (expr_openings 1 e) (arguments_openings values) (none ∷ later))))
    (word-walk (codes ",") tokens p.0 p.1 (arguments_need ∷ more) (text_need (codes "(") ∷ type_need
    ∷ text_need (codes ")") ∷ expr_need 1 ∷ arguments_need ∷ more) refl ▸ cast-walk cast p.0 q.0 q.1
    (expr_need 1 ∷ arguments_need ∷ more) ▸ expr-walk e (as_kind expression) 1
    (arguments_need ∷ more) q.0 r.0 refl r.1 (arguments-firm values r.0 mid rest r.2 k) ▸ arguments-walk values more
    r.0 mid rest r.2 k walk)

mutual
  pub stmt-walk : (s : WrittenStmt) (d : ℕ) (more : List Need) (tokens rest : List Token) →
      stmt_spelling s tokens ≡ Some rest → NoElse rest →
      Walk (stmt_openings d s) tokens (stmts_need d ∷ more) rest (stmts_need d ∷ more)
  stmt-walk (assign line field cast value) d more tokens rest h other =
      let p : _ =
      seq-parts (at_line line (word (codes "s"))) (word (codes "->") ⨾ name_word field ⨾ word (codes "=")
      ⨾ cast_spelling cast ⨾ expr_spelling value ⨾ word (codes ";")) tokens rest h in
      let q : _ =
      seq-parts (word (codes "->")) (name_word field ⨾ word (codes "=") ⨾ cast_spelling cast ⨾ expr_spelling value
      ⨾ word (codes ";")) p.0 rest p.2 in
      let r : _ =
      seq-parts (name_word field) (word (codes "=") ⨾ cast_spelling cast ⨾ expr_spelling value ⨾ word (codes ";"))
      q.0 rest q.2 in
      let t : _ = seq-parts (word (codes "=")) (cast_spelling cast ⨾ expr_spelling value ⨾ word (codes ";")) r.0 rest r.2 in
      let u : _ = seq-parts (cast_spelling cast) (expr_spelling value ⨾ word (codes ";")) t.0 rest t.2 in
      let v : _ = seq-parts (expr_spelling value) (word (codes ";")) u.0 rest u.2 in
      let e5 : List Need = text_need (codes ";") ∷ stmts_need d ∷ more in
      let e4 : List Need = text_need (codes "(") ∷ type_need ∷ text_need (codes ")") ∷ expr_need 1 ∷ e5 in
      opening-walk (statement d) (codes "s") tokens p.0 (at_line-inner line (word (codes "s")) tokens p.0 p.1)
      (stmts_need d ∷ more) (text_need (codes "->") ∷ name_need ∷ index_need ∷ text_need (codes "=") ∷ e4)
      (store-opens d more) ▸ text-walk (codes "->") refl p.0 q.0 q.1 (name_need ∷ index_need ∷ text_need (codes "=")
      ∷ e4) ▸ name-walk field q.0 r.0 r.1 (index_need ∷ text_need (codes "=") ∷ e4) ▸ word-walk
      (codes "=") r.0 t.0 t.1 (index_need ∷ text_need (codes "=") ∷ e4) e4 refl ▸ cast-walk cast t.0 u.0 u.1
      (expr_need 1 ∷ e5) ▸ expr-walk value (as_kind expression) 1 e5 u.0 v.0 refl v.1
      (word-firm (codes ";") v.0 rest refl v.2) ▸ text-walk (codes ";") refl v.0 rest v.2 (stmts_need d ∷ more)
  stmt-walk (assign_at line field index cast value) d more tokens rest h other =
      let p : _ =
      seq-parts (at_line line (own_spelling field)) (in_brackets (expr_spelling index) ⨾ word (codes "=")
      ⨾ cast_spelling cast ⨾ expr_spelling value ⨾ word (codes ";")) tokens rest h in
      let o : _ =
      seq-parts (word (codes "s")) (word (codes "->") ⨾ name_word field) tokens p.0
      (at_line-inner line (own_spelling field) tokens p.0 p.1) in
      let q : _ = seq-parts (word (codes "->")) (name_word field) o.0 p.0 o.2 in
      let r : _ =
      seq-parts (in_brackets (expr_spelling index)) (word (codes "=") ⨾ cast_spelling cast ⨾ expr_spelling value
      ⨾ word (codes ";")) p.0 rest p.2 in
      let b : Brackets (expr_spelling index) p.0 r.0 = brackets-parts (expr_spelling index) p.0 r.0 r.1 in
      let t : _ = seq-parts (word (codes "=")) (cast_spelling cast ⨾ expr_spelling value ⨾ word (codes ";")) r.0 rest r.2 in
      let u : _ = seq-parts (cast_spelling cast) (expr_spelling value ⨾ word (codes ";")) t.0 rest t.2 in
      let v : _ = seq-parts (expr_spelling value) (word (codes ";")) u.0 rest u.2 in
      let e5 : List Need = text_need (codes ";") ∷ stmts_need d ∷ more in
      let e4 : List Need = text_need (codes "(") ∷ type_need ∷ text_need (codes ")") ∷ expr_need 1 ∷ e5 in
      let e3 : List Need = text_need (codes "]") ∷ text_need (codes "=") ∷ e4 in
      opening-walk (statement d) (codes "s") tokens o.0 o.1 (stmts_need d ∷ more) (text_need (codes "->") ∷ name_need
      ∷ index_need ∷ text_need (codes "=") ∷ e4) (store-opens d more) ▸ text-walk (codes "->") refl o.0 q.0 q.1
      (name_need ∷ index_need ∷ text_need (codes "=") ∷ e4) ▸ name-walk field q.0 p.0 q.2
      (index_need ∷ text_need (codes "=") ∷ e4) ▸ word-walk (codes "[") p.0 b.inner b.start
      (index_need ∷ text_need (codes "=") ∷ e4) (expr_need 1 ∷ e3) refl ▸ expr-walk index
      (as_kind expression) 1 e3 b.inner b.behind refl b.body (word-firm (codes "]") b.behind r.0 refl b.close) ▸
      text-walk (codes "]") refl b.behind r.0 b.close (text_need (codes "=") ∷ e4) ▸ text-walk
      (codes "=") refl r.0 t.0 t.1 e4 ▸ cast-walk cast t.0 u.0 u.1 (expr_need 1 ∷ e5) ▸ expr-walk value
      (as_kind expression) 1 e5 u.0 v.0 refl v.1 (word-firm (codes ";") v.0 rest refl v.2) ▸ text-walk
      (codes ";") refl v.0 rest v.2 (stmts_need d ∷ more)
  stmt-walk (branch line test xs) d more tokens rest h other =
      let p : _ = seq-parts (at_line line (word (codes "if"))) (cond_spelling test ⨾ in_braces (stmts_spelling xs)) tokens rest h in
      let q : _ = seq-parts (cond_spelling test) (in_braces (stmts_spelling xs)) p.0 rest p.2 in
      let r : Braces (stmts_spelling xs) q.0 rest = braces-parts (stmts_spelling xs) q.0 rest q.2 in
      let e2 : List Need = else_need d ∷ stmts_need d ∷ more in
      let e1 : List Need = text_need (codes "{") ∷ stmts_need (d + 1) ∷ e2 in
      opening-walk (statement d) (codes "if") tokens p.0 (at_line-inner line (word (codes "if")) tokens p.0 p.1)
      (stmts_need d ∷ more) (cond_need 1 ∷ e1)
      (twice_limited (nat_le d stmt_limit) (cond_need 1 ∷ text_need (codes "{") ∷ stmts_need (d + 1) ∷ else_need d
      ∷ []) (stmts_need d ∷ []) more) ▸ cond-walk test (as_kind condition) 1 e1 p.0 q.0 refl q.1
      (word-firm (codes "{") q.0 r.inner refl r.start) ▸ text-walk (codes "{") refl q.0 r.inner r.start
      (stmts_need (d + 1) ∷ e2) ▸ stmts-walk xs (d + 1) e2 r.inner r.behind rest r.body r.close
      (else-left_out d (stmts_need d ∷ more) rest other)
  stmt-walk (branch_else line test xs ys) d more tokens rest h other =
      let p : _ =
      seq-parts (at_line line (word (codes "if"))) (cond_spelling test ⨾ in_braces (stmts_spelling xs)
      ⨾ word (codes "else") ⨾ in_braces (stmts_spelling ys)) tokens rest h in
      let q : _ =
      seq-parts (cond_spelling test) (in_braces (stmts_spelling xs) ⨾ word (codes "else")
      ⨾ in_braces (stmts_spelling ys)) p.0 rest p.2 in
      let t : _ = seq-parts (in_braces (stmts_spelling xs)) (word (codes "else") ⨾ in_braces (stmts_spelling ys)) q.0 rest q.2 in
      let u : _ = seq-parts (word (codes "else")) (in_braces (stmts_spelling ys)) t.0 rest t.2 in
      let r : Braces (stmts_spelling xs) q.0 t.0 = braces-parts (stmts_spelling xs) q.0 t.0 t.1 in
      let v : Braces (stmts_spelling ys) u.0 rest = braces-parts (stmts_spelling ys) u.0 rest u.2 in
      let e2 : List Need = else_need d ∷ stmts_need d ∷ more in
      let e1 : List Need = text_need (codes "{") ∷ stmts_need (d + 1) ∷ e2 in
      let e3 : List Need = text_need (codes "{") ∷ stmts_need (d + 1) ∷ stmts_need d ∷ more in
      opening-walk (statement d) (codes "if") tokens p.0 (at_line-inner line (word (codes "if")) tokens p.0 p.1)
      (stmts_need d ∷ more) (cond_need 1 ∷ e1)
      (twice_limited (nat_le d stmt_limit) (cond_need 1 ∷ text_need (codes "{") ∷ stmts_need (d + 1) ∷ else_need d
      ∷ []) (stmts_need d ∷ []) more) ▸ cond-walk test (as_kind condition) 1 e1 p.0 q.0 refl q.1
      (word-firm (codes "{") q.0 r.inner refl r.start) ▸ text-walk (codes "{") refl q.0 r.inner r.start
      (stmts_need (d + 1) ∷ e2) ▸ stmts-walk xs (d + 1) e2 r.inner r.behind t.0 r.body r.close
      (word-walk (codes "else") t.0 u.0 u.1 e2 e3 refl ▸ text-walk (codes "{") refl u.0 v.inner v.start
      (stmts_need (d + 1) ∷ stmts_need d ∷ more) ▸ stmts-walk ys (d + 1) (stmts_need d ∷ more) v.inner v.behind rest
      v.body v.close (same-walk rest rest refl (stmts_need d ∷ more)))
  stmt-walk (call line procedure target values) d more tokens rest h other =
      let p : _ =
      seq-parts (at_line line (name_word procedure)) (in_parens (target_spelling target ⨾ arguments_spelling values)
      ⨾ word (codes ";")) tokens rest h in
      let n : _ = name_word-inner procedure tokens p.0 (at_line-inner line (name_word procedure) tokens p.0 p.1) in
      let t : _ = seq-parts (in_parens (target_spelling target ⨾ arguments_spelling values)) (word (codes ";")) p.0 rest p.2 in
      let q : Parens (target_spelling target ⨾ arguments_spelling values) p.0 t.0 =
      parens-parts (target_spelling target ⨾ arguments_spelling values) p.0 t.0 t.1 in
      let r : _ = seq-parts (target_spelling target) (arguments_spelling values) q.inner q.behind q.body in
      let e1 : List Need = text_need (codes ";") ∷ stmts_need d ∷ more in
      opening-walk (statement d) procedure tokens p.0 n.1 (stmts_need d ∷ more) (text_need (codes "(") ∷ target_need
      ∷ arguments_need ∷ e1)
      (rw (
        n.0,
        not_word procedure (codes "}") n.0 refl,
        not_word procedure (codes "s") n.0 refl,
        not_word procedure (codes "if") n.0 refl,
      )
      (twice_limited (nat_le d stmt_limit) (text_need (codes "(") ∷ target_need ∷ arguments_need
      ∷ text_need (codes ";") ∷ []) (stmts_need d ∷ []) more)) ▸ text-walk (codes "(") refl p.0 q.inner q.start
      (target_need ∷ arguments_need ∷ e1) ▸ target-walk target q.inner r.0 r.1
      (arguments_need ∷ e1) ▸ arguments-walk values e1 r.0 q.behind t.0 r.2 q.close
      (text-walk (codes ";") refl t.0 rest t.2 (stmts_need d ∷ more))

  pub stmts-walk : (ss : WrittenStmts) (d : ℕ) (more : List Need) (tokens mid rest : List Token) →
      stmts_spelling ss tokens ≡ Some mid → word (codes "}") mid ≡ Some rest →
      {later : List Opening} {end : List Token} {left : List Need} → Walk later rest more end left →
      Walk (stmts_openings d ss ++ none ∷ later) tokens (stmts_need d ∷ more) end left
  stmts-walk no_stmts d more tokens mid rest h k walk =
      same-walk tokens mid (some_same tokens mid h) (stmts_need d ∷ more) ▸ word-walk (codes "}") mid rest k
      (stmts_need d ∷ more) more refl ▸ walk
  stmts-walk (more_stmts s ss) d more tokens mid rest h k {later} walk =
      let p : _ = seq-parts (stmt_spelling s) (stmts_spelling ss) tokens mid h in
      reopened (sym (append_assoc (stmt_openings d s) (stmts_openings d ss) (none ∷ later)))
      (stmt-walk s d more tokens p.0 p.1 (stmts-no_else ss p.0 mid rest p.2 k) ▸ stmts-walk ss d more p.0 mid rest
      p.2 k walk)

params-walk : (ps : List WrittenParam) (count : ℕ) (more : List Need) (tokens mid rest : List Token) →
    more_params_spelling ps tokens ≡ Some mid → word (codes ")") mid ≡ Some rest →
    {later : List Opening} {end : List Token} {left : List Need} → Walk later rest more end left →
    Walk (more_params_openings (count + 1) ps ++ none ∷ later) tokens (params_need count ∷ more) end left
params-walk [] count more tokens mid rest h k walk =
    same-walk tokens mid (some_same tokens mid h) (params_need count ∷ more) ▸ word-walk (codes ")") mid rest k
    (params_need count ∷ more) more refl ▸ walk
params-walk (x ∷ ps) count more tokens mid rest h k walk =
    let p : _ = seq-parts (word (codes ",")) (param_spelling x ⨾ more_params_spelling ps) tokens mid h in
    let q : _ = seq-parts (param_spelling x) (more_params_spelling ps) p.0 mid p.2 in
    let r : _ = seq-parts (at_line x.line (word (type_text x.type))) (name_word x.name) p.0 q.0 q.1 in
    let e1 : List Need = params_need (count + 1) ∷ more in
    word-walk (codes ",") tokens p.0 p.1 (params_need count ∷ more) (param_need (count + 1) ∷ e1) refl ▸ opening-walk
    (parameter (count + 1)) (type_text x.type) p.0 r.0 (at_line-inner x.line (word (type_text x.type)) p.0 r.0 r.1)
    (param_need (count + 1) ∷ e1) (name_need ∷ e1) (by x.type e1) ▸ name-walk x.name r.0 q.0 r.2 e1 ▸ params-walk ps
    (count + 1) more q.0 mid rest q.2 k walk
  where
    by : (t : CType) (e : List Need) →
        step_needs (param_need (count + 1) ∷ e) (type_text t)
        ≡ (if nat_le (count + 1) param_limit then leaves (name_need ∷ e) else too_deep)
    by I8 e = limited (nat_le (count + 1) param_limit) (name_need ∷ []) e
    by U8 e = limited (nat_le (count + 1) param_limit) (name_need ∷ []) e
    by I16 e = limited (nat_le (count + 1) param_limit) (name_need ∷ []) e
    by U16 e = limited (nat_le (count + 1) param_limit) (name_need ∷ []) e
    by I32 e = limited (nat_le (count + 1) param_limit) (name_need ∷ []) e
    by U32 e = limited (nat_le (count + 1) param_limit) (name_need ∷ []) e
    by I64 e = limited (nat_le (count + 1) param_limit) (name_need ∷ []) e

pure_param-walk : (x : WrittenPureParam) (number : ℕ) (more : List Need) (tokens rest : List Token) →
    pure_param_spelling x tokens ≡ Some rest →
    Walk (parameter number ∷ none ∷ []) tokens (pure_param_need number ∷ more) rest more
pure_param-walk x number more tokens rest h =
    let r : _ = seq-parts (at_line x.line (word (codes "int64_t"))) (name_word x.name) tokens rest h in
    opening-walk (parameter number) (codes "int64_t") tokens r.0
    (at_line-inner x.line (word (codes "int64_t")) tokens r.0 r.1) (pure_param_need number ∷ more)
    (name_need ∷ more) (limited (nat_le number param_limit) (name_need ∷ []) more) ▸ name-walk x.name r.0 rest r.2
    more

pure_params-walk : (ps : List WrittenPureParam) (count : ℕ) (more : List Need) (tokens mid rest : List Token) →
    more_pure_params_spelling ps tokens ≡ Some mid → word (codes ")") mid ≡ Some rest →
    {later : List Opening} {end : List Token} {left : List Need} → Walk later rest more end left →
    Walk (more_pure_params_openings (count + 1) ps ++ none ∷ later) tokens (pure_params_need count ∷ more) end left
pure_params-walk [] count more tokens mid rest h k walk =
    same-walk tokens mid (some_same tokens mid h) (pure_params_need count ∷ more) ▸ word-walk (codes ")") mid rest k
    (pure_params_need count ∷ more) more refl ▸ walk
pure_params-walk (x ∷ ps) count more tokens mid rest h k walk =
    let p : _ = seq-parts (word (codes ",")) (pure_param_spelling x ⨾ more_pure_params_spelling ps) tokens mid h in
    let q : _ = seq-parts (pure_param_spelling x) (more_pure_params_spelling ps) p.0 mid p.2 in
    word-walk (codes ",") tokens p.0 p.1 (pure_params_need count ∷ more)
    (pure_param_need (count + 1) ∷ pure_params_need (count + 1) ∷ more) refl ▸ pure_param-walk x (count + 1)
    (pure_params_need (count + 1) ∷ more) p.0 q.0 q.1 ▸ pure_params-walk ps (count + 1) more q.0 mid rest q.2 k walk

-- what is needed after the kind of a field
abbrev behind_kind : WrittenKind → List Need → List Need
behind_kind (number_kind type) e = name_need ∷ length_need ∷ text_need (codes ";") ∷ e
behind_kind (array_kind type count) e = name_need ∷ length_need ∷ text_need (codes ";") ∷ e
behind_kind (struct_kind name) e = name_need ∷ text_need (codes ";") ∷ e

-- from the name of a field on
field_name-walk : (kind : WrittenKind) (name : List ℕ) (tokens mid behind rest : List Token) →
    name_word name tokens ≡ Some mid → length_spelling kind mid ≡ Some behind → word (codes ";") behind ≡ Some rest →
    (e : List Need) → Walk (none ∷ (length_openings kind ++ none ∷ [])) tokens (behind_kind kind e) rest e
field_name-walk (number_kind type) name tokens mid behind rest h k l e =
    name-walk name tokens mid h (length_need ∷ text_need (codes ";") ∷ e) ▸ same-walk mid behind
    (some_same mid behind k) (length_need ∷ text_need (codes ";") ∷ e) ▸ word-walk (codes ";") behind rest l
    (length_need ∷ text_need (codes ";") ∷ e) e refl
field_name-walk (array_kind type count) name tokens mid behind rest h k l e =
    let b : Brackets (literal_word count) mid behind = brackets-parts (literal_word count) mid behind k in
    name-walk name tokens mid h (length_need ∷ text_need (codes ";") ∷ e) ▸ word-walk (codes "[") mid b.inner b.start
    (length_need ∷ text_need (codes ";") ∷ e) (literal_need ∷ text_need (codes "]") ∷ text_need (codes ";")
    ∷ e) refl ▸ literal-walk count b.inner b.behind b.body (text_need (codes "]") ∷ text_need (codes ";")
    ∷ e) ▸ text-walk (codes "]") refl b.behind behind b.close (text_need (codes ";") ∷ e) ▸ text-walk
    (codes ";") refl behind rest l e
field_name-walk (struct_kind of) name tokens mid behind rest h k l e =
    name-walk name tokens mid h (text_need (codes ";") ∷ e) ▸ same-walk mid behind (some_same mid behind k)
    (text_need (codes ";") ∷ e) ▸ text-walk (codes ";") refl behind rest l e

-- one field where a field is needed, or where further fields or the `}` are
field-walk : (f : WrittenField) (tokens rest : List Token) → field_spelling f tokens ≡ Some rest → (more : List Need) →
    Walk (kind_openings f.kind ++ none ∷ (length_openings f.kind ++ none ∷ [])) tokens (field_need ∷ more) rest more
    × Walk (kind_openings f.kind ++ none ∷ (length_openings f.kind ++ none ∷ [])) tokens (fields_need ∷ more) rest
    (fields_need ∷ more)
field-walk f tokens rest h more =
    let p : _ =
    seq-parts (at_line f.line (kind_spelling f.kind)) (name_word f.name ⨾ length_spelling f.kind ⨾ word (codes ";"))
    tokens rest h in
    let q : _ = seq-parts (name_word f.name) (length_spelling f.kind ⨾ word (codes ";")) p.0 rest p.2 in
    let r : _ = seq-parts (length_spelling f.kind) (word (codes ";")) q.0 rest q.2 in
    let i : _ = at_line-inner f.line (kind_spelling f.kind) tokens p.0 p.1 in
    let tail : (e : List Need) → Walk (none ∷ (length_openings f.kind ++ none ∷ [])) p.0 (behind_kind f.kind e) rest e =
    λ e. field_name-walk f.kind f.name p.0 q.0 r.0 rest q.1 r.1 r.2 e in
    ((by f.kind tokens p.0 i).0 ▸ tail more, (by f.kind tokens p.0 i).1 ▸ tail (fields_need ∷ more))
  where
    type_by : (t : CType) →
        (step_needs (field_need ∷ more) (type_text t) ≡ leaves (name_need ∷ length_need ∷ text_need (codes ";") ∷ more))
        × (step_needs (fields_need ∷ more) (type_text t)
        ≡ leaves (name_need ∷ length_need ∷ text_need (codes ";") ∷ fields_need ∷ more))
    type_by I8 = (refl, refl)
    type_by U8 = (refl, refl)
    type_by I16 = (refl, refl)
    type_by U16 = (refl, refl)
    type_by I32 = (refl, refl)
    type_by U32 = (refl, refl)
    type_by I64 = (refl, refl)

    typed : (type : CType) (ts mid : List Token) → word (type_text type) ts ≡ Some mid →
        Walk (none ∷ []) ts (field_need ∷ more) mid (name_need ∷ length_need ∷ text_need (codes ";") ∷ more)
        × Walk (none ∷ []) ts (fields_need ∷ more) mid (name_need ∷ length_need ∷ text_need (codes ";") ∷ fields_need
        ∷ more)
    typed type ts mid k = (
      word-walk (type_text type) ts mid k (field_need ∷ more) (name_need ∷ length_need ∷ text_need (codes ";")
          ∷ more) (type_by type).0,
      word-walk (type_text type) ts mid k (fields_need ∷ more) (name_need ∷ length_need ∷ text_need (codes ";")
          ∷ fields_need ∷ more) (type_by type).1,
    )

    by : (kind : WrittenKind) (ts mid : List Token) → kind_spelling kind ts ≡ Some mid →
        Walk (kind_openings kind) ts (field_need ∷ more) mid (behind_kind kind more)
        × Walk (kind_openings kind) ts (fields_need ∷ more) mid (behind_kind kind (fields_need ∷ more))
    by (number_kind type) ts mid k = typed type ts mid k
    by (array_kind type count) ts mid k = typed type ts mid k
    by (struct_kind name) ts mid k =
        let p : _ = seq-parts (word (codes "struct")) (name_word name) ts mid k in (
          word-walk (codes "struct") ts p.0 p.1 (field_need ∷ more) (name_need ∷ name_need ∷ text_need (codes ";")
              ∷ more) refl ▸ name-walk name p.0 mid p.2 (name_need ∷ text_need (codes ";") ∷ more),
          word-walk (codes "struct") ts p.0 p.1 (fields_need ∷ more) (name_need ∷ name_need ∷ text_need (codes ";")
              ∷ fields_need ∷ more) refl ▸ name-walk name p.0 mid p.2 (name_need ∷ text_need (codes ";") ∷ fields_need
              ∷ more),
        )

-- brackets of what a field and others open
bracketed : (kind name later : List Opening) → (kind ++ none ∷ (name ++ none ∷ [])) ++ later ≡ kind ++ none ∷ (name ++ none ∷ later)
bracketed kind name later = append_assoc kind (none ∷ (name ++ none ∷ [])) later
    ∙ ap (λ os. kind ++ none ∷ os) (append_assoc name (none ∷ []) later)

field_and-rest : (f : WrittenField) (fs : List WrittenField) (later : List Opening) {tokens : List Token}
    {needs : List Need} {end : List Token} {left : List Need} →
    Walk ((kind_openings f.kind ++ none ∷ (length_openings f.kind ++ none ∷ []))
    ++ (fields_openings fs ++ none ∷ later)) tokens needs end left →
    Walk (fields_openings (f ∷ fs) ++ none ∷ later) tokens needs end left
field_and-rest f fs later walk =
    reopened (bracketed (kind_openings f.kind) (length_openings f.kind) (fields_openings fs ++ none ∷ later)
    ∙ sym (append_assoc (kind_openings f.kind) (none ∷ (length_openings f.kind ++ none ∷ fields_openings fs))
    (none ∷ later)
    ∙ ap (λ os. kind_openings f.kind ++ none ∷ os)
    (append_assoc (length_openings f.kind) (none ∷ fields_openings fs) (none ∷ later)))) walk

fields-walk : (fs : List WrittenField) (tokens mid rest : List Token) →
    all_spelling field_spelling fs tokens ≡ Some mid → word (codes "}") mid ≡ Some rest → (more : List Need) →
    {later : List Opening} {end : List Token} {left : List Need} → Walk later rest more end left →
    Walk (fields_openings fs ++ none ∷ later) tokens (fields_need ∷ more) end left
fields-walk [] tokens mid rest h k more walk =
    same-walk tokens mid (some_same tokens mid h) (fields_need ∷ more) ▸ word-walk (codes "}") mid rest k
    (fields_need ∷ more) more refl ▸ walk
fields-walk (f ∷ fs) tokens mid rest h k more {later} walk =
    let p : _ = seq-parts (field_spelling f) (all_spelling field_spelling fs) tokens mid h in
    field_and-rest f fs later ((field-walk f tokens p.0 p.1 more).1 ▸ fields-walk fs p.0 mid rest p.2 k more walk)

-- a struct, where its `struct` leaves what is needed of one
struct-walk : (d : WrittenStruct) (needs : List Need) (tokens rest : List Token) →
    step_needs needs (codes "struct") ≡ leaves struct_needs → struct_spelling d tokens ≡ Some rest →
    {later : List Opening} {end : List Token} {left : List Need} → Walk later rest (structs_need ∷ []) end left →
    Walk (none ∷ none ∷ none ∷ (fields_openings d.fields ++ none ∷ none ∷ later)) tokens needs end left
struct-walk d needs tokens rest opens h walk =
    let p : _ =
    seq-parts (at_line d.line (word (codes "struct")))
    (name_word d.name ⨾ in_braces (some_spelling field_spelling d.fields) ⨾ word (codes ";")) tokens rest h in
    let q : _ = seq-parts (name_word d.name) (in_braces (some_spelling field_spelling d.fields) ⨾ word (codes ";")) p.0 rest p.2 in
    let r : _ = seq-parts (in_braces (some_spelling field_spelling d.fields)) (word (codes ";")) q.0 rest q.2 in
    let b : Braces (some_spelling field_spelling d.fields) q.0 r.0 = braces-parts (some_spelling field_spelling d.fields) q.0 r.0 r.1 in
    let e : List Need = text_need (codes ";") ∷ structs_need ∷ [] in
    word-walk (codes "struct") tokens p.0 (at_line-inner d.line (word (codes "struct")) tokens p.0 p.1) needs
    struct_needs opens ▸ name-walk d.name p.0 q.0 q.1 (text_need (codes "{") ∷ field_need ∷ fields_need
    ∷ e) ▸ text-walk (codes "{") refl q.0 b.inner b.start (field_need ∷ fields_need ∷ e) ▸ some d.fields b.inner
    b.behind r.0 b.body b.close e (text-walk (codes ";") refl r.0 rest r.2 (structs_need ∷ []) ▸ walk)
  where
    some : (fs : List WrittenField) (ts mid behind : List Token) → some_spelling field_spelling fs ts ≡ Some mid →
        word (codes "}") mid ≡ Some behind →
        (e : List Need) {then_opened : List Opening} {last : List Token} {after : List Need} →
        Walk then_opened behind e last after →
        Walk (fields_openings fs ++ none ∷ then_opened) ts (field_need ∷ fields_need ∷ e) last after
    some [] ts mid behind k l e w = cc
    some (f ∷ fs) ts mid behind k l e {then_opened} w =
        let p : _ = seq-parts (field_spelling f) (all_spelling field_spelling fs) ts mid k in
        field_and-rest f fs then_opened ((field-walk f ts p.0 p.1 (fields_need ∷ e)).0 ▸ fields-walk fs p.0 mid behind p.2 l e w)

structs-walk : (ds : List WrittenStruct) (tokens rest : List Token) →
    all_spelling struct_spelling ds tokens ≡ Some rest →
    Walk (structs_openings ds) tokens (structs_need ∷ []) rest (structs_need ∷ [])
structs-walk [] tokens rest h = same-walk tokens rest (some_same tokens rest h) (structs_need ∷ [])
structs-walk (d ∷ ds) tokens rest h =
    let p : _ = seq-parts (struct_spelling d) (all_spelling struct_spelling ds) tokens rest h in
    struct-walk d (structs_need ∷ []) tokens p.0 refl p.1 (structs-walk ds p.0 rest p.2)

-- a procedure, where its `static` or `void` leaves what is needed of one
procedure-walk : (x : WrittenProcedure) (needs : List Need) (tokens rest : List Token) →
    step_needs needs (codes "static") ≡ leaves (text_need (codes "void") ∷ procedure_needs) →
    step_needs needs (codes "void") ≡ leaves procedure_needs → procedure_spelling x tokens ≡ Some rest →
    {later : List Opening} {end : List Token} {left : List Need} → Walk later rest (procedures_need ∷ []) end left →
    Walk (private_openings x.private ++ none ∷ none ∷ none ∷ none ∷ none ∷ none
    ∷ (more_params_openings 1 x.params ++ none ∷ none ∷ (stmts_openings 1 x.body ++ none ∷ later))) tokens needs end
    left
procedure-walk x needs tokens rest static void h walk =
    let head : Spelling = word (codes "struct") ⨾ name_word x.of ⨾ word (codes "*") ⨾ word (codes "s") ⨾ more_params_spelling x.params in
    let p : _ =
    seq-parts (at_line x.line (private_spelling x.private)) (name_word x.name ⨾ in_parens head
    ⨾ in_braces (stmts_spelling x.body)) tokens rest h in
    let q : _ = seq-parts (name_word x.name) (in_parens head ⨾ in_braces (stmts_spelling x.body)) p.0 rest p.2 in
    let r : _ = seq-parts (in_parens head) (in_braces (stmts_spelling x.body)) q.0 rest q.2 in
    let a : Parens head q.0 r.0 = parens-parts head q.0 r.0 r.1 in
    let b : Braces (stmts_spelling x.body) r.0 rest = braces-parts (stmts_spelling x.body) r.0 rest r.2 in
    let t : _ =
    seq-parts (word (codes "struct")) (name_word x.of ⨾ word (codes "*") ⨾ word (codes "s")
    ⨾ more_params_spelling x.params) a.inner a.behind a.body in
    let u : _ = seq-parts (name_word x.of) (word (codes "*") ⨾ word (codes "s") ⨾ more_params_spelling x.params) t.0 a.behind t.2 in
    let v : _ = seq-parts (word (codes "*")) (word (codes "s") ⨾ more_params_spelling x.params) u.0 a.behind u.2 in
    let w : _ = seq-parts (word (codes "s")) (more_params_spelling x.params) v.0 a.behind v.2 in
    let e3 : List Need = text_need (codes "{") ∷ stmts_need 1 ∷ procedures_need ∷ [] in
    let e2 : List Need = text_need (codes "*") ∷ text_need (codes "s") ∷ params_need 0 ∷ e3 in
    opens x.private tokens p.0 (at_line-inner x.line (private_spelling x.private) tokens p.0 p.1) ▸ name-walk x.name p.0
    q.0 q.1 (text_need (codes "(") ∷ text_need (codes "struct") ∷ name_need ∷ e2) ▸ text-walk
    (codes "(") refl q.0 a.inner a.start (text_need (codes "struct") ∷ name_need ∷ e2) ▸ text-walk
    (codes "struct") refl a.inner t.0 t.1 (name_need ∷ e2) ▸ name-walk x.of t.0 u.0 u.1 e2 ▸ text-walk
    (codes "*") refl u.0 v.0 v.1 (text_need (codes "s") ∷ params_need 0 ∷ e3) ▸ text-walk
    (codes "s") refl v.0 w.0 w.1 (params_need 0 ∷ e3) ▸ params-walk x.params 0 e3 w.0 a.behind r.0 w.2 a.close
    (text-walk (codes "{") refl r.0 b.inner b.start (stmts_need 1 ∷ procedures_need ∷ []) ▸ stmts-walk x.body 1
    (procedures_need ∷ []) b.inner b.behind rest b.body b.close walk)
  where
    opens : (private : Bool) (ts mid : List Token) → private_spelling private ts ≡ Some mid →
        Walk (private_openings private) ts needs mid procedure_needs
    opens false ts mid k = word-walk (codes "void") ts mid k needs procedure_needs void
    opens true ts mid k =
        let p : _ = seq-parts (word (codes "static")) (word (codes "void")) ts mid k in
        word-walk (codes "static") ts p.0 p.1 needs (text_need (codes "void") ∷ procedure_needs) static ▸ text-walk
        (codes "void") refl p.0 mid p.2 procedure_needs

procedures-walk : (xs : List WrittenProcedure) (tokens rest : List Token) →
    all_spelling procedure_spelling xs tokens ≡ Some rest →
    Walk (procedures_openings xs) tokens (procedures_need ∷ []) rest (procedures_need ∷ [])
procedures-walk [] tokens rest h = same-walk tokens rest (some_same tokens rest h) (procedures_need ∷ [])
procedures-walk (x ∷ xs) tokens rest h =
    let p : _ = seq-parts (procedure_spelling x) (all_spelling procedure_spelling xs) tokens rest h in
    procedure-walk x (procedures_need ∷ []) tokens p.0 refl refl p.1 (procedures-walk xs p.0 rest p.2)

pure-walk : (x : WrittenPure) (count : ℕ) (tokens rest : List Token) → pure_spelling x tokens ≡ Some rest →
    Walk (pure_openings (count + 1) x) tokens (pures_need count ∷ []) rest (pures_need (count + 1) ∷ [])
pure-walk x count tokens rest h =
    let tail : Spelling = at_line x.return_line (word (codes "return")) ⨾ expr_spelling x.body ⨾ word (codes ";") in
    let p : _ =
    seq-parts (at_line x.line (word (codes "static"))) (word (codes "int64_t") ⨾ name_word x.name
    ⨾ in_parens (pure_params_spelling x.params) ⨾ in_braces tail) tokens rest h in
    let q : _ =
    seq-parts (word (codes "int64_t")) (name_word x.name ⨾ in_parens (pure_params_spelling x.params)
    ⨾ in_braces tail) p.0 rest p.2 in
    let r : _ = seq-parts (name_word x.name) (in_parens (pure_params_spelling x.params) ⨾ in_braces tail) q.0 rest q.2 in
    let t : _ = seq-parts (in_parens (pure_params_spelling x.params)) (in_braces tail) r.0 rest r.2 in
    let a : Parens (pure_params_spelling x.params) r.0 t.0 = parens-parts (pure_params_spelling x.params) r.0 t.0 t.1 in
    let b : Braces tail t.0 rest = braces-parts tail t.0 rest t.2 in
    let u : _ =
    seq-parts (at_line x.return_line (word (codes "return"))) (expr_spelling x.body ⨾ word (codes ";")) b.inner
    b.behind b.body in
    let v : _ = seq-parts (expr_spelling x.body) (word (codes ";")) u.0 b.behind u.2 in
    let e4 : List Need = text_need (codes ";") ∷ text_need (codes "}") ∷ pures_need (count + 1) ∷ [] in
    let e3 : List Need = text_need (codes "{") ∷ text_need (codes "return") ∷ expr_need 1 ∷ e4 in
    opening-walk (pure_function (count + 1)) (codes "static") tokens p.0
    (at_line-inner x.line (word (codes "static")) tokens p.0 p.1) (pures_need count ∷ []) (pure_needs (count + 1))
    (limited (nat_le (count + 1) pure_limit) (pure_needs (count + 1)) []) ▸ text-walk
    (codes "int64_t") refl p.0 q.0 q.1 (name_need ∷ text_need (codes "(") ∷ pure_param_need 1 ∷ pure_params_need 1
    ∷ e3) ▸ name-walk x.name q.0 r.0 r.1 (text_need (codes "(") ∷ pure_param_need 1 ∷ pure_params_need 1
    ∷ e3) ▸ text-walk (codes "(") refl r.0 a.inner a.start (pure_param_need 1 ∷ pure_params_need 1 ∷ e3) ▸ some
    x.params a.inner a.behind t.0 a.body a.close e3
    (text-walk (codes "{") refl t.0 b.inner b.start (text_need (codes "return") ∷ expr_need 1 ∷ e4) ▸ text-walk
    (codes "return") refl b.inner u.0 (at_line-inner x.return_line (word (codes "return")) b.inner u.0 u.1)
    (expr_need 1 ∷ e4) ▸ expr-walk x.body (as_kind expression) 1 e4 u.0 v.0 refl v.1
    (word-firm (codes ";") v.0 b.behind refl v.2) ▸ text-walk (codes ";") refl v.0 b.behind v.2
    (text_need (codes "}") ∷ pures_need (count + 1) ∷ []) ▸ text-walk (codes "}") refl b.behind rest b.close
    (pures_need (count + 1) ∷ []))
  where
    some : (ps : List WrittenPureParam) (ts mid behind : List Token) → pure_params_spelling ps ts ≡ Some mid →
        word (codes ")") mid ≡ Some behind →
        (e : List Need) {then_opened : List Opening} {last : List Token} {after : List Need} →
        Walk then_opened behind e last after →
        Walk (pure_params_openings ps ++ none ∷ then_opened) ts (pure_param_need 1 ∷ pure_params_need 1 ∷ e) last after
    some [] ts mid behind k l e w = cc
    some (y ∷ ps) ts mid behind k l e w =
        let p : _ = seq-parts (pure_param_spelling y) (more_pure_params_spelling ps) ts mid k in
        pure_param-walk y 1 (pure_params_need 1 ∷ e) ts p.0 p.1 ▸ pure_params-walk ps 1 e p.0 mid behind p.2 l w

pures-walk : (xs : List WrittenPure) (count : ℕ) (tokens rest : List Token) →
    all_spelling pure_spelling xs tokens ≡ Some rest →
    (after : ℕ) × Walk (pures_openings (count + 1) xs) tokens (pures_need count ∷ []) rest (pures_need after ∷ [])
pures-walk [] count tokens rest h = (count, same-walk tokens rest (some_same tokens rest h) (pures_need count ∷ []))
pures-walk (x ∷ xs) count tokens rest h =
    let p : _ = seq-parts (pure_spelling x) (all_spelling pure_spelling xs) tokens rest h in
    let r : _ = pures-walk xs (count + 1) p.0 rest p.2 in
    (r.0, pure-walk x count tokens p.0 p.1 ▸ r.1)

-- along a whole file
pub file-walk : (x : WrittenProgram) (tokens : List Token) → Spells tokens x → Walk (openings x) tokens file_needs [] (procedures_need ∷ [])
file-walk x tokens h =
    let p : _ =
    seq-parts (all_spelling pure_spelling x.pures) (some_spelling struct_spelling x.structs
    ⨾ some_spelling procedure_spelling x.procedures) tokens [] h in
    let q : _ = seq-parts (some_spelling struct_spelling x.structs) (some_spelling procedure_spelling x.procedures) p.0 [] p.2 in
    let r : _ = pures-walk x.pures 0 tokens p.0 p.1 in
    r.1 ▸ structs x.structs r.0 p.0 q.0 q.1 ▸ procedures x.procedures q.0 q.2
  where
    structs : (ds : List WrittenStruct) (count : ℕ) (ts rest : List Token) →
        some_spelling struct_spelling ds ts ≡ Some rest →
        Walk (structs_openings ds) ts (pures_need count ∷ []) rest (structs_need ∷ [])
    structs [] count ts rest k = cc
    structs (d ∷ ds) count ts rest k =
        let p : _ = seq-parts (struct_spelling d) (all_spelling struct_spelling ds) ts rest k in
        struct-walk d (pures_need count ∷ []) ts p.0 refl p.1 (structs-walk ds p.0 rest p.2)

    procedures : (xs : List WrittenProcedure) (ts : List Token) → some_spelling procedure_spelling xs ts ≡ Some [] →
        Walk (procedures_openings xs) ts (structs_need ∷ []) [] (procedures_need ∷ [])
    procedures [] ts k = cc
    procedures (y ∷ ys) ts k =
        let p : _ = seq-parts (procedure_spelling y) (all_spelling procedure_spelling ys) ts [] k in
        procedure-walk y (structs_need ∷ []) ts p.0 refl refl p.1 (procedures-walk ys p.0 [] p.2)
