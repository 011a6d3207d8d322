-- The parts of spellings, and what the needs in an expression say to its tokens.
use Rattle.std.proofs.Common.{◌≡◌, refl, sym, ◌∙◌, ap, ℕ, ◌+◌, ◌-◌, List, [], ◌∷◌, ◌++◌, Option, Some, None, unwrap_or, Bool, true, false, if◌then◌else◌, nat_le, codes, bytes_eq, decimal, nat_lt, ◌^◌, subst, arith, option_and_then, ◌==◌}
use Rattle.std.proofs.lemmas.Slice.Eq.{bytes_eq-Decides}
use Rattle.base_core.specs.declared.base.Compare.{Compare}
use Rattle.base_core.specs.declared.base.Compare.TheVariants.{Eq, Ne, Lt, Le, Ge, Gt}
use Rattle.c_syntax.specs.declared.code.BinOp.{BinOp}
use Rattle.c_syntax.specs.declared.code.BinOp.TheVariants.{Add, Sub, Mul, Div, Rem}
use Rattle.c_grammar.specs.Tokens.{Token}
use Rattle.c_syntax.specs.Names.{is_name}
use Rattle.c_grammar.specs.Grammar.{Spelling, ◌⨾◌, word, at_line, name_word, literal_word, in_parens, in_brackets, never, op_text, compare_text, own_spelling, leaf_spelling, expr_spelling, exprs_spelling, more_exprs_spelling, cond_spelling}
use Rattle.c_grammar.specs.Written.{WrittenExpr, literal, neg, read, binary, pick, pure, item, WrittenExprs, no_exprs, more_exprs, WrittenCond, compare, both, either, negated}
use Rattle.c_grammar.specs.Prefix.{Need, too_deep, leaves, step_needs, with_needs, Role, as_kind, as_first, expression, condition, allows, follow, operand_need, inside_need, joint_need, text_need, name_need, literal_need, leaf_need, tail_need, index_needs, values_need, expr_need, cond_need, is_connective, is_literal}
use Rattle.c_grammar.specs.Parsing.{tail_of}
use Rattle.c_grammar.specs.declared.openers.Tail.TheVariants.{Dot as dot_tail, Bracket as bracket_tail, Nothing as no_tail}
use Rattle.c_syntax.specs.Limits.{expr_limit}

-- a token with this text, and what is after it
pub record Front (text : List ℕ) (tokens rest : List Token) : Type 0 where
  pub token : Token
  pub list : tokens ≡ token ∷ rest
  pub same : token.text ≡ text

pub some_same : {A : Type 0} (x y : A) → Some x ≡ Some y → x ≡ y
some_same x y e = ap (λ o. unwrap_or o x) e

pub word-front : (text : List ℕ) (tokens rest : List Token) → word text tokens ≡ Some rest → Front text tokens rest
word-front text [] rest h = cc
word-front text (t ∷ tokens) rest h = by (bytes_eq t.text text) refl h
  where
    same_text : bytes_eq t.text text ≡ true → t.text ≡ text
    same_text e = (bytes_eq-Decides t.text text).0 e

    by : (b : Bool) → bytes_eq t.text text ≡ b → (if b then Some tokens else None) ≡ Some rest → Front text (t ∷ tokens) rest
    by true e k = record { token = t; list = ap (λ x. t ∷ x) (some_same tokens rest k); same = same_text e }
    by false e k = cc

-- the two parts of one spelling and then another
pub seq-parts : (a b : Spelling) (tokens rest : List Token) → (a ⨾ b) tokens ≡ Some rest →
    (mid : List Token) × (a tokens ≡ Some mid) × (b mid ≡ Some rest)
seq-parts a b tokens rest h = by (a tokens) refl h
  where
    by : (o : Option (List Token)) → a tokens ≡ o → option_and_then b o ≡ Some rest →
        (mid : List Token) × (a tokens ≡ Some mid) × (b mid ≡ Some rest)
    by (Some mid) e k = (mid, e, k)
    by None e k = cc

pub at_line-inner : (line : ℕ) (a : Spelling) (tokens rest : List Token) → at_line line a tokens ≡ Some rest → a tokens ≡ Some rest
at_line-inner line a [] rest h = cc
at_line-inner line a (t ∷ tokens) rest h = by (t.line == line) h
  where
    by : (b : Bool) → (if b then a (t ∷ tokens) else None) ≡ Some rest → a (t ∷ tokens) ≡ Some rest
    by true k = k
    by false k = cc

pub name_word-inner : (name : List ℕ) (tokens rest : List Token) → name_word name tokens ≡ Some rest →
    (is_name name ≡ true) × (word name tokens ≡ Some rest)
name_word-inner name tokens rest h = by (is_name name) refl h
  where
    by : (b : Bool) → is_name name ≡ b → (if b then word name else never) tokens ≡ Some rest →
        (is_name name ≡ true) × (word name tokens ≡ Some rest)
    by true e k = (e, k)
    by false e k = cc

-- a name is no other word
pub not_word : (name other : List ℕ) → is_name name ≡ true → is_name other ≡ false → bytes_eq name other ≡ false
not_word name other h k = by (bytes_eq name other) refl
  where
    by : (b : Bool) → bytes_eq name other ≡ b → b ≡ false
    by false e = refl
    by true e =
        let same : is_name name ≡ is_name other = ap is_name ((bytes_eq-Decides name other).0 e) in
        cc (sym h ∙ same ∙ k)

pub limited : (b : Bool) (needs more : List Need) →
    with_needs (if b then leaves needs else too_deep) more ≡ (if b then leaves (needs ++ more) else too_deep)
limited true needs more = refl
limited false needs more = refl

pub operand-number : (role : Role) (d : ℕ) (more : List Need) → allows role expression ≡ true →
    step_needs (operand_need role d ∷ more) (codes "INT64_C")
    ≡ (if nat_le d expr_limit
    then leaves (text_need (codes "(") ∷ literal_need ∷ text_need (codes ")") ∷ (follow expression role d ++ more))
    else too_deep)
operand-number (as_kind expression) d more h =
    limited (nat_le d expr_limit) (text_need (codes "(") ∷ literal_need ∷ text_need (codes ")") ∷ []) more
operand-number (as_kind condition) d more h = cc
operand-number (as_first outer) d more h =
    limited (nat_le d expr_limit) (text_need (codes "(") ∷ literal_need ∷ text_need (codes ")")
    ∷ joint_need expression outer d ∷ []) more

pub operand-paren : (role : Role) (d : ℕ) (more : List Need) →
    step_needs (operand_need role d ∷ more) (codes "(")
    ≡ (if nat_le d expr_limit then leaves (inside_need role d ∷ more) else too_deep)
operand-paren (as_kind expression) d more = limited (nat_le d expr_limit) (inside_need (as_kind expression) d ∷ []) more
operand-paren (as_kind condition) d more = limited (nat_le d expr_limit) (inside_need (as_kind condition) d ∷ []) more
operand-paren (as_first outer) d more = limited (nat_le d expr_limit) (inside_need (as_first outer) d ∷ []) more

pub operand-name : (role : Role) (d : ℕ) (more : List Need) (name : List ℕ) → is_name name ≡ true →
    allows role expression ≡ true →
    step_needs (operand_need role d ∷ more) name
    ≡ (if nat_le d expr_limit
    then leaves (text_need (codes "(") ∷ expr_need (d + 1) ∷ values_need (d + 1) ∷ (follow expression role d ++ more))
    else too_deep)
operand-name (as_kind expression) d more name n h =
    rw (not_word name (codes "INT64_C") n refl, n)
    (limited (nat_le d expr_limit) (text_need (codes "(") ∷ expr_need (d + 1) ∷ values_need (d + 1) ∷ []) more)
operand-name (as_kind condition) d more name n h = cc
operand-name (as_first outer) d more name n h =
    rw (not_word name (codes "INT64_C") n refl, n)
    (limited (nat_le d expr_limit) (text_need (codes "(") ∷ expr_need (d + 1) ∷ values_need (d + 1)
    ∷ joint_need expression outer d ∷ []) more)

-- a text that opens an expression or a condition
pub data Opener (text : List ℕ) : Type 0 where
  by_number : text ≡ codes "INT64_C" → Opener text
  by_paren : text ≡ codes "(" → Opener text
  by_name : is_name text ≡ true → Opener text

pub inside-opener : (role : Role) (d : ℕ) (more : List Need) (text : List ℕ) → Opener text →
    step_needs (inside_need role d ∷ more) text ≡ step_needs (operand_need (as_first role) (d + 1) ∷ more) text
inside-opener role d more text (by_number e) =
    subst (λ x. step_needs (inside_need role d ∷ more) x ≡ step_needs (operand_need (as_first role) (d + 1) ∷ more) x)
    (sym e) (number role)
  where
    number : (r : Role) →
        step_needs (inside_need r d ∷ more) (codes "INT64_C")
        ≡ step_needs (operand_need (as_first r) (d + 1) ∷ more) (codes "INT64_C")
    number (as_kind expression) = refl
    number (as_kind condition) = refl
    number (as_first outer) = refl
inside-opener role d more text (by_paren e) =
    subst (λ x. step_needs (inside_need role d ∷ more) x ≡ step_needs (operand_need (as_first role) (d + 1) ∷ more) x)
    (sym e) (paren role)
  where
    paren : (r : Role) → step_needs (inside_need r d ∷ more) (codes "(") ≡ step_needs (operand_need (as_first r) (d + 1) ∷ more) (codes "(")
    paren (as_kind expression) = refl
    paren (as_kind condition) = refl
    paren (as_first outer) = refl
inside-opener role d more text (by_name n) = name role
  where
    name : (r : Role) → step_needs (inside_need r d ∷ more) text ≡ step_needs (operand_need (as_first r) (d + 1) ∷ more) text
    name (as_kind expression) = rw (not_word text (codes "-") n refl, not_word text (codes "int64_t") n refl) refl
    name (as_kind condition) = rw (not_word text (codes "!") n refl) refl
    name (as_first outer) =
        rw (not_word text (codes "-") n refl, not_word text (codes "!") n refl, not_word text (codes "int64_t") n refl)
        refl

-- the first token of an expression or a condition
pub record Opens (tokens : List Token) : Type 0 where
  pub token : Token
  pub rest : List Token
  pub list : tokens ≡ token ∷ rest
  pub opener : Opener token.text

word-opens : (text : List ℕ) (tokens rest : List Token) → Opener text → word text tokens ≡ Some rest → Opens tokens
word-opens text tokens rest o h =
    let f : Front text tokens rest = word-front text tokens rest h in
    record { token = f.token; rest = rest; list = f.list; opener = subst Opener (sym f.same) o }

parens-opens : (a : Spelling) (tokens rest : List Token) → in_parens a tokens ≡ Some rest → Opens tokens
parens-opens a tokens rest h =
    let p : _ = seq-parts (word (codes "(")) (a ⨾ word (codes ")")) tokens rest h in
    word-opens (codes "(") tokens p.0 (by_paren refl) p.1

pub expr-opens : (e : WrittenExpr) (tokens rest : List Token) → expr_spelling e tokens ≡ Some rest → Opens tokens
expr-opens (literal value) tokens rest h =
    let p : _ = seq-parts (word (codes "INT64_C")) (in_parens (literal_word value)) tokens rest h in
    word-opens (codes "INT64_C") tokens p.0 (by_number refl) p.1
expr-opens (neg e) tokens rest h = parens-opens (word (codes "-") ⨾ expr_spelling e) tokens rest h
expr-opens (read line leaf) tokens rest h =
    let p : _ = seq-parts (in_parens (word (codes "int64_t"))) (at_line line (leaf_spelling leaf)) tokens rest h in
    parens-opens (word (codes "int64_t")) tokens p.0 p.1
expr-opens (binary op a b) tokens rest h = parens-opens (expr_spelling a ⨾ word (op_text op) ⨾ expr_spelling b) tokens rest h
expr-opens (pick test a b) tokens rest h =
    parens-opens (cond_spelling test ⨾ word (codes "?") ⨾ expr_spelling a ⨾ word (codes ":") ⨾ expr_spelling b) tokens
    rest h
expr-opens (pure line function values) tokens rest h =
    let p : _ = seq-parts (at_line line (name_word function)) (in_parens (exprs_spelling values)) tokens rest h in
    let n : _ = name_word-inner function tokens p.0 (at_line-inner line (name_word function) tokens p.0 p.1) in
    word-opens function tokens p.0 (by_name n.0) n.1
expr-opens (item line field index) tokens rest h =
    let p : _ = seq-parts (in_parens (word (codes "int64_t")))
    (at_line line (own_spelling field) ⨾ in_brackets (expr_spelling index)) tokens rest h in
    parens-opens (word (codes "int64_t")) tokens p.0 p.1

pub cond-opens : (c : WrittenCond) (tokens rest : List Token) → cond_spelling c tokens ≡ Some rest → Opens tokens
cond-opens (compare how a b) tokens rest h = parens-opens (expr_spelling a ⨾ word (compare_text how) ⨾ expr_spelling b) tokens rest h
cond-opens (both a b) tokens rest h = parens-opens (cond_spelling a ⨾ word (codes "&&") ⨾ cond_spelling b) tokens rest h
cond-opens (either a b) tokens rest h = parens-opens (cond_spelling a ⨾ word (codes "||") ⨾ cond_spelling b) tokens rest h
cond-opens (negated a) tokens rest h = parens-opens (word (codes "!") ⨾ cond_spelling a) tokens rest h

pub joint-op : (op : BinOp) (role : Role) (d : ℕ) (more : List Need) → allows role expression ≡ true →
    step_needs (joint_need expression role d ∷ more) (op_text op)
    ≡ leaves (expr_need d ∷ text_need (codes ")") ∷ (follow expression role (d - 1) ++ more))
joint-op op (as_kind condition) d more h = cc
joint-op Add (as_kind expression) d more h = refl
joint-op Sub (as_kind expression) d more h = refl
joint-op Mul (as_kind expression) d more h = refl
joint-op Div (as_kind expression) d more h = refl
joint-op Rem (as_kind expression) d more h = refl
joint-op Add (as_first outer) d more h = refl
joint-op Sub (as_first outer) d more h = refl
joint-op Mul (as_first outer) d more h = refl
joint-op Div (as_first outer) d more h = refl
joint-op Rem (as_first outer) d more h = refl

pub joint-compare : (how : Compare) (role : Role) (d : ℕ) (more : List Need) → allows role condition ≡ true →
    step_needs (joint_need expression role d ∷ more) (compare_text how)
    ≡ leaves (expr_need d ∷ text_need (codes ")") ∷ (follow condition role (d - 1) ++ more))
joint-compare how (as_kind expression) d more h = cc
joint-compare Eq (as_kind condition) d more h = refl
joint-compare Ne (as_kind condition) d more h = refl
joint-compare Lt (as_kind condition) d more h = refl
joint-compare Le (as_kind condition) d more h = refl
joint-compare Ge (as_kind condition) d more h = refl
joint-compare Gt (as_kind condition) d more h = refl
joint-compare Eq (as_first outer) d more h = refl
joint-compare Ne (as_first outer) d more h = refl
joint-compare Lt (as_first outer) d more h = refl
joint-compare Le (as_first outer) d more h = refl
joint-compare Ge (as_first outer) d more h = refl
joint-compare Gt (as_first outer) d more h = refl

pub joint-connective : (text : List ℕ) → is_connective text ≡ true → (role : Role) (d : ℕ) (more : List Need) →
    allows role condition ≡ true →
    step_needs (joint_need condition role d ∷ more) text
    ≡ leaves (cond_need d ∷ text_need (codes ")") ∷ (follow condition role (d - 1) ++ more))
joint-connective text c (as_kind expression) d more h = cc
joint-connective text c (as_kind condition) d more h = rw c refl
joint-connective text c (as_first outer) d more h = rw c refl

pub joint-question : (role : Role) (d : ℕ) (more : List Need) → allows role expression ≡ true →
    step_needs (joint_need condition role d ∷ more) (codes "?")
    ≡ leaves (expr_need d ∷ text_need (codes ":") ∷ expr_need d ∷ text_need (codes ")")
    ∷ (follow expression role (d - 1) ++ more))
joint-question (as_kind expression) d more h = refl
joint-question (as_kind condition) d more h = cc
joint-question (as_first outer) d more h = refl

pub inside-minus : (role : Role) (d : ℕ) (more : List Need) → allows role expression ≡ true →
    step_needs (inside_need role d ∷ more) (codes "-")
    ≡ leaves (expr_need (d + 1) ∷ text_need (codes ")") ∷ (follow expression role d ++ more))
inside-minus (as_kind expression) d more h = refl
inside-minus (as_kind condition) d more h = cc
inside-minus (as_first outer) d more h = refl

pub inside-not : (role : Role) (d : ℕ) (more : List Need) → allows role condition ≡ true →
    step_needs (inside_need role d ∷ more) (codes "!")
    ≡ leaves (cond_need (d + 1) ∷ text_need (codes ")") ∷ (follow condition role d ++ more))
inside-not (as_kind expression) d more h = cc
inside-not (as_kind condition) d more h = refl
inside-not (as_first outer) d more h = refl

pub inside-cast : (role : Role) (d : ℕ) (more : List Need) → allows role expression ≡ true
    → step_needs (inside_need role d ∷ more) (codes "int64_t")
    ≡ leaves (text_need (codes ")") ∷ leaf_need (d + 1) ∷ (follow expression role d ++ more))
inside-cast (as_kind expression) d more h = refl
inside-cast (as_kind condition) d more h = cc
inside-cast (as_first outer) d more h = refl

-- the parts of a spelling in parentheses
pub record Parens (a : Spelling) (tokens rest : List Token) : Type 0 where
  pub inner : List Token
  pub behind : List Token
  pub start : word (codes "(") tokens ≡ Some inner
  pub body : a inner ≡ Some behind
  pub close : word (codes ")") behind ≡ Some rest

pub parens-parts : (a : Spelling) (tokens rest : List Token) → in_parens a tokens ≡ Some rest → Parens a tokens rest
parens-parts a tokens rest h =
    let p : _ = seq-parts (word (codes "(")) (a ⨾ word (codes ")")) tokens rest h in
    let q : _ = seq-parts a (word (codes ")")) p.0 rest p.2 in
    record { inner = p.0; behind = q.0; start = p.1; body = q.1; close = q.2 }

-- the parts of a spelling in brackets
pub record Brackets (a : Spelling) (tokens rest : List Token) : Type 0 where
  pub inner : List Token
  pub behind : List Token
  pub start : word (codes "[") tokens ≡ Some inner
  pub body : a inner ≡ Some behind
  pub close : word (codes "]") behind ≡ Some rest

pub brackets-parts : (a : Spelling) (tokens rest : List Token) → in_brackets a tokens ≡ Some rest → Brackets a tokens rest
brackets-parts a tokens rest h =
    let p : _ = seq-parts (word (codes "[")) (a ⨾ word (codes "]")) tokens rest h in
    let q : _ = seq-parts a (word (codes "]")) p.0 rest p.2 in
    record { inner = p.0; behind = q.0; start = p.1; body = q.1; close = q.2 }

-- the tokens begin with one that is no `.` and no `[`
unfoldable pub Firm : List Token → Type 0
Firm tokens = (t : Token) × (rest : List Token) × (tokens ≡ t ∷ rest) × (tail_of t.text ≡ no_tail)

pub word-firm : (text : List ℕ) (tokens rest : List Token) → tail_of text ≡ no_tail → word text tokens ≡ Some rest → Firm tokens
unfolding Firm
word-firm text tokens rest n h =
    let f : Front text tokens rest = word-front text tokens rest h in
    (f.token, rest, f.list, ap tail_of f.same ∙ n)

-- a token that is neither of them leaves the tail out
pub tail-skipped : (d : ℕ) (more : List Need) (text : List ℕ) → tail_of text ≡ no_tail
    → step_needs (tail_need d ∷ more) text ≡ step_needs more text
tail-skipped d more text h = by (bytes_eq text (codes ".")) (bytes_eq text (codes "[")) h
  where
    by : (a b : Bool) → (if a then dot_tail else (if b then bracket_tail else no_tail)) ≡ no_tail
        → (if a then leaves (name_need ∷ more) else (if b then leaves (index_needs d ++ more) else step_needs more text))
        ≡ step_needs more text
    by true b k = cc
    by false true k = cc
    by false false k = refl

pub op-firm : (op : BinOp) → tail_of (op_text op) ≡ no_tail
op-firm Add = refl
op-firm Sub = refl
op-firm Mul = refl
op-firm Div = refl
op-firm Rem = refl

pub compare-firm : (how : Compare) → tail_of (compare_text how) ≡ no_tail
compare-firm Eq = refl
compare-firm Ne = refl
compare-firm Lt = refl
compare-firm Le = refl
compare-firm Ge = refl
compare-firm Gt = refl

pub one_less : (d : ℕ) → d + 1 - 1 ≡ d
one_less d = omega arith

-- further arguments are followed by `,` or `)`
pub values-firm : (es : WrittenExprs) (tokens mid rest : List Token) → more_exprs_spelling es tokens ≡ Some mid →
    word (codes ")") mid ≡ Some rest → Firm tokens
values-firm no_exprs tokens mid rest h k = subst Firm (sym (some_same tokens mid h)) (word-firm (codes ")") mid rest refl k)
values-firm (more_exprs e es) tokens mid rest h k =
    let p : _ = seq-parts (word (codes ",")) (expr_spelling e ⨾ more_exprs_spelling es) tokens mid h in
    word-firm (codes ",") tokens p.0 refl p.1

-- each number that is written as a literal is read as one
abbrev pub LiteralsAgree : Type 0
LiteralsAgree = (v : ℕ) → nat_lt v (2 ^ 63) ≡ true → is_literal (decimal v) ≡ true
