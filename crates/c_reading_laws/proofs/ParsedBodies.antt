-- What the grammar spells is parsed: expressions, conditions and statements.
use Rattle.std.proofs.Common.{◌≡◌, refl, sym, ◌∙◌, ap, subst, ℕ, zero, suc, ◌+◌, ◌<◌, ◌≤◌, max, List, [], ◌∷◌, length, true, Some, None, Ok, codes, arith}
use Rattle.base_core.specs.declared.base.Compare.{Compare}
use Rattle.base_core.specs.declared.base.Compare.TheVariants.{Eq, Ne, Lt, Le, Ge, Gt}
use Rattle.c_syntax.specs.declared.code.BinOp.{BinOp}
use Rattle.c_syntax.specs.declared.code.BinOp.TheVariants.{Add, Sub, Mul, Div, Rem}
use Rattle.c_grammar.specs.Tokens.{Token}
use Rattle.c_syntax.specs.Names.{is_name}
use Rattle.c_grammar.specs.Written.{WrittenExpr, literal, neg, read, binary, pick, pure, item, WrittenExprs, no_exprs, more_exprs, WrittenCond, compare, both, either, negated}
use Rattle.c_grammar.specs.Grammar.{Spelling, ◌⨾◌, word, at_line, name_word, literal_word, in_parens, in_brackets, op_text, compare_text, own_spelling, leaf_spelling, expr_spelling, exprs_spelling, more_exprs_spelling, cond_spelling}
use Rattle.c_grammar.specs.Parsing.{wants_value, wants_test, value, test, opener_of, inside_of, value_joint, test_joint, comma_of, first_text, many, exprs_from, values_step, parse_values, parse_operand}
use Rattle.c_grammar.specs.declared.openers.Comma.TheVariants.{Another as another, Closed as closed}
use Rattle.c_grammar.specs.declared.openers.Inside.TheVariants.{Minus as minus_inside, Not as not_inside, Cast as cast_inside, First as first_inside}
use Rattle.c_grammar.specs.declared.openers.Opener.TheVariants.{Number as number_opener, Call as call_opener, Paren as paren_opener}
use Rattle.c_grammar.specs.declared.openers.TestJoint.TheVariants.{And as and_joint, Or as or_joint, Pick as pick_joint}
use Rattle.c_grammar.specs.declared.openers.ValueJoint.TheVariants.{Operator as op_joint, Comparison as compare_joint}
use Rattle.c_grammar.specs.declared.openers.Want.{Want}
use Rattle.c_grammar.specs.declared.openers.Want.TheVariants.{Value as want_value, Test as want_test, Any as want_any}
use Rattle.c_grammar.proofs.lemmas.PrefixLaws.{Front, word-front, seq-parts, at_line-inner, name_word-inner, not_word, Parens, parens-parts, Brackets, brackets-parts, Firm, word-firm, values-firm, op-firm, compare-firm, some_same}
use Rattle.c_grammar.proofs.lemmas.Shrinking.{expr-shrinks}
use Rattle.c_rules.proofs.lemmas.SpelledWords.{word-parsed, LineFront, line-front, word-rest}
use Rattle.c_reading_laws.proofs.ParsedWords.{literal-parsed, leaf-parsed, item-parsed}

-- how many levels an expression or a condition opens
abbrev mutual
  pub expr_levels : WrittenExpr → ℕ
  expr_levels (literal n) = 1
  expr_levels (neg e) = expr_levels e + 1
  expr_levels (read line leaf) = 1
  expr_levels (binary op a b) = max (expr_levels a) (expr_levels b) + 1
  expr_levels (pick c a b) = max (cond_levels c) (max (expr_levels a) (expr_levels b)) + 1
  expr_levels (pure line name es) = exprs_levels es + 1
  expr_levels (item line field index) = expr_levels index + 1

  pub exprs_levels : WrittenExprs → ℕ
  exprs_levels no_exprs = 0
  exprs_levels (more_exprs e es) = max (expr_levels e) (exprs_levels es)

  pub cond_levels : WrittenCond → ℕ
  cond_levels (compare how a b) = max (expr_levels a) (expr_levels b) + 1
  cond_levels (both a b) = max (cond_levels a) (cond_levels b) + 1
  cond_levels (either a b) = max (cond_levels a) (cond_levels b) + 1
  cond_levels (negated a) = cond_levels a + 1

-- an opener is seen where an expression is wanted
opens-number : (want : Want) → wants_value want ≡ true → opener_of want (codes "INT64_C") ≡ number_opener
opens-number want_value h = refl
opens-number want_test h = cc
opens-number want_any h = refl

opens-paren : (want : Want) → opener_of want (codes "(") ≡ paren_opener
opens-paren want_value = refl
opens-paren want_test = refl
opens-paren want_any = refl

opens-call : (want : Want) (name : List ℕ) → is_name name ≡ true → wants_value want ≡ true → opener_of want name ≡ call_opener
opens-call want_value name n h = rw (not_word name (codes "INT64_C") n refl, n) refl
opens-call want_test name n h = cc
opens-call want_any name n h = rw (not_word name (codes "INT64_C") n refl, n) refl

minus-begins : (want : Want) → wants_value want ≡ true → inside_of want (codes "-") ≡ minus_inside
minus-begins want_value h = refl
minus-begins want_test h = cc
minus-begins want_any h = refl

not-begins : (want : Want) → wants_test want ≡ true → inside_of want (codes "!") ≡ not_inside
not-begins want_value h = cc
not-begins want_test h = refl
not-begins want_any h = refl

cast-begins : (want : Want) → wants_value want ≡ true → inside_of want (codes "int64_t") ≡ cast_inside
cast-begins want_value h = refl
cast-begins want_test h = cc
cast-begins want_any h = refl

-- a text that opens an expression or a condition begins a first operand
data Opening (text : List ℕ) : Type 0 where
  by_number : text ≡ codes "INT64_C" → Opening text
  by_paren : text ≡ codes "(" → Opening text
  by_name : is_name text ≡ true → Opening text

opening-begins : (want : Want) (text : List ℕ) → Opening text → inside_of want text ≡ first_inside
opening-begins want text (by_number e) = subst (λ x. inside_of want x ≡ first_inside) (sym e) (number want)
  where
    number : (w : Want) → inside_of w (codes "INT64_C") ≡ first_inside
    number want_value = refl
    number want_test = refl
    number want_any = refl
opening-begins want text (by_paren e) = subst (λ x. inside_of want x ≡ first_inside) (sym e) (paren want)
  where
    paren : (w : Want) → inside_of w (codes "(") ≡ first_inside
    paren want_value = refl
    paren want_test = refl
    paren want_any = refl
opening-begins want text (by_name n) = name want
  where
    name : (w : Want) → inside_of w text ≡ first_inside
    name want_value = rw (not_word text (codes "-") n refl, not_word text (codes "int64_t") n refl) refl
    name want_test = rw (not_word text (codes "!") n refl) refl
    name want_any = rw (not_word text (codes "-") n refl, not_word text (codes "!") n refl, not_word text (codes "int64_t") n refl) refl

-- the text of the first token of a spelling
pub word-text : (text : List ℕ) (tokens rest : List Token) → word text tokens ≡ Some rest → first_text tokens ≡ text
word-text text tokens rest h =
    let f : Front text tokens rest = word-front text tokens rest h in
    ap first_text f.list ∙ f.same

parens-text : (a : Spelling) (tokens rest : List Token) → in_parens a tokens ≡ Some rest → Opening (first_text tokens)
parens-text a tokens rest h =
    by_paren (word-text (codes "(") tokens (seq-parts (word (codes "(")) (a ⨾ word (codes ")")) tokens rest h).0
    (seq-parts (word (codes "(")) (a ⨾ word (codes ")")) tokens rest h).1)

expr-text : (e : WrittenExpr) (tokens rest : List Token) → expr_spelling e tokens ≡ Some rest → Opening (first_text tokens)
expr-text (literal n) tokens rest h =
    let p : _ = seq-parts (word (codes "INT64_C")) (in_parens (literal_word n)) tokens rest h in
    by_number (word-text (codes "INT64_C") tokens p.0 p.1)
expr-text (neg e) tokens rest h = parens-text (word (codes "-") ⨾ expr_spelling e) tokens rest h
expr-text (read line leaf) tokens rest h =
    let p : _ = seq-parts (in_parens (word (codes "int64_t"))) (at_line line (leaf_spelling leaf)) tokens rest h in
    parens-text (word (codes "int64_t")) tokens p.0 p.1
expr-text (binary op a b) tokens rest h = parens-text (expr_spelling a ⨾ word (op_text op) ⨾ expr_spelling b) tokens rest h
expr-text (pick c a b) tokens rest h =
    parens-text (cond_spelling c ⨾ word (codes "?") ⨾ expr_spelling a ⨾ word (codes ":") ⨾ expr_spelling b) tokens rest
    h
expr-text (pure line name es) tokens rest h =
    let p : _ = seq-parts (at_line line (name_word name)) (in_parens (exprs_spelling es)) tokens rest h in
    let n : _ = name_word-inner name tokens p.0 (at_line-inner line (name_word name) tokens p.0 p.1) in
    by_name (ap is_name (word-text name tokens p.0 n.1) ∙ n.0)
expr-text (item line field index) tokens rest h =
    let p : _ =
    seq-parts (in_parens (word (codes "int64_t"))) (at_line line (own_spelling field)
    ⨾ in_brackets (expr_spelling index)) tokens rest h in
    parens-text (word (codes "int64_t")) tokens p.0 p.1

cond-text : (c : WrittenCond) (tokens rest : List Token) → cond_spelling c tokens ≡ Some rest → Opening (first_text tokens)
cond-text (compare how a b) tokens rest h = parens-text (expr_spelling a ⨾ word (compare_text how) ⨾ expr_spelling b) tokens rest h
cond-text (both a b) tokens rest h = parens-text (cond_spelling a ⨾ word (codes "&&") ⨾ cond_spelling b) tokens rest h
cond-text (either a b) tokens rest h = parens-text (cond_spelling a ⨾ word (codes "||") ⨾ cond_spelling b) tokens rest h
cond-text (negated a) tokens rest h = parens-text (word (codes "!") ⨾ cond_spelling a) tokens rest h

-- what a first operand is joined by
op-joins : (want : Want) (op : BinOp) → wants_value want ≡ true → value_joint want (op_text op) ≡ op_joint op
op-joins want_test op h = cc
op-joins want_value Add h = refl
op-joins want_value Sub h = refl
op-joins want_value Mul h = refl
op-joins want_value Div h = refl
op-joins want_value Rem h = refl
op-joins want_any Add h = refl
op-joins want_any Sub h = refl
op-joins want_any Mul h = refl
op-joins want_any Div h = refl
op-joins want_any Rem h = refl

compare-joins : (want : Want) (how : Compare) → wants_test want ≡ true → value_joint want (compare_text how) ≡ compare_joint how
compare-joins want_value how h = cc
compare-joins want_test Eq h = refl
compare-joins want_test Ne h = refl
compare-joins want_test Lt h = refl
compare-joins want_test Le h = refl
compare-joins want_test Ge h = refl
compare-joins want_test Gt h = refl
compare-joins want_any Eq h = refl
compare-joins want_any Ne h = refl
compare-joins want_any Lt h = refl
compare-joins want_any Le h = refl
compare-joins want_any Ge h = refl
compare-joins want_any Gt h = refl

and-joins : (want : Want) → wants_test want ≡ true → test_joint want (codes "&&") ≡ and_joint
and-joins want_value h = cc
and-joins want_test h = refl
and-joins want_any h = refl

or-joins : (want : Want) → wants_test want ≡ true → test_joint want (codes "||") ≡ or_joint
or-joins want_value h = cc
or-joins want_test h = refl
or-joins want_any h = refl

pick-joins : (want : Want) → wants_value want ≡ true → test_joint want (codes "?") ≡ pick_joint
pick-joins want_value h = refl
pick-joins want_test h = cc
pick-joins want_any h = refl

-- an element takes a token at least
pub word-shorter : (text : List ℕ) (tokens rest : List Token) → word text tokens ≡ Some rest → length rest < length tokens
word-shorter text tokens rest h =
    let f : Front text tokens rest = word-front text tokens rest h in
    rw f.list (omega arith)

-- the elements of a list of expressions
abbrev pub exprs_in : WrittenExprs → List WrittenExpr
exprs_in no_exprs = []
exprs_in (more_exprs e es) = e ∷ exprs_in es

exprs_from-in : (es : WrittenExprs) → exprs_from (exprs_in es) ≡ es
exprs_from-in no_exprs = refl
exprs_from-in (more_exprs e es) = ap (more_exprs e) (exprs_from-in es)

-- there are fewer further arguments than tokens
exprs-few : (es : WrittenExprs) (tokens rest : List Token) → more_exprs_spelling es tokens ≡ Some rest →
    length (exprs_in es) + length rest ≤ length tokens
exprs-few no_exprs tokens rest h = rw (some_same tokens rest h) (omega arith)
exprs-few (more_exprs e es) tokens rest h =
    let p : _ = seq-parts (word (codes ",")) (expr_spelling e ⨾ more_exprs_spelling es) tokens rest h in
    let q : _ = seq-parts (expr_spelling e) (more_exprs_spelling es) p.0 rest p.2 in
    let one : length p.0 < length tokens = word-shorter (codes ",") tokens p.0 p.1 in
    let two : length q.0 ≤ length p.0 = (expr-shrinks e).by p.0 q.0 q.1 in
    let three : length (exprs_in es) + length rest ≤ length q.0 = exprs-few es q.0 rest q.2 in
    omega arith

pub comma-another : (t : Token) → t.text ≡ codes "," → comma_of t.text ≡ another
comma-another t e = ap comma_of e

pub comma-closed : (t : Token) → t.text ≡ codes ")" → comma_of t.text ≡ closed
comma-closed t e = ap comma_of e

module _ (last : ℕ) where
  mutual
    pub operand-expr : (e : WrittenExpr) (levels : ℕ) (want : Want) (tokens rest : List Token) →
        wants_value want ≡ true → expr_spelling e tokens ≡ Some rest → Firm rest → expr_levels e ≤ levels →
        parse_operand last levels want tokens ≡ Ok (value e, rest)
    operand-expr (literal n) zero want tokens rest w h firm fits = absurd (omega (arith, fits))
    operand-expr (neg e) zero want tokens rest w h firm fits = absurd (omega (arith, fits))
    operand-expr (read line leaf) zero want tokens rest w h firm fits = absurd (omega (arith, fits))
    operand-expr (binary op a b) zero want tokens rest w h firm fits = absurd (omega (arith, fits))
    operand-expr (pick c a b) zero want tokens rest w h firm fits = absurd (omega (arith, fits))
    operand-expr (pure line name es) zero want tokens rest w h firm fits = absurd (omega (arith, fits))
    operand-expr (item line field index) zero want tokens rest w h firm fits = absurd (omega (arith, fits))
    operand-expr (literal n) (suc levels) want tokens rest w h firm fits =
        let p : _ = seq-parts (word (codes "INT64_C")) (in_parens (literal_word n)) tokens rest h in
        let f : Front (codes "INT64_C") tokens p.0 = word-front (codes "INT64_C") tokens p.0 p.1 in
        let q : Parens (literal_word n) p.0 rest = parens-parts (literal_word n) p.0 rest p.2 in
        ap (parse_operand last (suc levels) want) f.list
        ∙ rw (
          ap (opener_of want) f.same ∙ opens-number want w,
          word-parsed last (codes "(") p.0 q.inner q.start,
          literal-parsed last n q.inner q.behind q.body,
          word-parsed last (codes ")") q.behind rest q.close,
        ) refl
    operand-expr (neg e) (suc levels) want tokens rest w h firm fits =
        let q : Parens (word (codes "-") ⨾ expr_spelling e) tokens rest = parens-parts (word (codes "-") ⨾ expr_spelling e) tokens rest h in
        let f : Front (codes "(") tokens q.inner = word-front (codes "(") tokens q.inner q.start in
        let p : _ = seq-parts (word (codes "-")) (expr_spelling e) q.inner q.behind q.body in
        let g : Front (codes "-") q.inner p.0 = word-front (codes "-") q.inner p.0 p.1 in
        ap (parse_operand last (suc levels) want) f.list
        ∙ rw (
          ap (opener_of want) f.same ∙ opens-paren want,
          g.list,
          ap (inside_of want) g.same
              ∙ minus-begins want w,
          operand-expr e levels want_value p.0 q.behind refl p.2 (word-firm (codes ")") q.behind rest refl q.close)
              (omega (arith, fits)),
          word-parsed last (codes ")") q.behind rest q.close,
        ) refl
    operand-expr (read line leaf) (suc levels) want tokens rest w h firm fits =
        let p : _ = seq-parts (in_parens (word (codes "int64_t"))) (at_line line (leaf_spelling leaf)) tokens rest h in
        let q : Parens (word (codes "int64_t")) tokens p.0 = parens-parts (word (codes "int64_t")) tokens p.0 p.1 in
        let f : Front (codes "(") tokens q.inner = word-front (codes "(") tokens q.inner q.start in
        let g : Front (codes "int64_t") q.inner q.behind = word-front (codes "int64_t") q.inner q.behind q.body in
        ap (parse_operand last (suc levels) want) f.list
        ∙ rw (
          ap (opener_of want) f.same ∙ opens-paren want,
          g.list,
          ap (inside_of want) g.same
              ∙ cast-begins want w,
          word-parsed last (codes ")") q.behind p.0 q.close,
          leaf-parsed last (parse_operand last levels) line leaf p.0 rest p.2 firm,
        ) refl
    operand-expr (binary op a b) (suc levels) want tokens rest w h firm fits =
        let q : Parens (expr_spelling a ⨾ word (op_text op) ⨾ expr_spelling b) tokens rest =
        parens-parts (expr_spelling a ⨾ word (op_text op) ⨾ expr_spelling b) tokens rest h in
        let f : Front (codes "(") tokens q.inner = word-front (codes "(") tokens q.inner q.start in
        let p : _ = seq-parts (expr_spelling a) (word (op_text op) ⨾ expr_spelling b) q.inner q.behind q.body in
        let r : _ = seq-parts (word (op_text op)) (expr_spelling b) p.0 q.behind p.2 in
        let g : Front (op_text op) p.0 r.0 = word-front (op_text op) p.0 r.0 r.1 in
        ap (parse_operand last (suc levels) want) f.list
        ∙ rw (
          ap (opener_of want) f.same ∙ opens-paren want,
          opening-begins want (first_text q.inner) (expr-text a q.inner p.0 p.1),
          operand-expr a levels want_any q.inner p.0 refl p.1 (word-firm (op_text op) p.0 r.0 (op-firm op) r.1)
              (omega (arith, fits)),
          g.list,
          ap (value_joint want) g.same ∙ op-joins want op w,
          operand-expr b levels want_value r.0 q.behind refl r.2 (word-firm (codes ")") q.behind rest refl q.close)
              (omega (arith, fits)),
          word-parsed last (codes ")") q.behind rest q.close,
        ) refl
    operand-expr (pick c a b) (suc levels) want tokens rest w h firm fits =
        let q : Parens (cond_spelling c ⨾ word (codes "?") ⨾ expr_spelling a ⨾ word (codes ":") ⨾ expr_spelling b)
        tokens rest =
        parens-parts (cond_spelling c ⨾ word (codes "?") ⨾ expr_spelling a ⨾ word (codes ":") ⨾ expr_spelling b)
        tokens rest h in
        let f : Front (codes "(") tokens q.inner = word-front (codes "(") tokens q.inner q.start in
        let p : _ =
        seq-parts (cond_spelling c) (word (codes "?") ⨾ expr_spelling a ⨾ word (codes ":") ⨾ expr_spelling b)
        q.inner q.behind q.body in
        let r : _ = seq-parts (word (codes "?")) (expr_spelling a ⨾ word (codes ":") ⨾ expr_spelling b) p.0 q.behind p.2 in
        let s : _ = seq-parts (expr_spelling a) (word (codes ":") ⨾ expr_spelling b) r.0 q.behind r.2 in
        let t : _ = seq-parts (word (codes ":")) (expr_spelling b) s.0 q.behind s.2 in
        let g : Front (codes "?") p.0 r.0 = word-front (codes "?") p.0 r.0 r.1 in
        ap (parse_operand last (suc levels) want) f.list
        ∙ rw (
          ap (opener_of want) f.same ∙ opens-paren want,
          opening-begins want (first_text q.inner) (cond-text c q.inner p.0 p.1),
          operand-cond c levels want_any q.inner p.0 refl p.1 (word-firm (codes "?") p.0 r.0 refl r.1)
              (omega (arith, fits)),
          g.list,
          ap (test_joint want) g.same ∙ pick-joins want w,
          operand-expr a levels want_value r.0 s.0 refl s.1 (word-firm (codes ":") s.0 t.0 refl t.1)
              (omega (arith, fits)),
          word-parsed last (codes ":") s.0 t.0 t.1,
          operand-expr b levels want_value t.0 q.behind refl t.2 (word-firm (codes ")") q.behind rest refl q.close)
              (omega (arith, fits)),
          word-parsed last (codes ")") q.behind rest q.close,
        ) refl
    operand-expr (pure line name es) (suc levels) want tokens rest w h firm fits =
        let p : _ = seq-parts (at_line line (name_word name)) (in_parens (exprs_spelling es)) tokens rest h in
        let f : LineFront line (name_word name) tokens p.0 = line-front line (name_word name) tokens p.0 p.1 in
        let n : _ = name_word-inner name (f.token ∷ f.later) p.0 f.inner in
        let o : _ = word-rest name f.token f.later p.0 n.1 in
        let named : is_name f.token.text ≡ true = ap is_name o.0 ∙ n.0 in
        ap (parse_operand last (suc levels) want) f.list
        ∙ rw (opens-call want f.token.text named w, o.1)
        (values-parsed es levels f.token line name p.0 rest f.is o.0 p.2 (omega (arith, fits)))
    operand-expr (item line field index) (suc levels) want tokens rest w h firm fits =
        let p : _ =
        seq-parts (in_parens (word (codes "int64_t"))) (at_line line (own_spelling field)
        ⨾ in_brackets (expr_spelling index)) tokens rest h in
        let q : Parens (word (codes "int64_t")) tokens p.0 = parens-parts (word (codes "int64_t")) tokens p.0 p.1 in
        let f : Front (codes "(") tokens q.inner = word-front (codes "(") tokens q.inner q.start in
        let g : Front (codes "int64_t") q.inner q.behind = word-front (codes "int64_t") q.inner q.behind q.body in
        let r : _ = seq-parts (at_line line (own_spelling field)) (in_brackets (expr_spelling index)) p.0 rest p.2 in
        let b : Brackets (expr_spelling index) r.0 rest = brackets-parts (expr_spelling index) r.0 rest r.2 in
        ap (parse_operand last (suc levels) want) f.list
        ∙ rw (
          ap (opener_of want) f.same ∙ opens-paren want,
          g.list,
          ap (inside_of want) g.same
              ∙ cast-begins want w,
          word-parsed last (codes ")") q.behind p.0 q.close,
          item-parsed last (parse_operand last levels) line field index p.0 r.0 b.inner b.behind rest r.1 b.start
              (rw (operand-expr index levels want_value b.inner b.behind refl b.body
              (word-firm (codes "]") b.behind rest refl b.close) (omega (arith, fits))) refl) b.close,
        ) refl

    values-parsed : (es : WrittenExprs) (levels : ℕ) (t : Token) (line : ℕ) (name : List ℕ) (tokens rest : List Token) →
        t.line ≡ line → t.text ≡ name → in_parens (exprs_spelling es) tokens ≡ Some rest → exprs_levels es ≤ levels →
        parse_values last (parse_operand last levels) t tokens ≡ Ok (value (pure line name es), rest)
    values-parsed no_exprs levels t line name tokens rest on same h fits =
        let q : Parens (exprs_spelling no_exprs) tokens rest = parens-parts (exprs_spelling no_exprs) tokens rest h in
        let none : None ≡ Some q.behind = q.body in
        cc
    values-parsed (more_exprs e es) levels t line name tokens rest on same h fits =
        let q : Parens (exprs_spelling (more_exprs e es)) tokens rest = parens-parts (exprs_spelling (more_exprs e es)) tokens rest h in
        let p : _ = seq-parts (expr_spelling e) (more_exprs_spelling es) q.inner q.behind q.body in
        let few : length (exprs_in es) + length q.behind ≤ length p.0 = exprs-few es p.0 q.behind p.2 in
        rw (
          word-parsed last (codes "(") tokens q.inner q.start,
          operand-expr e levels want_value q.inner p.0 refl p.1 (values-firm es p.0 q.behind rest p.2 q.close)
              (omega (arith, fits)),
          later-parsed es levels (suc (length p.0)) 0 p.0 q.behind rest p.2 q.close
              (omega (arith, fits)) (omega (arith, few)),
          exprs_from-in es,
          on,
          same,
        ) refl

    later-parsed : (es : WrittenExprs) (levels most count : ℕ) (tokens mid rest : List Token) →
        more_exprs_spelling es tokens ≡ Some mid → word (codes ")") mid ≡ Some rest → exprs_levels es ≤ levels →
        length (exprs_in es) < most → many (values_step last (parse_operand last levels)) most count tokens ≡ Ok
        (exprs_in es, rest)
    later-parsed no_exprs levels zero count tokens mid rest h close fits enough = absurd (omega (arith, enough))
    later-parsed (more_exprs e es) levels zero count tokens mid rest h close fits enough = absurd (omega (arith, enough))
    later-parsed no_exprs levels (suc most) count tokens mid rest h close fits enough =
        let f : Front (codes ")") mid rest = word-front (codes ")") mid rest close in
        ap (many (values_step last (parse_operand last levels)) (suc most) count) (some_same tokens mid h ∙ f.list)
        ∙ rw (comma-closed f.token f.same) refl
    later-parsed (more_exprs e es) levels (suc most) count tokens mid rest h close fits enough =
        let p : _ = seq-parts (word (codes ",")) (expr_spelling e ⨾ more_exprs_spelling es) tokens mid h in
        let q : _ = seq-parts (expr_spelling e) (more_exprs_spelling es) p.0 mid p.2 in
        let f : Front (codes ",") tokens p.0 = word-front (codes ",") tokens p.0 p.1 in
        ap (many (values_step last (parse_operand last levels)) (suc most) count) f.list
        ∙ rw (
          comma-another f.token f.same,
          operand-expr e levels want_value p.0 q.0 refl q.1 (values-firm es q.0 mid rest q.2 close)
              (omega (arith, fits)),
          later-parsed es levels most (count + 1) q.0 mid rest q.2 close (omega (arith, fits))
              (omega (arith, enough)),
        ) refl

    pub operand-cond : (c : WrittenCond) (levels : ℕ) (want : Want) (tokens rest : List Token) →
        wants_test want ≡ true → cond_spelling c tokens ≡ Some rest → Firm rest → cond_levels c ≤ levels →
        parse_operand last levels want tokens ≡ Ok (test c, rest)
    operand-cond (compare how a b) zero want tokens rest w h firm fits = absurd (omega (arith, fits))
    operand-cond (both a b) zero want tokens rest w h firm fits = absurd (omega (arith, fits))
    operand-cond (either a b) zero want tokens rest w h firm fits = absurd (omega (arith, fits))
    operand-cond (negated a) zero want tokens rest w h firm fits = absurd (omega (arith, fits))
    operand-cond (compare how a b) (suc levels) want tokens rest w h firm fits =
        let q : Parens (expr_spelling a ⨾ word (compare_text how) ⨾ expr_spelling b) tokens rest =
        parens-parts (expr_spelling a ⨾ word (compare_text how) ⨾ expr_spelling b) tokens rest h in
        let f : Front (codes "(") tokens q.inner = word-front (codes "(") tokens q.inner q.start in
        let p : _ = seq-parts (expr_spelling a) (word (compare_text how) ⨾ expr_spelling b) q.inner q.behind q.body in
        let r : _ = seq-parts (word (compare_text how)) (expr_spelling b) p.0 q.behind p.2 in
        let g : Front (compare_text how) p.0 r.0 = word-front (compare_text how) p.0 r.0 r.1 in
        ap (parse_operand last (suc levels) want) f.list
        ∙ rw (
          ap (opener_of want) f.same ∙ opens-paren want,
          opening-begins want (first_text q.inner) (expr-text a q.inner p.0 p.1),
          operand-expr a levels want_any q.inner p.0 refl p.1
              (word-firm (compare_text how) p.0 r.0 (compare-firm how) r.1) (omega (arith, fits)),
          g.list,
          ap (value_joint want) g.same ∙ compare-joins want how w,
          operand-expr b levels want_value r.0 q.behind refl r.2 (word-firm (codes ")") q.behind rest refl q.close)
              (omega (arith, fits)),
          word-parsed last (codes ")") q.behind rest q.close,
        ) refl
    operand-cond (both a b) (suc levels) want tokens rest w h firm fits =
        let q : Parens (cond_spelling a ⨾ word (codes "&&") ⨾ cond_spelling b) tokens rest =
        parens-parts (cond_spelling a ⨾ word (codes "&&") ⨾ cond_spelling b) tokens rest h in
        let f : Front (codes "(") tokens q.inner = word-front (codes "(") tokens q.inner q.start in
        let p : _ = seq-parts (cond_spelling a) (word (codes "&&") ⨾ cond_spelling b) q.inner q.behind q.body in
        let r : _ = seq-parts (word (codes "&&")) (cond_spelling b) p.0 q.behind p.2 in
        let g : Front (codes "&&") p.0 r.0 = word-front (codes "&&") p.0 r.0 r.1 in
        ap (parse_operand last (suc levels) want) f.list
        ∙ rw (
          ap (opener_of want) f.same ∙ opens-paren want,
          opening-begins want (first_text q.inner) (cond-text a q.inner p.0 p.1),
          operand-cond a levels want_any q.inner p.0 refl p.1 (word-firm (codes "&&") p.0 r.0 refl r.1)
              (omega (arith, fits)),
          g.list,
          ap (test_joint want) g.same ∙ and-joins want w,
          operand-cond b levels want_test r.0 q.behind refl r.2 (word-firm (codes ")") q.behind rest refl q.close)
              (omega (arith, fits)),
          word-parsed last (codes ")") q.behind rest q.close,
        ) refl
    operand-cond (either a b) (suc levels) want tokens rest w h firm fits =
        let q : Parens (cond_spelling a ⨾ word (codes "||") ⨾ cond_spelling b) tokens rest =
        parens-parts (cond_spelling a ⨾ word (codes "||") ⨾ cond_spelling b) tokens rest h in
        let f : Front (codes "(") tokens q.inner = word-front (codes "(") tokens q.inner q.start in
        let p : _ = seq-parts (cond_spelling a) (word (codes "||") ⨾ cond_spelling b) q.inner q.behind q.body in
        let r : _ = seq-parts (word (codes "||")) (cond_spelling b) p.0 q.behind p.2 in
        let g : Front (codes "||") p.0 r.0 = word-front (codes "||") p.0 r.0 r.1 in
        ap (parse_operand last (suc levels) want) f.list
        ∙ rw (
          ap (opener_of want) f.same ∙ opens-paren want,
          opening-begins want (first_text q.inner) (cond-text a q.inner p.0 p.1),
          operand-cond a levels want_any q.inner p.0 refl p.1 (word-firm (codes "||") p.0 r.0 refl r.1)
              (omega (arith, fits)),
          g.list,
          ap (test_joint want) g.same ∙ or-joins want w,
          operand-cond b levels want_test r.0 q.behind refl r.2 (word-firm (codes ")") q.behind rest refl q.close)
              (omega (arith, fits)),
          word-parsed last (codes ")") q.behind rest q.close,
        ) refl
    operand-cond (negated a) (suc levels) want tokens rest w h firm fits =
        let q : Parens (word (codes "!") ⨾ cond_spelling a) tokens rest = parens-parts (word (codes "!") ⨾ cond_spelling a) tokens rest h in
        let f : Front (codes "(") tokens q.inner = word-front (codes "(") tokens q.inner q.start in
        let p : _ = seq-parts (word (codes "!")) (cond_spelling a) q.inner q.behind q.body in
        let g : Front (codes "!") q.inner p.0 = word-front (codes "!") q.inner p.0 p.1 in
        ap (parse_operand last (suc levels) want) f.list
        ∙ rw (
          ap (opener_of want) f.same ∙ opens-paren want,
          g.list,
          ap (inside_of want) g.same ∙ not-begins want w,
          operand-cond a levels want_test p.0 q.behind refl p.2 (word-firm (codes ")") q.behind rest refl q.close)
              (omega (arith, fits)),
          word-parsed last (codes ")") q.behind rest q.close,
        ) refl
