-- What the grammar spells is parsed, where it is within the limit, and has an error where it isn't: expressions.
use Rattle.std.proofs.Common.{◌≡◌, ◌⊎◌, inl, inr, refl, sym, ◌∙◌, ap, ℕ, pos, negsuc, zero, suc, ◌+◌, ◌<◌, ◌≤◌, ◌^◌, max, List, [], ◌∷◌, Bool, true, false, ◌&&◌, ◌||◌, not, ◌==◌, if◌then◌else◌, nat_le, nat_lt, Some, None, Ok, Err, codes, bytes_eq, decimal, arith, le-leb, leb-true}
use Rattle.std.proofs.lemmas.Slice.Eq.{bytes_eq-Decides}
use Rattle.std.specs.List.{list_all, list_any}
use Rattle.std.specs.Char.{is_ascii_digit}
use Rattle.std.proofs.lemmas.Bool.{and_parts, and_from, or_cases}
use Rattle.c_syntax.specs.Names.{is_lower, is_word_byte, ends_with, keywords, is_name}
use Rattle.base_core.specs.Results.{◌>>=◌, ◌>>◌}
use Rattle.c_syntax.specs.declared.fault.CFault.{CFault}
use Rattle.c_grammar.specs.Tokens.{Token}
use Rattle.c_grammar.specs.Grammar.{Spelling, ◌⨾◌, never, word, literal_word}
use Rattle.c_grammar.specs.Prefix.{is_literal, digits_value}
use Rattle.c_grammar.specs.Parsing.{Parsed, or_syntax, or_syntax_unless, deep_at, next}
use Rattle.c_grammar.proofs.lemmas.PrefixLaws.{Front, word-front, seq-parts, Parens, parens-parts}
use Rattle.c_grammar.proofs.lemmas.LiteralLaws.{numeral, literals-agree}
use Rattle.c_rules.proofs.lemmas.SpelledWords.{word-parsed}
use Rattle.lustre_syntax.specs.declared.code.LusOp.{LusOp}
use Rattle.lustre_syntax.specs.declared.code.LusOp.TheVariants.{Add, Sub, Mul, Div, Mod, Eq, Ne, Lt, Le, Gt, Ge, And, Or}
use Rattle.lustre_syntax.specs.Names.{words, is_lustre_name}
use Rattle.lustre_syntax.specs.Tree.{number, truth, name, negative, negation, two, choice, arrow, previous}
use Rattle.lustre_syntax.specs.Lawful.{expr_depth}
use Rattle.lustre_grammar.specs.Written.{WrittenExpr}
use Rattle.lustre_grammar.specs.Grammar.{read_word, truth_text, op_text, expr_spelling}
use Rattle.lustre_grammar.specs.Parsing.{joint_text, joint_of_text, joined, word_at, leaf_of, is_opener, inside_of, parse_closed, parse_joined, parse_inside, parse_parens, parse_expr}
use Rattle.lustre_grammar.specs.declared.openers.Joint.{Joint}
use Rattle.lustre_grammar.specs.declared.openers.Inside.TheVariants.{First as first_inside}
use Rattle.lustre_grammar.specs.declared.openers.Joint.TheVariants.{Operator as op_joint, Arrow as arrow_joint}
use Rattle.lustre_reading_laws.proofs.SpelledLists.{IsRead, moved, surely, likewise, read-then, after, read-as, ended, WordFront, word-there, name-parsed}

-- a name is no other word
pub not_name : (text other : List ℕ) → is_lustre_name text ≡ true → is_lustre_name other ≡ false → bytes_eq text other ≡ false
not_name text other h k = by (bytes_eq text other) refl
  where
    by : (b : Bool) → bytes_eq text other ≡ b → b ≡ false
    by false e = refl
    by true e = let same : is_lustre_name text ≡ is_lustre_name other = ap is_lustre_name ((bytes_eq-Decides text other).0 e) in cc

digit-no_name : (text : List ℕ) → is_literal text ≡ true → is_lustre_name text ≡ true → ⊥
digit-no_name [] d n = cc
digit-no_name (b ∷ bs) d n = by (or_cases (bytes_eq (b ∷ bs) (codes "s")) (is_name (b ∷ bs) && not (list_any (bytes_eq (b ∷ bs)) words)) n)
  where
    digit : b ≤ 57
    digit =
        let p : _ =
        and_parts (list_all is_ascii_digit (b ∷ bs) && (bytes_eq (b ∷ bs) (codes "0") || not (b == 48)))
        (nat_lt (digits_value 0 (b ∷ bs)) (2 ^ 63)) d in
        let q : _ = and_parts (list_all is_ascii_digit (b ∷ bs)) (bytes_eq (b ∷ bs) (codes "0") || not (b == 48)) p.0 in
        let r : _ = and_parts (is_ascii_digit b) (list_all is_ascii_digit bs) q.0 in
        leb-true b 57 (and_parts (nat_le 48 b) (nat_le b 57) r.0).1

    letter : is_name (b ∷ bs) ≡ true → 97 ≤ b
    letter h =
        let lower : Bool = is_lower b in
        let bytes : Bool = list_all is_word_byte (b ∷ bs) in
        let tail : Bool = not (ends_with (b ∷ bs) (codes "_t")) in
        let free : Bool = not (list_any (bytes_eq (b ∷ bs)) keywords) in
        let own : Bool = not (bytes_eq (b ∷ bs) (codes "s")) in
        let p : _ = and_parts (((lower && bytes) && tail) && free) own h in
        let q : _ = and_parts ((lower && bytes) && tail) free p.0 in
        let r : _ = and_parts (lower && bytes) tail q.0 in
        let s : _ = and_parts lower bytes r.0 in
        leb-true 97 b (and_parts (nat_le 97 b) (nat_le b 122) s.0).0

    by : (bytes_eq (b ∷ bs) (codes "s") ≡ true) ⊎ ((is_name (b ∷ bs) && not (list_any (bytes_eq (b ∷ bs)) words)) ≡ true) → ⊥
    by (inl e) =
        let same : b ∷ bs ≡ codes "s" = (bytes_eq-Decides (b ∷ bs) (codes "s")).0 e in
        let none : is_literal (b ∷ bs) ≡ false = ap is_literal same in
        cc
    by (inr e) =
        let low : b ≤ 57 = digit in
        let high : 97 ≤ b = letter (and_parts (is_name (b ∷ bs)) (not (list_any (bytes_eq (b ∷ bs)) words)) e).0 in
        absurd (omega arith)

name-no_literal : (text : List ℕ) → is_lustre_name text ≡ true → is_literal text ≡ false
name-no_literal text h = by (is_literal text) refl
  where
    by : (b : Bool) → is_literal text ≡ b → b ≡ false
    by true e = absurd (digit-no_name text e h)
    by false e = refl

-- ---- What an expression begins with

pub data Opener (text : List ℕ) : Type 0 where
  by_number : is_literal text ≡ true → Opener text
  by_truth : (value : Bool) → text ≡ truth_text value → Opener text
  by_name : is_lustre_name text ≡ true → Opener text
  by_paren : text ≡ codes "(" → Opener text

-- it begins with none of the other words
pub opener-no : (text other : List ℕ) → Opener text → is_literal other ≡ false → is_lustre_name other ≡ false →
    bytes_eq (codes "true") other ≡ false → bytes_eq (codes "false") other ≡ false → bytes_eq (codes "(") other ≡ false →
    bytes_eq text other ≡ false
opener-no text other (by_number e) a b c d f = by (bytes_eq text other) refl
  where
    by : (q : Bool) → bytes_eq text other ≡ q → q ≡ false
    by false k = refl
    by true k = let same : is_literal text ≡ is_literal other = ap is_literal ((bytes_eq-Decides text other).0 k) in cc
opener-no text other (by_truth true e) a b c d f = ap (λ x. bytes_eq x other) e ∙ c
opener-no text other (by_truth false e) a b c d f = ap (λ x. bytes_eq x other) e ∙ d
opener-no text other (by_name e) a b c d f = not_name text other e b
opener-no text other (by_paren e) a b c d f = ap (λ x. bytes_eq x other) e ∙ f

pub record Opens (tokens : List Token) : Type 0 where
  pub token : Token
  pub later : List Token
  pub list : tokens ≡ token ∷ later
  pub opener : Opener token.text

parens-open : (a : Spelling) (tokens rest : List Token) → (word (codes "(") ⨾ a ⨾ word (codes ")")) tokens ≡ Some rest → Opens tokens
parens-open a tokens rest h =
    let p : Parens a tokens rest = parens-parts a tokens rest h in
    let f : Front (codes "(") tokens p.inner = word-front (codes "(") tokens p.inner p.start in
    record { token = f.token; later = p.inner; list = f.list; opener = by_paren f.same }

number-text : (n : ℕ) (tokens rest : List Token) → literal_word n tokens ≡ Some rest →
    (nat_lt n (2 ^ 63) ≡ true) × Front (decimal n) tokens rest
number-text n tokens rest h = by (nat_lt n (2 ^ 63)) refl h
  where
    by : (b : Bool) → nat_lt n (2 ^ 63) ≡ b → (if b then word (decimal n) else never) tokens ≡ Some rest →
        (nat_lt n (2 ^ 63) ≡ true) × Front (decimal n) tokens rest
    by true e k = (e, word-front (decimal n) tokens rest k)
    by false e k = cc

pub expr-opens : (e : WrittenExpr) (tokens rest : List Token) → expr_spelling e tokens ≡ Some rest → Opens tokens
expr-opens (number (pos n)) tokens rest h =
    let f : _ = number-text n tokens rest h in
    record {
      token = f.1.token;
      later = rest;
      list = f.1.list;
      opener = by_number (ap is_literal f.1.same ∙ literals-agree n f.0);
    }
expr-opens (number (negsuc n)) tokens rest h = cc
expr-opens (truth value) tokens rest h =
    let f : Front (truth_text value) tokens rest = word-front (truth_text value) tokens rest h in
    record { token = f.token; later = rest; list = f.list; opener = by_truth value f.same }
expr-opens (name w) tokens rest h =
    let f : WordFront w tokens rest = word-there w tokens rest h in
    record { token = f.token; later = rest; list = f.list; opener = by_name f.lawful }
expr-opens (negative a) tokens rest h = parens-open (word (codes "-") ⨾ expr_spelling a) tokens rest h
expr-opens (negation a) tokens rest h = parens-open (word (codes "not") ⨾ expr_spelling a) tokens rest h
expr-opens (two op a b) tokens rest h =
    parens-open (expr_spelling a ⨾ word (op_text op) ⨾ expr_spelling b) tokens rest h
expr-opens (choice test a b) tokens rest h =
    parens-open (word (codes "if") ⨾ expr_spelling test ⨾ word (codes "then") ⨾ expr_spelling a ⨾ word (codes "else")
    ⨾ expr_spelling b) tokens rest h
expr-opens (arrow a b) tokens rest h =
    parens-open (expr_spelling a ⨾ word (codes "->") ⨾ expr_spelling b) tokens rest h
expr-opens (previous w) tokens rest h = parens-open (word (codes "pre") ⨾ read_word w) tokens rest h

opener-first : (text : List ℕ) → Opener text → inside_of text ≡ first_inside
opener-first text o =
    rw (
      opener-no text (codes "-") o refl refl refl refl refl,
      opener-no text (codes "not") o refl refl refl refl refl,
      opener-no text (codes "if") o refl refl refl refl refl,
      opener-no text (codes "pre") o refl refl refl refl refl,
    ) refl

-- ---- Leaves

leaf-number : (t : Token) (n : ℕ) → nat_lt n (2 ^ 63) ≡ true → t.text ≡ decimal n → leaf_of t ≡ Some (number (pos n))
leaf-number t n small e =
    let bound : n < 2 ^ 63 = leb-true (suc n) (2 ^ 63) small in
    rw (ap is_literal e ∙ literals-agree n small) (ap (λ x. Some (number (pos (digits_value 0 x)))) e
    ∙ ap (λ v. Some (number (pos v))) (numeral n (omega (arith, bound))).value)

leaf-truth : (t : Token) (value : Bool) → t.text ≡ truth_text value → leaf_of t ≡ Some (truth value)
leaf-truth t true e = rw e refl
leaf-truth t false e = rw e refl

leaf-name : (t : Token) → is_lustre_name t.text ≡ true → leaf_of t ≡ Some (name (word_at t))
leaf-name t h =
    λ i. if name-no_literal t.text h i then Some (number (pos (digits_value 0 t.text)))
    else (if not_name t.text (codes "true") h refl i then Some (truth true)
    else (if not_name t.text (codes "false") h refl i then Some (truth false)
    else (if h i then Some (name (word_at t)) else None)))

leaf-paren : (t : Token) → t.text ≡ codes "(" → leaf_of t ≡ None
leaf-paren t e = rw e refl

-- ---- Depths

pub same_test : (a b : Bool) → (a ≡ true → b ≡ true) → (b ≡ true → a ≡ true) → a ≡ b
same_test true true f g = refl
same_test true false f g = sym (f refl)
same_test false true f g = g refl
same_test false false f g = refl

one-deeper : (m levels : ℕ) → nat_le m levels ≡ nat_le (m + 1) (suc levels)
one-deeper m levels =
    same_test (nat_le m levels) (nat_le (m + 1) (suc levels))
    (λ e. le-leb (m + 1) (suc levels) (omega (arith, leb-true m levels e)))
    (λ e. le-leb m levels (omega (arith, leb-true (m + 1) (suc levels) e)))

two-deeper : (m n levels : ℕ) → (nat_le m levels && nat_le n levels) ≡ nat_le (max m n + 1) (suc levels)
two-deeper m n levels =
    same_test (nat_le m levels && nat_le n levels) (nat_le (max m n + 1) (suc levels))
    (λ e. let p : _ = and_parts (nat_le m levels) (nat_le n levels) e in
    let a : m ≤ levels = leb-true m levels p.0 in
    let b : n ≤ levels = leb-true n levels p.1 in
    le-leb (max m n + 1) (suc levels) (omega arith))
    (λ e. let h : max m n + 1 ≤ suc levels = leb-true (max m n + 1) (suc levels) e in
    and_from (nat_le m levels) (nat_le n levels) (le-leb m levels (omega arith)) (le-leb n levels (omega arith)))

max_test : (m n levels : ℕ) → (nat_le m levels && nat_le n levels) ≡ nat_le (max m n) levels
max_test m n levels = two-deeper m n levels ∙ sym (one-deeper (max m n) levels)

-- ---- Joints

op-joint : (op : LusOp) → joint_of_text (op_text op) ≡ Some (op_joint op)
op-joint Add = refl
op-joint Sub = refl
op-joint Mul = refl
op-joint Div = refl
op-joint Mod = refl
op-joint Eq = refl
op-joint Ne = refl
op-joint Lt = refl
op-joint Le = refl
op-joint Gt = refl
op-joint Ge = refl
op-joint And = refl
op-joint Or = refl

joint-known : (joint : Joint) → joint_of_text (joint_text joint) ≡ Some joint
joint-known (op_joint op) = op-joint op
joint-known arrow_joint = refl

depth-some : (e : WrittenExpr) → 1 ≤ expr_depth e
depth-some (number value) = omega arith
depth-some (truth value) = omega arith
depth-some (name w) = omega arith
depth-some (negative a) = omega arith
depth-some (negation a) = omega arith
depth-some (two op a b) = omega arith
depth-some (choice test a b) = omega arith
depth-some (arrow a b) = omega arith
depth-some (previous w) = omega arith

module _ (last : ℕ) where
  closed-read : {b : Bool} {a : WrittenExpr} {mid rest : List Token} (tokens : List Token)
      (deeper : List Token → Parsed WrittenExpr) → IsRead b a mid (deeper tokens) → word (codes ")") mid ≡ Some rest →
      IsRead b a rest (parse_closed last deeper tokens)
  closed-read tokens deeper h close = ended last (codes ")") (λ x. x) h close

  leaf-read : (e : WrittenExpr) (levels : ℕ) (t : Token) (tokens rest : List Token) → tokens ≡ t ∷ rest →
      leaf_of t ≡ Some e → IsRead (nat_le 1 (suc levels)) e rest (parse_expr last (suc levels) tokens)
  leaf-read e levels t tokens rest list leaf =
      likewise (sym (le-leb 1 (suc levels) (omega arith)))
      (surely (ap (parse_expr last (suc levels)) list ∙ rw leaf refl))

  -- what follows a `(`
  parens-parsed : (levels : ℕ) (tokens inner : List Token) → word (codes "(") tokens ≡ Some inner →
      parse_expr last (suc levels) tokens ≡ parse_parens last (parse_expr last levels) inner
  parens-parsed levels tokens inner h =
      let f : Front (codes "(") tokens inner = word-front (codes "(") tokens inner h in
      ap (parse_expr last (suc levels)) f.list ∙ rw (leaf-paren f.token f.same, f.same) refl

  word-inside : (levels : ℕ) (text : List ℕ) (inner later : List Token) → word text inner ≡ Some later →
      parse_parens last (parse_expr last levels) inner ≡ parse_inside last (parse_expr last levels) inner later (inside_of text)
  word-inside levels text inner later h =
      let f : Front text inner later = word-front text inner later h in
      ap (parse_parens last (parse_expr last levels)) f.list
      ∙ ap (λ x. parse_inside last (parse_expr last levels) (f.token ∷ later) later (inside_of x)) f.same
      ∙ ap (λ ts. parse_inside last (parse_expr last levels) ts later (inside_of text)) (sym f.list)

  first-inside : (levels : ℕ) (inner : List Token) → Opens inner →
      parse_parens last (parse_expr last levels) inner ≡ parse_joined last (parse_expr last levels) inner
  first-inside levels inner o =
      ap (parse_parens last (parse_expr last levels)) o.list
      ∙ ap (λ k. parse_inside last (parse_expr last levels) (o.token ∷ o.later) o.later k) (opener-first o.token.text o.opener)
      ∙ ap (parse_joined last (parse_expr last levels)) (sym o.list)

  -- nothing opens where no level is left
  none-read : (e : WrittenExpr) (tokens rest : List Token) → IsRead (nat_le (expr_depth e) 0) e rest (parse_expr last 0 tokens)
  none-read e tokens rest =
      let some : 1 ≤ expr_depth e = depth-some e in
      record { is = λ h. absurd (omega (arith, leb-true (expr_depth e) 0 h)); isnt = λ h. by tokens }
    where
      test : (t : Token) (b : Bool) → (fault : CFault) × ((or_syntax_unless t b >> deep_at {X = WrittenExpr × List Token} t) ≡ Err fault)
      test t true = (_, refl)
      test t false = (_, refl)

      by : (ts : List Token) → (fault : CFault) × (parse_expr last 0 ts ≡ Err fault)
      by [] = (_, refl)
      by (t ∷ ts) = test t (is_opener t.text)

  -- what follows the first of two operands, and what follows its joint
  abbrev joint_and_second : ℕ → WrittenExpr → Token × List Token → Parsed WrittenExpr
  joint_and_second levels a t =
      or_syntax t.0 (joint_of_text t.0.text) >>= λ joint. parse_closed last (parse_expr last levels) t.1
      >>= λ b. Ok (joined joint a b.0, b.1)

  abbrev second_after : ℕ → WrittenExpr → List Token → Joint → Parsed WrittenExpr
  second_after levels a tokens joint =
      parse_closed last (parse_expr last levels) tokens >>= λ b. Ok (joined joint a b.0, b.1)

  joined-read : (joint : Joint) (a b : WrittenExpr) (within_a within_b : Bool) (levels : ℕ)
      (inner mid others behind rest : List Token) → Opens inner → IsRead within_a a mid (parse_expr last levels inner) →
      word (joint_text joint) mid ≡ Some others → IsRead within_b b behind (parse_expr last levels others) →
      word (codes ")") behind ≡ Some rest →
      IsRead (within_a && within_b) (joined joint a b) rest (parse_parens last (parse_expr last levels) inner)
  joined-read joint a b within_a within_b levels inner mid others behind rest o first join second close =
      let f : Front (joint_text joint) mid others = word-front (joint_text joint) mid others join in
      let is_joint : joint_of_text f.token.text ≡ Some joint = ap joint_of_text f.same ∙ joint-known joint in
      let next_is : (next last mid >>= joint_and_second levels a) ≡ second_after levels a others joint =
      ap (λ ts. next last ts >>= joint_and_second levels a) f.list
      ∙ ap (λ p. or_syntax f.token p >>= second_after levels a others) is_joint in
      moved (first-inside levels inner o)
      (read-then (λ x. next last x.1 >>= joint_and_second levels x.0) first
      (moved next_is (read-as (λ y. joined joint a y) (closed-read others (parse_expr last levels) second close))))

  pub expr-read : (e : WrittenExpr) (levels : ℕ) (tokens rest : List Token) → expr_spelling e tokens ≡ Some rest →
      IsRead (nat_le (expr_depth e) levels) e rest (parse_expr last levels tokens)
  expr-read e zero tokens rest h = none-read e tokens rest
  expr-read (number (pos n)) (suc levels) tokens rest h =
      let f : _ = number-text n tokens rest h in
      leaf-read (number (pos n)) levels f.1.token tokens rest f.1.list (leaf-number f.1.token n f.0 f.1.same)
  expr-read (number (negsuc n)) (suc levels) tokens rest h = cc
  expr-read (truth value) (suc levels) tokens rest h =
      let f : Front (truth_text value) tokens rest = word-front (truth_text value) tokens rest h in
      leaf-read (truth value) levels f.token tokens rest f.list (leaf-truth f.token value f.same)
  expr-read (name w) (suc levels) tokens rest h =
      let f : WordFront w tokens rest = word-there w tokens rest h in
      leaf-read (name w) levels f.token tokens rest f.list (leaf-name f.token f.lawful ∙ ap (λ x. Some (name x)) f.same)
  expr-read (negative a) (suc levels) tokens rest h =
      let q : Parens (word (codes "-") ⨾ expr_spelling a) tokens rest = parens-parts (word (codes "-") ⨾ expr_spelling a) tokens rest h in
      let p : _ = seq-parts (word (codes "-")) (expr_spelling a) q.inner q.behind q.body in
      likewise (one-deeper (expr_depth a) levels)
      (moved (parens-parsed levels tokens q.inner q.start ∙ word-inside levels (codes "-") q.inner p.0 p.1)
      (read-as negative (closed-read p.0 (parse_expr last levels) (expr-read a levels p.0 q.behind p.2) q.close)))
  expr-read (negation a) (suc levels) tokens rest h =
      let q : Parens (word (codes "not") ⨾ expr_spelling a) tokens rest =
      parens-parts (word (codes "not") ⨾ expr_spelling a) tokens rest h in
      let p : _ = seq-parts (word (codes "not")) (expr_spelling a) q.inner q.behind q.body in
      likewise (one-deeper (expr_depth a) levels)
      (moved (parens-parsed levels tokens q.inner q.start ∙ word-inside levels (codes "not") q.inner p.0 p.1)
      (read-as negation (closed-read p.0 (parse_expr last levels) (expr-read a levels p.0 q.behind p.2) q.close)))
  expr-read (two op a b) (suc levels) tokens rest h =
      let q : Parens (expr_spelling a ⨾ word (op_text op) ⨾ expr_spelling b) tokens rest =
      parens-parts (expr_spelling a ⨾ word (op_text op) ⨾ expr_spelling b) tokens rest h in
      let p : _ = seq-parts (expr_spelling a) (word (op_text op) ⨾ expr_spelling b) q.inner q.behind q.body in
      let r : _ = seq-parts (word (op_text op)) (expr_spelling b) p.0 q.behind p.2 in
      likewise (two-deeper (expr_depth a) (expr_depth b) levels)
      (moved (parens-parsed levels tokens q.inner q.start)
      (joined-read (op_joint op) a b (nat_le (expr_depth a) levels) (nat_le (expr_depth b) levels) levels q.inner p.0 r.0
      q.behind rest (expr-opens a q.inner p.0 p.1) (expr-read a levels q.inner p.0 p.1) r.1
      (expr-read b levels r.0 q.behind r.2) q.close))
  expr-read (choice test a b) (suc levels) tokens rest h =
      let q : Parens (word (codes "if") ⨾ expr_spelling test ⨾ word (codes "then") ⨾ expr_spelling a
      ⨾ word (codes "else") ⨾ expr_spelling b) tokens rest =
      parens-parts (word (codes "if") ⨾ expr_spelling test ⨾ word (codes "then") ⨾ expr_spelling a
      ⨾ word (codes "else") ⨾ expr_spelling b) tokens rest h in
      let o : _ =
      seq-parts (word (codes "if")) (expr_spelling test ⨾ word (codes "then") ⨾ expr_spelling a ⨾ word (codes "else")
      ⨾ expr_spelling b) q.inner q.behind q.body in
      let p : _ =
      seq-parts (expr_spelling test) (word (codes "then") ⨾ expr_spelling a ⨾ word (codes "else") ⨾ expr_spelling b)
      o.0 q.behind o.2 in
      let r : _ = seq-parts (word (codes "then")) (expr_spelling a ⨾ word (codes "else") ⨾ expr_spelling b) p.0 q.behind p.2 in
      let t : _ = seq-parts (expr_spelling a) (word (codes "else") ⨾ expr_spelling b) r.0 q.behind r.2 in
      let u : _ = seq-parts (word (codes "else")) (expr_spelling b) t.0 q.behind t.2 in
      likewise
      (ap (λ w. nat_le (expr_depth test) levels && w) (max_test (expr_depth a) (expr_depth b) levels)
      ∙ two-deeper (expr_depth test) (max (expr_depth a) (expr_depth b)) levels)
      (moved (parens-parsed levels tokens q.inner q.start ∙ word-inside levels (codes "if") q.inner o.0 o.1)
      (read-then _ (expr-read test levels o.0 p.0 p.1)
      (after _ (word-parsed last (codes "then") p.0 r.0 r.1)
      (read-then _ (expr-read a levels r.0 t.0 t.1)
      (after _ (word-parsed last (codes "else") t.0 u.0 u.1)
      (read-as (λ y. choice test a y) (closed-read u.0 (parse_expr last levels) (expr-read b levels u.0 q.behind u.2) q.close)))))))
  expr-read (arrow a b) (suc levels) tokens rest h =
      let q : Parens (expr_spelling a ⨾ word (codes "->") ⨾ expr_spelling b) tokens rest =
      parens-parts (expr_spelling a ⨾ word (codes "->") ⨾ expr_spelling b) tokens rest h in
      let p : _ = seq-parts (expr_spelling a) (word (codes "->") ⨾ expr_spelling b) q.inner q.behind q.body in
      let r : _ = seq-parts (word (codes "->")) (expr_spelling b) p.0 q.behind p.2 in
      likewise (two-deeper (expr_depth a) (expr_depth b) levels)
      (moved (parens-parsed levels tokens q.inner q.start)
      (joined-read arrow_joint a b (nat_le (expr_depth a) levels) (nat_le (expr_depth b) levels) levels q.inner p.0 r.0
      q.behind rest (expr-opens a q.inner p.0 p.1) (expr-read a levels q.inner p.0 p.1) r.1
      (expr-read b levels r.0 q.behind r.2) q.close))
  expr-read (previous w) (suc levels) tokens rest h =
      let q : Parens (word (codes "pre") ⨾ read_word w) tokens rest = parens-parts (word (codes "pre") ⨾ read_word w) tokens rest h in
      let p : _ = seq-parts (word (codes "pre")) (read_word w) q.inner q.behind q.body in
      likewise (sym (le-leb 1 (suc levels) (omega arith)))
      (moved (parens-parsed levels tokens q.inner q.start ∙ word-inside levels (codes "pre") q.inner p.0 p.1)
      (surely (rw (name-parsed last w p.0 q.behind p.2, word-parsed last (codes ")") q.behind rest q.close) refl)))
