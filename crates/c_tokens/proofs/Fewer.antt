-- Behind whatever is read there are fewer tokens.
use Rattle.std.proofs.Common.{◌≡◌, refl, ap, ℕ, zero, suc, ◌+◌, ◌<◌, ◌≤◌, List, [], ◌∷◌, length, Bool, true, false, codes, bytes_eq, Result, Ok, Err, arith}
use Rattle.c_syntax.specs.declared.fault.CFault.{CFault}
use Rattle.c_grammar.specs.Tokens.{Token}
use Rattle.c_syntax.specs.Names.{is_name}
use Rattle.c_grammar.specs.Written.{WrittenExpr, WrittenCond}
use Rattle.base_core.specs.Results.{◌>>=◌, ◌>>◌}
use Rattle.c_grammar.specs.Parsing.{Parsed, Operand, value, test, Step, one_more, the_end, after_step, many, or_syntax, or_syntax_unless, next, parse_word, parse_name, parse_type, parse_literal, parse_cast, parse_field_name, parse_index, parse_tail, parse_leaf_from, parse_leaf, value_only, test_only, deeper_value, deeper_test, parse_number, values_step_by, values_step, parse_values, join_value, join_test, join, parse_inside, parse_opened, opened_too_deep, parse_operand, parse_expr, parse_cond, first_text, value_joint, test_joint, comma_of, opener_of, inside_of, tail_of, type_of_text}
use Rattle.c_grammar.specs.declared.openers.Comma.{Comma}
use Rattle.c_grammar.specs.declared.openers.Comma.TheVariants.{Another as another, Closed as closed, Nothing as no_comma}
use Rattle.c_grammar.specs.declared.openers.Inside.{Inside}
use Rattle.c_grammar.specs.declared.openers.Inside.TheVariants.{Minus as minus_inside, Not as not_inside, Cast as cast_inside, First as first_inside}
use Rattle.c_grammar.specs.declared.openers.Opener.{Opener}
use Rattle.c_grammar.specs.declared.openers.Opener.TheVariants.{Number as number_opener, Call as call_opener, Paren as paren_opener, Nothing as no_opener}
use Rattle.c_grammar.specs.declared.openers.Tail.{Tail}
use Rattle.c_grammar.specs.declared.openers.Tail.TheVariants.{Dot as dot_tail, Bracket as bracket_tail, Nothing as no_tail}
use Rattle.c_grammar.specs.declared.openers.TestJoint.{TestJoint}
use Rattle.c_grammar.specs.declared.openers.TestJoint.TheVariants.{And as and_joint, Or as or_joint, Pick as pick_joint, Nothing as no_test_joint}
use Rattle.c_grammar.specs.declared.openers.ValueJoint.{ValueJoint}
use Rattle.c_grammar.specs.declared.openers.ValueJoint.TheVariants.{Operator as op_joint, Comparison as compare_joint, Nothing as no_value_joint}
use Rattle.c_grammar.specs.declared.openers.Want.{Want}
use Rattle.c_grammar.specs.declared.openers.Want.TheVariants.{Value as want_value, Test as want_test, Any as want_any}

-- fewer than so many are left
pub record Below {X : Type 0} (n : ℕ) (r : Parsed X) : Type 0 where
  pub by : (x : X) (rest : List Token) → r ≡ Ok (x, rest) → length rest < n

-- fewer than so many are left after a further element, and no more than so many at the end
pub record StepBelow {X : Type 0} (n : ℕ) (r : Result (Step X) CFault) : Type 0 where
  pub more : (x : X) (rest : List Token) → r ≡ Ok (one_more x rest) → length rest < n
  pub ends : (rest : List Token) → r ≡ Ok (the_end rest) → length rest ≤ n

-- how many tokens are left
abbrev left_of : {X : Type 0} → ℕ → Parsed X → ℕ
left_of d (Ok read) = length read.1
left_of d (Err fault) = d

-- how many tokens are left after a further element
abbrev left_behind : {X : Type 0} → ℕ → Result (Step X) CFault → ℕ
left_behind d (Ok (one_more x rest)) = length rest
left_behind d (Ok (the_end rest)) = length rest
left_behind d (Err fault) = d

pub below-ok : {X : Type 0} (n : ℕ) (x : X) (rest : List Token) → length rest < n → Below n (Ok (x, rest))
below-ok n x rest h = record { by = λ y left e. omega (arith, h, ap (left_of 0) e) }

pub below-err : {X : Type 0} (n : ℕ) (fault : CFault) → Below {X = X} n (Err fault)
below-err {X} n fault = record { by = λ y left e. absurd (no y left e) }
  where
    no : (y : X) (left : List Token) → ◌≡◌ {A = Parsed X} (Err fault) (Ok (y, left)) → ⊥
    no y left e = cc

pub below-then : {X Y : Type 0} (m n : ℕ) (r : Parsed X) (go : X × List Token → Parsed Y) → Below m r →
    ((read : X × List Token) → length read.1 < m → Below n (go read)) → Below n (r >>= go)
below-then m n (Ok read) go first later = later read (first.by read.0 read.1 refl)
below-then m n (Err fault) go first later = below-err n fault

pub below-after : {X Y : Type 0} (n : ℕ) (r : Result X CFault) (go : X → Parsed Y) → ((x : X) → Below n (go x)) → Below n (r >>= go)
below-after n (Ok x) go later = later x
below-after n (Err fault) go later = below-err n fault

pub below-unless : {X Y : Type 0} (n : ℕ) (r : Result X CFault) (s : Parsed Y) → Below n s → Below n (r >> s)
below-unless n (Ok x) s later = later
below-unless n (Err fault) s later = below-err n fault

pub below-more : {X : Type 0} (m n : ℕ) (r : Parsed X) → m ≤ n → Below m r → Below n r
below-more m n r h first = record { by = λ x rest e. let one : length rest < m = first.by x rest e in omega arith }

pub step-err : {X : Type 0} (n : ℕ) (fault : CFault) → StepBelow {X = X} n (Err fault)
step-err {X} n fault = record { more = λ x rest e. absurd (no-more x rest e); ends = λ rest e. absurd (no-end rest e) }
  where
    no-more : (x : X) (rest : List Token) → ◌≡◌ {A = Result (Step X) CFault} (Err fault) (Ok (one_more x rest)) → ⊥
    no-more x rest e = cc

    no-end : (rest : List Token) → ◌≡◌ {A = Result (Step X) CFault} (Err fault) (Ok (the_end rest)) → ⊥
    no-end rest e = cc

pub step-more : {X : Type 0} (n : ℕ) (r : Parsed X) → Below n r → StepBelow n (r >>= (λ (x : X × List Token). Ok (one_more x.0 x.1)))
step-more {X} n (Ok read) below =
    record {
      more = λ x rest e. omega (arith, below.by read.0 read.1 refl, ap (left_behind 0) e);
      ends = λ rest e. absurd (no rest e);
    }
  where
    no : (rest : List Token) → ◌≡◌ {A = Result (Step X) CFault} (Ok (one_more read.0 read.1)) (Ok (the_end rest)) → ⊥
    no rest e = cc
step-more {X} n (Err fault) below = step-err n fault

pub step-end : {X : Type 0} (n : ℕ) (left : List Token) → length left ≤ n → StepBelow {X = X} n (Ok (the_end left))
step-end {X} n left h = record { more = λ x rest e. absurd (no x rest e); ends = λ rest e. omega (arith, h, ap (left_behind 0) e) }
  where
    no : (x : X) (rest : List Token) → ◌≡◌ {A = Result (Step X) CFault} (Ok (the_end left)) (Ok (one_more x rest)) → ⊥
    no x rest e = cc

pub step-then : {X Y : Type 0} (m n : ℕ) (r : Parsed X) (go : X × List Token → Result (Step Y) CFault) → Below m r →
    ((read : X × List Token) → length read.1 < m → StepBelow n (go read)) → StepBelow n (r >>= go)
step-then m n (Ok read) go first later = later read (first.by read.0 read.1 refl)
step-then m n (Err fault) go first later = step-err n fault

pub step-wider : {X : Type 0} (m n : ℕ) (r : Result (Step X) CFault) → m ≤ n → StepBelow m r → StepBelow n r
step-wider m n r h first =
    record {
      more = λ x rest e. let one : length rest < m = first.more x rest e in
          omega arith;
      ends = λ rest e. let one : length rest ≤ m = first.ends rest e in omega arith;
    }

pub many-below : {X : Type 0} (step : ℕ → List Token → Result (Step X) CFault) →
    ((count : ℕ) (tokens : List Token) → StepBelow (length tokens) (step count tokens)) →
    (m count : ℕ) (tokens : List Token) → Below (suc (length tokens)) (many step m count tokens)
many-below step s zero count tokens = below-ok (suc (length tokens)) [] tokens (omega arith)
many-below {X} step s (suc m) count tokens = by (step count tokens) (many-below step s m (count + 1)) (s count tokens)
  where
    by : (r : Result (Step X) CFault) →
        ((rest : List Token) → Below (suc (length rest)) (many step m (count + 1) rest)) → StepBelow (length tokens) r →
        Below (suc (length tokens)) (r >>= after_step (many step m) count)
    by (Err fault) each b = below-err (suc (length tokens)) fault
    by (Ok (the_end rest)) each b = below-ok (suc (length tokens)) [] rest (omega (arith, b.ends rest refl))
    by (Ok (one_more x rest)) each b =
        let fewer : length rest < length tokens = b.more x rest refl in
        below-then (suc (length rest)) (suc (length tokens)) (many step m (count + 1) rest) _ (each rest)
        (λ read h. below-ok (suc (length tokens)) (x ∷ read.0) read.1 (omega arith))

module _ (last : ℕ) where
  pub next-below : (tokens : List Token) → Below (length tokens) (next last tokens)
  next-below [] = below-err 0 _
  next-below (t ∷ tokens) = below-ok (suc (length tokens)) t tokens (omega arith)

  pub word-below : (text : List ℕ) (tokens : List Token) → Below (length tokens) (parse_word last text tokens)
  word-below text tokens =
      below-then (length tokens) (length tokens) (next last tokens) _ (next-below tokens)
      (λ t h. below-unless (length tokens) (or_syntax_unless t.0 (bytes_eq t.0.text text)) _
      (below-ok (length tokens) tt t.1 h))

  pub name-below : (tokens : List Token) → Below (length tokens) (parse_name last tokens)
  name-below tokens =
      below-then (length tokens) (length tokens) (next last tokens) _ (next-below tokens)
      (λ t h. below-unless (length tokens) (or_syntax_unless t.0 (is_name t.0.text)) _
      (below-ok (length tokens) t.0.text t.1 h))

  pub type-below : (tokens : List Token) → Below (length tokens) (parse_type last tokens)
  type-below tokens =
      below-then (length tokens) (length tokens) (next last tokens) _ (next-below tokens)
      (λ t h. below-after (length tokens) (or_syntax t.0 (type_of_text t.0.text)) _
      (λ type. below-ok (length tokens) type t.1 h))

  pub literal-below : (tokens : List Token) → Below (length tokens) (parse_literal last tokens)
  literal-below tokens =
      below-then (length tokens) (length tokens) (next last tokens) _ (next-below tokens)
      (λ t h. below-unless (length tokens) _ _ (below-ok (length tokens) _ t.1 h))

  pub cast-below : (tokens : List Token) → Below (length tokens) (parse_cast last tokens)
  cast-below tokens =
      below-then (length tokens) (length tokens) (parse_word last (codes "(") tokens) _ (word-below (codes "(") tokens) (λ opened h.
      below-then (length opened.1) (length tokens) (parse_type last opened.1) _ (type-below opened.1) (λ type k.
      below-then (length type.1) (length tokens) (parse_word last (codes ")") type.1) _ (word-below (codes ")") type.1) (λ close j.
      below-ok (length tokens) type.0 close.1 (omega arith))))

  pub field_name-below : (tokens : List Token) → Below (length tokens) (parse_field_name last tokens)
  field_name-below tokens =
      below-then (length tokens) (length tokens) (parse_word last (codes "->") tokens) _ (word-below (codes "->") tokens) (λ arrow h.
      below-more (length arrow.1) (length tokens) (parse_name last arrow.1) (omega arith) (name-below arrow.1))

  value_only-below : (n : ℕ) (read : Operand × List Token) → length read.1 < n → Below n (value_only last read)
  value_only-below n (value e, tokens) h = below-ok n e tokens h
  value_only-below n (test c, tokens) h = below-err n _

  test_only-below : (n : ℕ) (read : Operand × List Token) → length read.1 < n → Below n (test_only last read)
  test_only-below n (value e, tokens) h = below-err n _
  test_only-below n (test c, tokens) h = below-ok n c tokens h

  module _ (operand : Want → List Token → Parsed Operand) (each : (want : Want) (tokens : List Token) →
      Below (length tokens) (operand want tokens)) where
    value-below : (tokens : List Token) → Below (length tokens) (deeper_value last operand tokens)
    value-below tokens =
        below-then (length tokens) (length tokens) (operand want_value tokens) _ (each want_value tokens)
        (λ read h. value_only-below (length tokens) read h)

    test-below : (tokens : List Token) → Below (length tokens) (deeper_test last operand tokens)
    test-below tokens =
        below-then (length tokens) (length tokens) (operand want_test tokens) _ (each want_test tokens)
        (λ read h. test_only-below (length tokens) read h)

    index-below : (tokens : List Token) → Below (length tokens) (parse_index last operand tokens)
    index-below tokens =
        below-then (length tokens) (length tokens) (next last tokens) _ (next-below tokens) (λ opened h.
        below-then (length opened.1) (length tokens) (deeper_value last operand opened.1) _ (value-below opened.1) (λ e k.
        below-then (length e.1) (length tokens) (parse_word last (codes "]") e.1) _ (word-below (codes "]") e.1) (λ close j.
        below-ok (length tokens) _ close.1 (omega arith))))

    tail-below : (line : ℕ) (field : List ℕ) (tokens : List Token) (tail : Tail)
        → Below (suc (length tokens)) (parse_tail last operand line field tokens tail)
    tail-below line field tokens dot_tail =
        below-then (length tokens) (suc (length tokens)) (next last tokens) _ (next-below tokens) (λ dot h.
        below-then (length dot.1) (suc (length tokens)) (parse_name last dot.1) _ (name-below dot.1) (λ inner k.
        below-ok (suc (length tokens)) _ inner.1 (omega arith)))
    tail-below line field tokens bracket_tail =
        below-then (length tokens) (suc (length tokens)) (parse_index last operand tokens) _ (index-below tokens) (λ index h.
        below-ok (suc (length tokens)) _ index.1 (omega arith))
    tail-below line field tokens no_tail = below-ok (suc (length tokens)) _ tokens (omega arith)

    leaf_from-below : (t : Token) (tokens : List Token) (is_own : Bool)
        → Below (suc (length tokens)) (parse_leaf_from last operand t tokens is_own)
    leaf_from-below t tokens true =
        below-then (length tokens) (suc (length tokens)) (parse_field_name last tokens) _ (field_name-below tokens) (λ field h.
        below-more (suc (length field.1)) (suc (length tokens))
        (parse_tail last operand t.line field.0 field.1 (tail_of (first_text field.1))) (omega arith)
        (tail-below t.line field.0 field.1 (tail_of (first_text field.1))))
    leaf_from-below t tokens false = below-unless (suc (length tokens)) _ _ (below-ok (suc (length tokens)) _ tokens (omega arith))

    leaf-below : (tokens : List Token) → Below (length tokens) (parse_leaf last operand tokens)
    leaf-below tokens =
        below-then (length tokens) (length tokens) (next last tokens) _ (next-below tokens) (λ t h.
        below-more (suc (length t.1)) (length tokens) (parse_leaf_from last operand t.0 t.1 (bytes_eq t.0.text (codes "s"))) (omega arith)
        (leaf_from-below t.0 t.1 (bytes_eq t.0.text (codes "s"))))

    number-below : (tokens : List Token) → Below (length tokens) (parse_number last operand tokens)
    number-below tokens =
        below-then (length tokens) (length tokens) (parse_word last (codes "(") tokens) _ (word-below (codes "(") tokens) (λ opened h.
        below-then (length opened.1) (length tokens) (parse_literal last opened.1) _ (literal-below opened.1) (λ n k.
        below-then (length n.1) (length tokens) (parse_word last (codes ")") n.1) _ (word-below (codes ")") n.1) (λ close j.
        below-ok (length tokens) _ close.1 (omega arith))))

    values_step_by-below : (t : Token) (tokens : List Token) (comma : Comma) →
        StepBelow (suc (length tokens)) (values_step_by last operand t tokens comma)
    values_step_by-below t tokens another =
        step-more (suc (length tokens)) (deeper_value last operand tokens)
        (below-more (length tokens) (suc (length tokens)) (deeper_value last operand tokens) (omega arith)
        (value-below tokens))
    values_step_by-below t tokens closed = step-end (suc (length tokens)) tokens (omega arith)
    values_step_by-below t tokens no_comma = step-err (suc (length tokens)) _

    values_step-below : (count : ℕ) (tokens : List Token) → StepBelow (length tokens) (values_step last operand count tokens)
    values_step-below count tokens =
        step-then (length tokens) (length tokens) (next last tokens) _ (next-below tokens) (λ t h.
        step-wider (suc (length t.1)) (length tokens) (values_step_by last operand t.0 t.1 (comma_of t.0.text))
        (omega arith) (values_step_by-below t.0 t.1 (comma_of t.0.text)))

    values-below : (t : Token) (tokens : List Token) → Below (length tokens) (parse_values last operand t tokens)
    values-below t tokens =
        below-then (length tokens) (length tokens) (parse_word last (codes "(") tokens) _ (word-below (codes "(") tokens) (λ opened h.
        below-then (length opened.1) (length tokens) (deeper_value last operand opened.1) _ (value-below opened.1) (λ first k.
        below-then (suc (length first.1)) (length tokens)
        (many (values_step last operand) (suc (length first.1)) 0 first.1) _
        (many-below (values_step last operand) values_step-below (suc (length first.1)) 0 first.1) (λ later j.
        below-ok (length tokens) _ later.1 (omega arith))))

    join_value-below : (a : WrittenExpr) (t : Token) (tokens : List Token) (joint : ValueJoint) →
        Below (length tokens) (join_value last operand a t tokens joint)
    join_value-below a t tokens (op_joint op) =
        below-then (length tokens) (length tokens) (deeper_value last operand tokens) _ (value-below tokens)
        (λ b h. below-ok (length tokens) _ b.1 h)
    join_value-below a t tokens (compare_joint how) =
        below-then (length tokens) (length tokens) (deeper_value last operand tokens) _ (value-below tokens)
        (λ b h. below-ok (length tokens) _ b.1 h)
    join_value-below a t tokens no_value_joint = below-err (length tokens) _

    join_test-below : (c : WrittenCond) (t : Token) (tokens : List Token) (joint : TestJoint) →
        Below (length tokens) (join_test last operand c t tokens joint)
    join_test-below c t tokens and_joint =
        below-then (length tokens) (length tokens) (deeper_test last operand tokens) _ (test-below tokens)
        (λ d h. below-ok (length tokens) _ d.1 h)
    join_test-below c t tokens or_joint =
        below-then (length tokens) (length tokens) (deeper_test last operand tokens) _ (test-below tokens)
        (λ d h. below-ok (length tokens) _ d.1 h)
    join_test-below c t tokens pick_joint =
        below-then (length tokens) (length tokens) (deeper_value last operand tokens) _ (value-below tokens) (λ a h.
        below-then (length a.1) (length tokens) (parse_word last (codes ":") a.1) _ (word-below (codes ":") a.1) (λ colon k.
        below-then (length colon.1) (length tokens) (deeper_value last operand colon.1) _ (value-below colon.1) (λ b j.
        below-ok (length tokens) _ b.1 (omega arith))))
    join_test-below c t tokens no_test_joint = below-err (length tokens) _

    join-below : (want : Want) (first : Operand) (t : Token × List Token) → Below (length t.1) (join last operand want first t)
    join-below want (value a) t = join_value-below a t.0 t.1 (value_joint want t.0.text)
    join-below want (test c) t = join_test-below c t.0 t.1 (test_joint want t.0.text)

    inside-below : (want : Want) (tokens : List Token) (inside : Inside) →
        Below (length tokens) (parse_inside last operand want tokens inside)
    inside-below want tokens minus_inside =
        below-then (length tokens) (length tokens) (next last tokens) _ (next-below tokens) (λ sign h.
        below-then (length sign.1) (length tokens) (deeper_value last operand sign.1) _ (value-below sign.1) (λ e k.
        below-then (length e.1) (length tokens) (parse_word last (codes ")") e.1) _ (word-below (codes ")") e.1) (λ close j.
        below-ok (length tokens) _ close.1 (omega arith))))
    inside-below want tokens not_inside =
        below-then (length tokens) (length tokens) (next last tokens) _ (next-below tokens) (λ sign h.
        below-then (length sign.1) (length tokens) (deeper_test last operand sign.1) _ (test-below sign.1) (λ e k.
        below-then (length e.1) (length tokens) (parse_word last (codes ")") e.1) _ (word-below (codes ")") e.1) (λ close j.
        below-ok (length tokens) _ close.1 (omega arith))))
    inside-below want tokens cast_inside =
        below-then (length tokens) (length tokens) (next last tokens) _ (next-below tokens) (λ type h.
        below-then (length type.1) (length tokens) (parse_word last (codes ")") type.1) _ (word-below (codes ")") type.1) (λ close k.
        below-then (length close.1) (length tokens) (parse_leaf last operand close.1) _ (leaf-below close.1) (λ leaf j.
        below-ok (length tokens) _ leaf.1 (omega arith))))
    inside-below want tokens first_inside =
        below-then (length tokens) (length tokens) (operand want_any tokens) _ (each want_any tokens) (λ a h.
        below-then (length a.1) (length tokens) (next last a.1) _ (next-below a.1) (λ t k.
        below-then (length t.1) (length tokens) (join last operand want a.0 t) _ (join-below want a.0 t) (λ joined j.
        below-then (length joined.1) (length tokens) (parse_word last (codes ")") joined.1) _ (word-below (codes ")") joined.1) (λ close i.
        below-ok (length tokens) _ close.1 (omega arith)))))

    opened-below : (want : Want) (t : Token) (tokens : List Token) (opener : Opener) →
        Below (length tokens) (parse_opened last operand want t tokens opener)
    opened-below want t tokens number_opener = number-below tokens
    opened-below want t tokens call_opener = values-below t tokens
    opened-below want t tokens paren_opener = inside-below want tokens (inside_of want (first_text tokens))
    opened-below want t tokens no_opener = below-err (length tokens) _

  too_deep-below : (n : ℕ) (t : Token) (opener : Opener) → Below n (opened_too_deep last {X = Operand × List Token} t opener)
  too_deep-below n t number_opener = below-err n _
  too_deep-below n t _ = below-err n _

  pub operand-below : (levels : ℕ) (want : Want) (tokens : List Token) → Below (length tokens) (parse_operand last levels want tokens)
  operand-below zero want tokens =
      below-then (length tokens) (length tokens) (next last tokens) _ (next-below tokens)
      (λ t h. too_deep-below (length tokens) t.0 (opener_of want t.0.text))
  operand-below (suc levels) want tokens =
      below-then (length tokens) (length tokens) (next last tokens) _ (next-below tokens) (λ t h.
      below-more (length t.1) (length tokens)
      (parse_opened last (parse_operand last levels) want t.0 t.1 (opener_of want t.0.text)) (omega arith)
      (opened-below (parse_operand last levels) (operand-below levels) want t.0 t.1 (opener_of want t.0.text)))

  pub expr-below : (levels : ℕ) (tokens : List Token) → Below (length tokens) (parse_expr last levels tokens)
  expr-below levels tokens = value-below (parse_operand last levels) (operand-below levels) tokens

  pub outer_index-below : (levels : ℕ) (tokens : List Token) → Below (length tokens) (parse_index last (parse_operand last levels) tokens)
  outer_index-below levels tokens = index-below (parse_operand last levels) (operand-below levels) tokens

  pub cond-below : (levels : ℕ) (tokens : List Token) → Below (length tokens) (parse_cond last levels tokens)
  cond-below levels tokens = test-below (parse_operand last levels) (operand-below levels) tokens

  pub values_step-falls : (levels : ℕ) (count : ℕ) (tokens : List Token) (x : WrittenExpr) (rest : List Token) →
      values_step last (parse_operand last levels) count tokens ≡ Ok (one_more x rest) → length rest < length tokens
  values_step-falls levels count tokens x rest e =
      (values_step-below (parse_operand last levels) (operand-below levels) count tokens).more x rest e
