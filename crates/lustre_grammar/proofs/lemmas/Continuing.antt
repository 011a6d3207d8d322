-- How a list continues after an element.
use Rattle.std.proofs.Common.{◌≡◌, refl, ◌∙◌, ap, ℕ, zero, suc, ◌+◌, ◌≤◌, ◌<◌, List, [], ◌∷◌, length, Bool, true, false, Option, Some, Result, Ok, Err, arith}
use Rattle.c_syntax.specs.declared.fault.CFault.{CFault}
use Rattle.c_grammar.specs.Tokens.{Token}
use Rattle.c_grammar.specs.Parsing.{Parsed, Step, one_more, the_end, after_step, many}
use Rattle.base_core.specs.Results.{◌>>=◌}
use Rattle.lustre_grammar.specs.Grammar.{equation_spelling}
use Rattle.lustre_grammar.specs.Elements.{TakesTokens}
use Rattle.lustre_grammar.specs.Parsing.{Form, lead_of, is_closed, parse_mark, list_step, list_step_by, parse_declared, parse_given, parse_value, parse_equation, parse_node}
use Rattle.lustre_grammar.proofs.Answering.{claimed}
use Rattle.lustre_grammar.proofs.Equations.{declared-reads, given-reads, equation-reads}
use Rattle.lustre_grammar.proofs.lemmas.Forms.{mark-shrinks}
use Rattle.lustre_grammar.proofs.Lists.{mark-reads}
use Rattle.lustre_grammar.proofs.Exprs.{value-reads}
use Rattle.lustre_grammar.proofs.Nodes.{node-reads}
use Rattle.lustre_grammar.proofs.lemmas.Taking.{name-takes, expr-takes, declared-takes, equation-takes, node-takes}

-- ---- Each element takes a token at least

pub given-takes_tokens : TakesTokens parse_given
given-takes_tokens last tokens x rest e =
    (name-takes x).by tokens rest (claimed (parse_given last tokens) (x, rest) (given-reads last _ [] tokens refl) e).spelled

pub declared-takes_tokens : TakesTokens parse_declared
declared-takes_tokens last tokens x rest e =
    (declared-takes x).by tokens rest
    (claimed (parse_declared last tokens) (x, rest) (declared-reads last _ [] tokens refl) e).spelled

pub value-takes_tokens : TakesTokens parse_value
value-takes_tokens last tokens x rest e =
    (expr-takes x).by tokens rest (claimed (parse_value last tokens) (x, rest) (value-reads last _ [] tokens refl) e).spelled

pub equation-takes_tokens : TakesTokens parse_equation
equation-takes_tokens last tokens x rest e = (equation-takes x).by tokens rest (by tokens e)
  where
    by : (tokens : List Token) → parse_equation last tokens ≡ Ok (x, rest) → equation_spelling x tokens ≡ Some rest
    by [] e = cc e
    by (t ∷ tokens) e =
        (claimed (parse_equation last (t ∷ tokens)) (x, rest) (equation-reads last [] _ (t ∷ tokens) refl) e).spelled

pub node-takes_tokens : TakesTokens parse_node
node-takes_tokens last tokens x rest e =
    (node-takes x).by tokens rest (claimed (parse_node last tokens) (x, rest) (node-reads last _ tokens refl) e).spelled

-- ---- A list

-- an element of a list has ended, and what is left is no longer
abbrev left_of : {X : Type 0} → Result (Step X) CFault → List Token
left_of (Ok (one_more x rest)) = rest
left_of (Ok (the_end rest)) = rest
left_of (Err fault) = []

mark-left : (last : ℕ) (mark : Option (List ℕ)) (tokens : List Token) (x : Unit {0} × List Token) →
    parse_mark last mark tokens ≡ Ok x → length x.1 ≤ length tokens
mark-left last mark tokens x e =
    (mark-shrinks mark).by tokens x.1 (claimed (parse_mark last mark tokens) x (mark-reads last mark _ [] tokens refl) e).spelled

-- after an element fewer tokens are left, and the further elements are those of the list that begins there
pub record Continues {X : Type 0} (step : ℕ → List Token → Result (Step X) CFault) : Type 0 where
  pub fewer : (count : ℕ) (tokens : List Token) (x : X) (rest : List Token) →
      step count tokens ≡ Ok (one_more x rest) → length rest < length tokens
  pub further : (count : ℕ) (tokens : List Token) (x : X) (rest : List Token) →
      step count tokens ≡ Ok (one_more x rest) →
      many step (suc (length tokens)) count tokens
      ≡ (many step (suc (length rest)) (count + 1) rest >>= (λ (xs : List X × List Token). Ok (x ∷ xs.0, xs.1)))

module _ {X : Type 0} (last : ℕ) (form : Form) (element : ℕ → List Token → Parsed X) (takes : TakesTokens element) where
  abbrev step : ℕ → List Token → Result (Step X) CFault
  step = list_step last form (element last)

  fewer : (count : ℕ) (tokens : List Token) (x : X) (rest : List Token) → step count tokens ≡ Ok (one_more x rest) →
      length rest < length tokens
  fewer count tokens x rest e = by (is_closed form.close tokens) e
    where
      at-mark : (y : X) (left : List Token) (r : Parsed (Unit {0})) → length left < length tokens →
          parse_mark last form.after left ≡ r → (r >>= λ after. Ok (one_more y after.1)) ≡ Ok (one_more x rest) →
          length rest < length tokens
      at-mark y left (Ok after) h k d =
          let same : length after.1 ≡ length rest = ap (λ s. length (left_of s)) d in
          omega (arith, h, mark-left last form.after left after k, same)
      at-mark y left (Err fault) h k d = cc d

      at-element : (lead : List Token) (r : Parsed X) → length lead ≤ length tokens → element last lead ≡ r →
          (r >>= λ y. parse_mark last form.after y.1 >>= λ after. Ok (one_more y.0 after.1)) ≡ Ok (one_more x rest) →
          length rest < length tokens
      at-element lead (Ok y) h k d =
          at-mark y.0 y.1 (parse_mark last form.after y.1) (omega (arith, h, takes last lead y.0 y.1 k)) refl d
      at-element lead (Err fault) h k d = cc d

      at-lead : (r : Parsed (Unit {0})) → parse_mark last (lead_of form count) tokens ≡ r →
          (r >>= λ lead. element last lead.1 >>= λ y. parse_mark last form.after y.1 >>= λ after. Ok (one_more y.0 after.1))
          ≡ Ok (one_more x rest) → length rest < length tokens
      at-lead (Ok lead) k d =
          at-element lead.1 (element last lead.1) (mark-left last (lead_of form count) tokens lead k) refl d
      at-lead (Err fault) k d = cc d

      by : (b : Bool) → list_step_by last form (element last) count tokens b ≡ Ok (one_more x rest) →
          length rest < length tokens
      by true d = cc d
      by false d = at-lead (parse_mark last (lead_of form count) tokens) refl d

  -- enough fuel is as good as more
  many-enough : (m n count : ℕ) (tokens : List Token) → length tokens < m → length tokens < n →
      many step m count tokens ≡ many step n count tokens
  many-enough zero n count tokens h k = absurd (omega (arith, h))
  many-enough (suc m) zero count tokens h k = absurd (omega (arith, k))
  many-enough (suc m) (suc n) count tokens h k =
      by (step count tokens) (λ rest d. many-enough m n (count + 1) rest (omega (arith, h, d)) (omega (arith, k, d))) refl
    where
      by : (r : Result (Step X) CFault) →
          ((rest : List Token) → length rest < length tokens → many step m (count + 1) rest ≡ many step n (count + 1) rest) →
          step count tokens ≡ r → (r >>= after_step (many step m) count) ≡ (r >>= after_step (many step n) count)
      by (Err fault) later e = refl
      by (Ok (the_end rest)) later e = refl
      by (Ok (one_more x rest)) later e =
          ap (λ r. r >>= (λ (xs : List X × List Token). Ok (x ∷ xs.0, xs.1))) (later rest (fewer count tokens x rest e))

  pub continues : Continues (list_step last form (element last))
  continues = record { fewer = fewer; further = further }
    where
      further : (count : ℕ) (tokens : List Token) (x : X) (rest : List Token) → step count tokens ≡ Ok (one_more x rest) →
          many step (suc (length tokens)) count tokens
          ≡ (many step (suc (length rest)) (count + 1) rest >>= (λ (xs : List X × List Token). Ok (x ∷ xs.0, xs.1)))
      further count tokens x rest e =
          ap (λ r. r >>= after_step (many step (length tokens)) count) e
          ∙ ap (λ r. r >>= (λ (xs : List X × List Token). Ok (x ∷ xs.0, xs.1)))
          (many-enough (length tokens) (suc (length rest)) (count + 1) rest (fewer count tokens x rest e) (omega arith))
