-- What the lines of functions and of differences say.
use Rattle.std.proofs.Common.{◌≡◌, ℕ, zero, suc, ◌+◌, ◌-◌, ◌^◌, ◌<◌, ◌≤◌, Bool, true, false, cond, List, [], ◌∷◌, ◌++◌, map, filter, refl, sym, ap, ◌∙◌, append_assoc, arith}
use Rattle.std.specs.Prelude.{codes, decimal}
use Rattle.std.specs.List.{AllByRecursion, range_with_len}
use Rattle.std.proofs.lemmas.Fmt.{decimal_injective}
use Rattle.std.proofs.lemmas.List.{append_cancel_left}
use Rattle.base_core.specs.declared.Port.{Port}
use Rattle.base_core.specs.declared.Port.TheVariants.{Number}
use Rattle.base_core.specs.Words.{port_word}
use Rattle.modules_profile.specs.declared.Function.{Function}
use Rattle.base_core.specs.Ports.{has_bit, ports_in}
use Rattle.modules_report.specs.Texts.{list_words, out_line, spaced}
use Rattle.modules_report.proofs.Cuts.{AreWords, cut-words, same-head}
use Rattle.modules_report.proofs.LineWords.{IsSmall, digit-first, none-listed, other-port, port_injective, same-listed, same-others, until, word, word-decimal, word-port, words-append, words-listed}

-- the numbers of the outputs of a set
abbrev pub numbers_in : ℕ → ℕ → List ℕ
numbers_in mask outputs = filter (λ k. has_bit mask (k - 1)) (range_with_len 1 outputs)

-- the words of two lists
abbrev pub listed_words : List ℕ → List (List ℕ) → List (List ℕ) → List (List ℕ)
listed_words j needs outputs = j ∷ codes "needs" ∷ needs ++ codes "outputs" ∷ outputs

spaced-append : (vs ws : List (List ℕ)) → spaced (vs ++ ws) ≡ spaced vs ++ spaced ws
spaced-append [] ws = refl
spaced-append (v ∷ vs) ws = ap (λ (t : List ℕ). 32 ∷ v ++ t) (spaced-append vs ws) ∙ sym (append_assoc (32 ∷ v) (spaced vs) (spaced ws))

six : (a b c d e f x : List ℕ) → a ++ b ++ c ++ d ++ e ++ f ++ x ≡ a ++ (b ++ (c ++ (d ++ (e ++ (f ++ x)))))
six a b c d e f x = simp (append_assoc) refl

out-shape : (j : List ℕ) (needs outputs : List (List ℕ)) (x : List ℕ) →
    codes "out " ++ j ++ codes " needs" ++ spaced needs ++ codes " outputs" ++ spaced outputs ++ codes "\n" ++ x
    ≡ codes "out" ++ spaced (listed_words j needs outputs) ++ 10 ∷ x
out-shape j needs outputs x =
    ap (λ (t : List ℕ). codes "out " ++ t)
    (six j (codes " needs") (spaced needs) (codes " outputs") (spaced outputs) (codes "\n") x ∙ sym right)
  where
    right : j ++ (codes " needs" ++ spaced (needs ++ codes "outputs" ∷ outputs)) ++ 10 ∷ x
        ≡ j ++ (codes " needs" ++ (spaced needs ++ (codes " outputs" ++ (spaced outputs ++ 10 ∷ x))))
    right = append_assoc j (codes " needs" ++ spaced (needs ++ codes "outputs" ∷ outputs)) (10 ∷ x)
        ∙ ap (λ (t : List ℕ). j ++ (codes " needs" ++ t))
        (ap (λ (t : List ℕ). t ++ 10 ∷ x) (spaced-append needs (codes "outputs" ∷ outputs))
        ∙ append_assoc (spaced needs) (spaced (codes "outputs" ∷ outputs)) (10 ∷ x))

-- the words after the first one
abbrev pub out_words : List Port → ℕ → ℕ → Function → List (List ℕ)
out_words ports outputs j f =
    listed_words (decimal j) (list_words (map port_word (ports_in f.inputs ports)))
    (list_words (map decimal (numbers_in f.outputs outputs)))

abbrev behind : List Port → ℕ → Function → List (List ℕ)
behind ports outputs f =
    list_words (map port_word (ports_in f.inputs ports)) ++ codes "outputs" ∷ list_words (map decimal (numbers_in f.outputs outputs))

pub out-line-words : (ports : List Port) (outputs j : ℕ) (f : Function) (x : List ℕ) →
    out_line ports outputs j f ++ x ≡ codes "out" ++ spaced (out_words ports outputs j f) ++ 10 ∷ x
out-line-words ports outputs j f x =
    out-shape (decimal j) (list_words (map port_word (ports_in f.inputs ports))) (list_words (map decimal (numbers_in f.outputs outputs))) x

-- ---- Members of filtered lists

pub kept-are : {X : Type 0} (Is : X → Type 0) (p : X → Bool) (xs : List X) → AllByRecursion Is xs → AllByRecursion Is (filter p xs)
kept-are Is p [] a = tt
kept-are Is p (x ∷ xs) a = by (p x) (kept-are Is p xs a.1)
  where
    by : (t : Bool) → AllByRecursion Is (filter p xs) → AllByRecursion Is (cond t (x ∷ filter p xs) (filter p xs))
    by true more = (a.0, more)
    by false more = more

-- numbers that can be told apart
abbrev IsLow : ℕ → Type 0
IsLow k = k < 2 ^ 32

low : (k : ℕ) → IsLow k → k < 2 ^ 64
low k h = omega (arith, h)

pub range-low : (a n : ℕ) → a + n < 2 ^ 32 → AllByRecursion IsLow (range_with_len a n)
range-low a zero h = tt
range-low a (suc n) h = (omega (arith, h), range-low (a + 1) n (omega (arith, h)))

pub ports-small : (inputs : ℕ) → inputs ≤ 32 → AllByRecursion IsSmall (map Number (range_with_len 1 inputs))
ports-small inputs h = each 1 inputs (omega (arith, h))
  where
    each : (a n : ℕ) → a + n < 2 ^ 32 → AllByRecursion IsSmall (map Number (range_with_len a n))
    each a zero h = tt
    each a (suc n) h = (omega (arith, h), each (a + 1) n (omega (arith, h)))

same-number : (j k : ℕ) → IsLow j → IsLow k → decimal j ≡ decimal k → j ≡ k
same-number j k h i e = decimal_injective j k (low j h) (low k i) e

no-number : (w : List ℕ) (c : ℕ) (bytes : List ℕ) → 57 < c → w ≡ c ∷ bytes → (k : ℕ) → IsLow k → decimal k ≡ w → ⊥
no-number w c bytes high is k h e = digit-first k c bytes (low k h) high (e ∙ is)

no-port : (w : List ℕ) (c : ℕ) (bytes : List ℕ) → 57 < c → (c ≡ 101 → ⊥) → (c ≡ 116 → ⊥) → w ≡ c ∷ bytes → (p : Port) →
    IsSmall p → port_word p ≡ w → ⊥
no-port w c bytes high e t is p s same = other-port p c bytes s high e t (same ∙ is)

none-outputs : codes "none" ≡ codes "outputs" → ⊥
none-outputs e = let same = same-head 110 111 _ _ e in omega (arith, same)

-- the words of a function's line
pub words-out : (ports : List Port) (outputs j : ℕ) (f : Function) → AllByRecursion IsSmall ports → outputs ≤ 32 → j < 2 ^ 64 →
    AreWords (out_words ports outputs j f)
words-out ports outputs j f small few h = (
  word-decimal j h,
  (
    word (codes "needs") refl,
    words-append (list_words (map port_word (ports_in f.inputs ports)))
        (codes "outputs" ∷ list_words (map decimal (numbers_in f.outputs outputs)))
        (words-listed IsSmall port_word port_injective
        (no-port (codes "none") 110 _ (omega arith) (λ e. omega (arith, e)) (λ e. omega (arith, e)) refl)
        word-port (ports_in f.inputs ports) (kept-are IsSmall _ ports small)) (
          word (codes "outputs") refl,
          words-listed IsLow decimal same-number (no-number (codes "none") 110 _ (omega arith) refl) (λ k l. word-decimal k (low k l))
              (numbers_in f.outputs outputs) (kept-are IsLow _ (range_with_len 1 outputs) (range-low 1 outputs (omega (arith, few)))),
        ),
  ),
)

-- two functions with one line take the same inputs and give the same outputs
pub same-out : (ports : List Port) (outputs j : ℕ) (f g : Function) (x y : List ℕ) → AllByRecursion IsSmall ports →
    outputs ≤ 32 → j < 2 ^ 64 →
    out_line ports outputs j f ++ x ≡ out_line ports outputs j g ++ y →
    (ports_in f.inputs ports ≡ ports_in g.inputs ports) × (numbers_in f.outputs outputs ≡ numbers_in g.outputs outputs) × (x ≡ y)
same-out ports outputs j f g x y small few h e =
    let all =
    cut-words (out_words ports outputs j f) (out_words ports outputs j g) x y
    (words-out ports outputs j f small few h) (words-out ports outputs j g small few h)
    (append_cancel_left (codes "out") _ _ (sym (out-line-words ports outputs j f x) ∙ e ∙ out-line-words ports outputs j g y)) in
    let lists =
    same-others (codes "needs") (codes "needs") (behind ports outputs f) (behind ports outputs g)
    (same-others (decimal j) (decimal j) (codes "needs" ∷ behind ports outputs f)
    (codes "needs" ∷ behind ports outputs g) all.0) in
    let parts =
    until (codes "outputs") (list_words (map port_word (ports_in f.inputs ports)))
    (list_words (map port_word (ports_in g.inputs ports)))
    (list_words (map decimal (numbers_in f.outputs outputs))) (list_words (map decimal (numbers_in g.outputs outputs)))
    (no-outputs f) (no-outputs g) lists in (
      same-listed IsSmall port_word port_injective none-port (ports_in f.inputs ports) (ports_in g.inputs ports) (of f) (of g) parts.0,
      same-listed IsLow decimal same-number (no-number (codes "none") 110 _ (omega arith) refl)
          (numbers_in f.outputs outputs) (numbers_in g.outputs outputs)
          (numbers f) (numbers g) parts.1,
      all.1,
    )
  where
    none-port : (p : Port) → IsSmall p → port_word p ≡ codes "none" → ⊥
    none-port = no-port (codes "none") 110 _ (omega arith) (λ e. omega (arith, e)) (λ e. omega (arith, e)) refl

    of : (f : Function) → AllByRecursion IsSmall (ports_in f.inputs ports)
    of f = kept-are IsSmall _ ports small

    numbers : (f : Function) → AllByRecursion IsLow (numbers_in f.outputs outputs)
    numbers f = kept-are IsLow _ (range_with_len 1 outputs) (range-low 1 outputs (omega (arith, few)))

    no-outputs : (f : Function) → AllByRecursion (λ u. u ≡ codes "outputs" → ⊥) (list_words (map port_word (ports_in f.inputs ports)))
    no-outputs f = none-listed IsSmall port_word port_injective none-port (codes "outputs") (ports_in f.inputs ports) (of f)
        (no-port (codes "outputs") 111 _ (omega arith) (λ e. omega (arith, e)) (λ e. omega (arith, e)) refl) none-outputs
