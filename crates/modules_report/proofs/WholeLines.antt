-- The lines of reports are whole, and where one text begins with two whole lines, they are one.
use Rattle.std.proofs.Common.{◌≡◌, ℕ, suc, ◌+◌, ◌^◌, ◌<◌, ◌≤◌, Bool, true, false, cond, ltb, List, [], ◌∷◌, ◌++◌, length, map, refl, sym, ap, ap₂, ◌∙◌, append-nil, append_assoc, arith}
use Rattle.std.specs.Prelude.{codes, decimal, flat_map}
use Rattle.std.specs.List.{AllByRecursion}
use Rattle.std.proofs.lemmas.Bool.{false≢true, ltb-true}
use Rattle.base_core.specs.declared.Port.{Port}
use Rattle.base_core.specs.Words.{port_word}
use Rattle.modules_certificate.specs.declared.Difference.{Difference}
use Rattle.modules_profile.specs.declared.Function.{Function}
use Rattle.modules_report.specs.PlainReport.{PlainReport}
use Rattle.modules_report.specs.Reading.{IsWholeLine, joined}
use Rattle.modules_report.specs.Texts.{differ_line, last_line, out_line, out_lines, ports_at, spaced, system_line}
use Rattle.modules_report.proofs.Cuts.{AreWords, IsWord}
use Rattle.modules_report.proofs.LineWords.{IsSmall, word, word-decimal, word-port}
use Rattle.modules_report.proofs.OutLines.{kept-are, out-line-words, out_words, words-out}
use Rattle.modules_report.proofs.SameNeeds.{at-each, each-one}
use Rattle.modules_report.proofs.Splits.{IsPlain, plain-append, plain-spaced, plain-words}
use Rattle.modules_report.proofs.SystemLines.{IsHead, system-line-words, system_words, words-system}

no-ends : (bytes : List ℕ) → IsPlain bytes → AllByRecursion (λ b. b ≡ 10 → ⊥) bytes
no-ends [] a = tt
no-ends (b ∷ bytes) a = ((λ same. (let above = a.0 in omega (arith, above, same))), no-ends bytes a.1)

pub whole-line : (line bytes : List ℕ) → IsPlain bytes → line ≡ bytes ++ 10 ∷ [] → IsWholeLine line
whole-line line bytes plain e = record {
  bytes = bytes;
  plain = λ k d within. at-each (λ b. b ≡ 10 → ⊥) bytes k d (no-ends bytes plain) within;
  ended = e;
}

whole-words : (line first : List ℕ) (words : List (List ℕ)) → IsWord first → AreWords words →
    line ++ [] ≡ first ++ spaced words ++ 10 ∷ [] → IsWholeLine line
whole-words line first words f a e = whole-line line (first ++ spaced words) (plain-words first words f a) (sym (append-nil line) ∙ e)

pub whole-head : (r : PlainReport) → IsHead r → IsWholeLine (system_line r)
whole-head r h =
    whole-words (system_line r) (codes "system") (system_words r) (word (codes "system") refl) (words-system r h)
    (system-line-words r [])

pub whole-out : (ports : List Port) (outputs j : ℕ) (f : Function) → AllByRecursion IsSmall ports → outputs ≤ 32 → j < 2 ^ 64 →
    IsWholeLine (out_line ports outputs j f)
whole-out ports outputs j f small few fits =
    whole-words (out_line ports outputs j f) (codes "out") (out_words ports outputs j f) (word (codes "out") refl)
    (words-out ports outputs j f small few fits)
    (out-line-words ports outputs j f [])

above-end : List ℕ → Bool
above-end [] = true
above-end (b ∷ bs) = cond (ltb 10 b) (above-end bs) false

plain-text : (w : List ℕ) → above-end w ≡ true → IsPlain w
unfolding above-end
plain-text [] e = tt
plain-text (b ∷ bs) e = by (ltb 10 b) refl (λ h. plain-text bs h) e
  where
    by : (t : Bool) → ltb 10 b ≡ t → (above-end bs ≡ true → IsPlain bs) → cond t (above-end bs) false ≡ true → IsPlain (b ∷ bs)
    by true is more f = (ltb-true 10 b is, more f)
    by false is more f = absurd (false≢true f)

plain-decimal : (n : ℕ) → n < 2 ^ 64 → IsPlain (decimal n)
plain-decimal n fits = plain-of (decimal n) (word-decimal n fits)
  where
    plain-of : (w : List ℕ) → IsWord w → IsPlain w
    plain-of [] a = tt
    plain-of (b ∷ w) a = ((let above = a.0 in omega (arith, above)), plain-of w a.1)

pub whole-last : (n : ℕ) → n < 2 ^ 64 → IsWholeLine (last_line n)
unfolding above-end
whole-last n fits = whole-line (last_line n) (codes "systems " ++ decimal n)
    (plain-append (codes "systems ") (decimal n) (plain-text (codes "systems ") refl) (plain-decimal n fits)) refl

words-ports : (ps : List Port) → AllByRecursion IsSmall ps → AreWords (map port_word ps)
words-ports [] a = tt
words-ports (p ∷ ps) a = (word-port p a.0, words-ports ps a.1)

pub whole-differ : (ports : List Port) (d : Difference) → AllByRecursion IsSmall ports → d.first < 2 ^ 32 →
    d.second < 2 ^ 32 → IsWholeLine (differ_line ports d)
unfolding above-end
whole-differ ports d small low high = whole-line (differ_line ports d)
    (codes "differ " ++ decimal (d.first + 1) ++ codes " " ++ decimal (d.second + 1) ++ codes " by"
    ++ spaced (map port_word (ports_at d.bit ports)))
    (plain-append (codes "differ " ++ decimal (d.first + 1) ++ codes " " ++ decimal (d.second + 1) ++ codes " by")
    (spaced (map port_word (ports_at d.bit ports)))
    (plain-append (codes "differ " ++ decimal (d.first + 1) ++ codes " " ++ decimal (d.second + 1)) (codes " by")
    (plain-append (codes "differ " ++ decimal (d.first + 1) ++ codes " ") (decimal (d.second + 1))
    (plain-append (codes "differ " ++ decimal (d.first + 1)) (codes " ")
    (plain-append (codes "differ ") (decimal (d.first + 1)) (plain-text (codes "differ ") refl)
    (plain-decimal (d.first + 1) (omega (arith, low))))
    (plain-text (codes " ") refl))
    (plain-decimal (d.second + 1) (omega (arith, high))))
    (plain-text (codes " by") refl))
    (plain-spaced (map port_word (ports_at d.bit ports)) (words-ports (ports_at d.bit ports) (kept-are IsSmall _ ports small))))
    refl

-- ---- Two whole lines

abbrev first-or : ℕ → List ℕ → ℕ
first-or d [] = d
first-or d (x ∷ xs) = x

abbrev rest-of : List ℕ → List ℕ
rest-of [] = []
rest-of (x ∷ xs) = xs

cut-lines : (a b x y : List ℕ) → AllByRecursion (λ c. c ≡ 10 → ⊥) a → AllByRecursion (λ c. c ≡ 10 → ⊥) b →
    a ++ 10 ∷ x ≡ b ++ 10 ∷ y → (a ≡ b) × (x ≡ y)
cut-lines [] [] x y p q e = (refl, ap rest-of e)
cut-lines [] (c ∷ b) x y p q e = absurd (q.0 (sym (ap (first-or 0) e)))
cut-lines (c ∷ a) [] x y p q e = absurd (p.0 (ap (first-or 0) e))
cut-lines (c ∷ a) (d ∷ b) x y p q e =
    let more = cut-lines a b x y p.1 q.1 (ap rest-of e) in
    (ap₂ (λ (k : ℕ) (ks : List ℕ). k ∷ ks) (ap (first-or 0) e) more.0, more.1)

pub same-lines : (a b x y : List ℕ) → IsWholeLine a → IsWholeLine b → a ++ x ≡ b ++ y → (a ≡ b) × (x ≡ y)
same-lines a b x y p q e =
    let both = cut-lines p.bytes q.bytes x y (each-one (λ c. c ≡ 10 → ⊥) p.bytes p.plain) (each-one (λ c. c ≡ 10 → ⊥) q.bytes q.plain)
    (sym (append_assoc p.bytes (10 ∷ []) x) ∙ ap (λ (t : List ℕ). t ++ x) (sym p.ended) ∙ e
    ∙ ap (λ (t : List ℕ). t ++ y) q.ended ∙ append_assoc q.bytes (10 ∷ []) y) in
    (p.ended ∙ ap (λ (t : List ℕ). t ++ 10 ∷ []) both.0 ∙ sym q.ended, both.1)

pub not-empty-line : (line more : List ℕ) → IsWholeLine line → [] ≡ line ++ more → ⊥
not-empty-line line more p e = at p.bytes (e ∙ ap (λ (t : List ℕ). t ++ more) p.ended)
  where
    at : (bytes : List ℕ) → [] ≡ bytes ++ 10 ∷ [] ++ more → ⊥
    at [] f = let long : 0 ≡ suc (length more) = ap length f in omega (arith, long)
    at (b ∷ bytes) f = let long : 0 ≡ suc (length (bytes ++ 10 ∷ [] ++ more)) = ap length f in omega (arith, long)

-- ---- Texts of whole lines

pub record AreLines (text : List ℕ) : Type 0 where
  pub lines : List (List ℕ)
  pub whole : AllByRecursion IsWholeLine lines
  pub is : text ≡ joined lines

pub no-lines : AreLines []
no-lines = record { lines = []; whole = tt; is = refl }

pub one-line : (line : List ℕ) → IsWholeLine line → AreLines line
one-line line w = record { lines = line ∷ []; whole = (w, tt); is = sym (append-nil line) }

pub joined-append : (ls ms : List (List ℕ)) → joined (ls ++ ms) ≡ joined ls ++ joined ms
joined-append [] ms = refl
joined-append (l ∷ ls) ms = ap (λ (t : List ℕ). l ++ t) (joined-append ls ms) ∙ sym (append_assoc l (joined ls) (joined ms))

whole-append : (ls ms : List (List ℕ)) → AllByRecursion IsWholeLine ls → AllByRecursion IsWholeLine ms →
    AllByRecursion IsWholeLine (ls ++ ms)
whole-append [] ms p q = q
whole-append (l ∷ ls) ms p q = (p.0, whole-append ls ms p.1 q)

pub more-lines : (a b : List ℕ) → AreLines a → AreLines b → AreLines (a ++ b)
more-lines a b p q = record {
  lines = p.lines ++ q.lines;
  whole = whole-append p.lines q.lines p.whole q.whole;
  is = ap₂ (λ (x y : List ℕ). x ++ y) p.is q.is ∙ sym (joined-append p.lines q.lines);
}

pub lines-each : {X : Type 0} (line : X → List ℕ) (xs : List X) → AllByRecursion (λ x. AreLines (line x)) xs → AreLines (flat_map line xs)
lines-each line [] a = no-lines
lines-each line (x ∷ xs) a = more-lines (line x) (flat_map line xs) a.0 (lines-each line xs a.1)

pub out-lines-whole : (ports : List Port) (outputs j : ℕ) (fs : List Function) → AllByRecursion IsSmall ports →
    outputs ≤ 32 → j + length fs < 2 ^ 64 →
    AreLines (out_lines ports outputs j fs)
out-lines-whole ports outputs j [] small few fits = no-lines
out-lines-whole ports outputs j (f ∷ fs) small few fits =
    more-lines (out_line ports outputs j f) (out_lines ports outputs (j + 1) fs)
    (one-line (out_line ports outputs j f) (whole-out ports outputs j f small few (omega (arith, fits))))
    (out-lines-whole ports outputs (j + 1) fs small few (omega (arith, fits)))
