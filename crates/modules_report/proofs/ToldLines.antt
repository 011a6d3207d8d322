-- A line that is at the beginning of a text is read back from its words.
use Rattle.std.proofs.Common.{◌≡◌, ℕ, zero, suc, ◌+◌, ◌-◌, ◌%◌, ◌^◌, ◌<◌, ◌≤◌, ◌==◌, ◌&&◌, Bool, true, false, not, cond, List, [], ◌∷◌, ◌++◌, length, map, filter, refl, sym, ap, subst, ◌∙◌, arith, inl, inr}
use Rattle.std.specs.Prelude.{Option, Some, codes, decimal}
use Rattle.std.specs.List.{All, AllByRecursion, range_with_len, slice_split, take_while}
use Rattle.std.proofs.lemmas.List.FromFn.{length-map-range_with_len}
use Rattle.std.proofs.lemmas.List.Sums.{sum_by-cons}
use Rattle.std.proofs.lemmas.Nat.{pow_pos}
use Rattle.std.proofs.Math.Nat.{mod-eq_of_lt, mod-lt}
use Rattle.std.proofs.Math.Pow.{pow_mono}
use Rattle.base_core.specs.declared.Port.{Port}
use Rattle.base_core.specs.declared.Port.TheVariants.{Number}
use Rattle.base_core.specs.Words.{port_word}
use Rattle.modules_profile.specs.declared.Function.{Function}
use Rattle.base_core.specs.Ports.{bit_of, has_bit, ports_in, ports_mask}
use Rattle.modules_report.specs.declared.head.Head.{Head}
use Rattle.modules_report.specs.Following.{CanComeFirst, controls_with, need_of, needs_of, not_known, open_outputs}
use Rattle.modules_report.specs.Guesses.{IsPlaced, head_words, lists_words, told_function}
use Rattle.modules_report.specs.Heads.{IsPossible, head_ports, head_text, own_bit}
use Rattle.modules_report.specs.Reading.{HasRow}
use Rattle.modules_report.specs.Reports.{IsSetOf}
use Rattle.modules_report.specs.Stops.{IsFunctionOf}
use Rattle.modules_report.specs.Texts.{list_words, out_line}
use Rattle.modules_report.proofs.HeadSets.{ports_weight}
use Rattle.modules_report.proofs.HiddenNeeds.{hidden_of, one-if}
use Rattle.modules_report.proofs.LineWords.{IsSmall, word}
use Rattle.modules_report.proofs.OutLines.{kept-are, numbers_in, out-line-words, out_words, words-out}
use Rattle.modules_report.proofs.OwnMasks.{weight-numbers}
use Rattle.modules_report.proofs.PortGuesses.{placed-small}
use Rattle.modules_report.proofs.ReadSystems.{are-controls}
use Rattle.modules_report.proofs.SameNeeds.{at-each}
use Rattle.modules_report.proofs.Splits.{first_words}
use Rattle.modules_report.proofs.SystemLines.{head-line-words, words-head}

-- the words of the first line
abbrev words-of : List ℕ → List (List ℕ)
words-of text = slice_split (λ b. b == 32) (take_while (λ b. not (b == 10)) text)

-- ---- The line of a system

few-open : (needs : List ℕ) → hidden_of needs ≤ length needs
few-open [] = omega arith
few-open (n ∷ needs) = by (n == not_known) refl (few-open needs)
  where
    by : (t : Bool) → (n == not_known) ≡ t → hidden_of needs ≤ length needs → hidden_of (n ∷ needs) ≤ suc (length needs)
    by true is few = let first = sum_by-cons (λ k. one-if (k == not_known)) n needs in
        let one : one-if (n == not_known) ≡ 1 = ap one-if is in omega (arith, first, one, few)
    by false is few = let first = sum_by-cons (λ k. one-if (k == not_known)) n needs in
        let none : one-if (n == not_known) ≡ 0 = ap one-if is in omega (arith, first, none, few)

pub few-left : (outputs : ℕ) (fs : List Function) → open_outputs outputs fs ≤ outputs
few-left outputs fs =
    let few = few-open (needs_of outputs fs) in
    let len : length (needs_of outputs fs) ≡ outputs = length-map-range_with_len (need_of fs) 0 outputs in omega (arith, few, len)

pub few-functions : (outputs count : ℕ) → CanComeFirst outputs count [] → count ≤ outputs
few-functions outputs count (inl all) = let none = all.number in omega (arith, none)
few-functions outputs count (inr first) = let few = few-left outputs [] in let enough = first.enough in omega (arith, few, enough)

pub head_told : (text : List ℕ) (words : List (List ℕ)) (r : Option Head) → words ≡ words-of text →
    ((h : Head) → HasRow h.row → h.inputs < 2 ^ 32 → h.outputs < 2 ^ 32 → h.functions < 2 ^ 32 → words ≡ head_words h → r ≡ Some h) →
    (h : Head) (more : List ℕ) → HasRow h.row → IsPossible h → text ≡ head_text h ++ more → r ≡ Some h
head_told text words r split told h more row possible e =
    told h row (let i = possible.inputs in omega (arith, i)) (let o = possible.outputs in omega (arith, o))
    (let few = few-functions h.outputs h.functions possible.functions in let o = possible.outputs in omega (arith, few, o))
    (split ∙ first_words (codes "system") _ text more (word (codes "system") refl)
    (words-head h.row h.inputs h.outputs h.functions (controls_with h.enabled h.triggered) row possible.inputs possible.outputs
    (let few = few-functions h.outputs h.functions possible.functions in let o = possible.outputs in omega (arith, few, o))
    (are-controls h.enabled h.triggered))
    (e ∙ head-line-words h.row h.inputs h.outputs h.functions (controls_with h.enabled h.triggered) more))

-- ---- The line of a function

placed-range : (a n : ℕ) → 0 < a → a + n ≤ 33 → AllByRecursion IsPlaced (map Number (range_with_len a n))
placed-range a zero some few = tt
placed-range a (suc n) some few = (omega (arith, some, few), placed-range (a + 1) n (omega arith) (omega (arith, few)))

placed-append : (ps qs : List Port) → AllByRecursion IsPlaced ps → AllByRecursion IsPlaced qs → AllByRecursion IsPlaced (ps ++ qs)
placed-append [] qs a b = b
placed-append (p ∷ ps) qs a b = (a.0, placed-append ps qs a.1 b)

placed-controls : (enabled triggered : Bool) → AllByRecursion IsPlaced (controls_with enabled triggered)
placed-controls true true = (omega arith, (omega arith, tt))
placed-controls true false = (omega arith, tt)
placed-controls false true = (omega arith, tt)
placed-controls false false = tt

pub placed-ports : (h : Head) → h.inputs ≤ 32 → AllByRecursion IsPlaced (head_ports h)
placed-ports h few = placed-append (map Number (range_with_len 1 h.inputs)) (controls_with h.enabled h.triggered)
    (placed-range 1 h.inputs (omega arith) (omega (arith, few))) (placed-controls h.enabled h.triggered)

small-ports : (ps : List Port) → AllByRecursion IsPlaced ps → AllByRecursion IsSmall ps
small-ports [] a = tt
small-ports (p ∷ ps) a = (placed-small p a.0, small-ports ps a.1)

pub small-head : (h : Head) → h.inputs ≤ 32 → AllByRecursion IsSmall (head_ports h)
small-head h few = small-ports (head_ports h) (placed-ports h few)

-- the ports of a set of outputs
kept-numbers : (mask : ℕ) (ks : List ℕ) → map Number (filter (λ k. has_bit mask (k - 1)) ks) ≡ ports_in mask (map Number ks)
kept-numbers mask [] = refl
kept-numbers mask (k ∷ ks) = by (has_bit mask (k - 1)) (kept-numbers mask ks)
  where
    by : (t : Bool) → map Number (filter (λ k. has_bit mask (k - 1)) ks) ≡ ports_in mask (map Number ks) →
        map Number (cond t (k ∷ filter (λ k. has_bit mask (k - 1)) ks) (filter (λ k. has_bit mask (k - 1)) ks))
        ≡ cond t (Number k ∷ ports_in mask (map Number ks)) (ports_in mask (map Number ks))
    by true e = ap (λ (ps : List Port). Number k ∷ ps) e
    by false e = e

pub mask-of-numbers : (mask outputs : ℕ) → mask < 2 ^ outputs → ports_mask (map Number (numbers_in mask outputs)) ≡ mask
mask-of-numbers mask outputs fits =
    ap ports_mask (kept-numbers mask (range_with_len 1 outputs)) ∙ weight-numbers mask outputs ∙ mod-eq_of_lt fits

numbers-words : (ks : List ℕ) → map decimal ks ≡ map port_word (map Number ks)
numbers-words [] = refl
numbers-words (k ∷ ks) = ap (λ (ws : List (List ℕ)). decimal k ∷ ws) (numbers-words ks)

bit-bound : (control : Bool) (mask bit : ℕ) → own_bit control mask bit ≤ 2 ^ bit
bit-bound control mask bit = by (control && has_bit mask bit)
  where
    by : (t : Bool) → cond t (2 ^ bit) 0 ≤ 2 ^ bit
    by true = omega arith
    by false = omega arith

pub set-bound : (h : Head) (mask : ℕ) → h.inputs ≤ 32 → IsSetOf (head_ports h) mask → mask < 2 ^ 34
set-bound h mask few is =
    let sums : mask ≡ mask % 2 ^ h.inputs + own_bit h.enabled mask 32 + own_bit h.triggered mask 33 =
    sym is ∙ ports_weight h.inputs h.enabled h.triggered mask in
    let low : mask % 2 ^ h.inputs < 2 ^ h.inputs = mod-lt mask (pow_pos h.inputs) in
    let most = pow_mono few in
    let one = bit-bound h.enabled mask 32 in let two = bit-bound h.triggered mask 33 in
    omega (arith, sums, low, most, one, two)

pub function_told : (h : Head) (ports : List Port) (j : ℕ) (text : List ℕ) (words : List (List ℕ))
    (r : Option Function) → h.inputs ≤ 32 → h.outputs ≤ 32 → j < 2 ^ 64 →
    ports ≡ head_ports h → words ≡ words-of text →
    ((needs outputs : List Port) (first second third : List ℕ) → All IsPlaced needs → All IsPlaced outputs →
    ports_mask needs < 2 ^ 64 → ports_mask outputs < 2 ^ 32 →
    words ≡ first ∷ second ∷ third ∷ lists_words needs outputs → r ≡ Some (told_function needs outputs)) →
    (f : Function) (more : List ℕ) → IsFunctionOf ports h.outputs f → text ≡ out_line ports h.outputs j f ++ more → r ≡ Some f
function_told h ports j text words r few few' fits are split told f more is e =
    told (ports_in f.inputs ports) (map Number (numbers_in f.outputs h.outputs)) (codes "out") (decimal j) (codes "needs")
    (λ k d within. at-each IsPlaced (ports_in f.inputs ports) k d (kept-are IsPlaced (λ p. has_bit f.inputs (bit_of p)) ports
    (subst (AllByRecursion IsPlaced) (sym are) (placed-ports h few))) within)
    (λ k d within. at-each IsPlaced (map Number (numbers_in f.outputs h.outputs)) k d
    (subst (AllByRecursion IsPlaced) (sym (kept-numbers f.outputs (range_with_len 1 h.outputs)))
    (kept-are IsPlaced (λ p. has_bit f.outputs (bit_of p)) (map Number (range_with_len 1 h.outputs))
    (placed-range 1 h.outputs (omega arith) (omega (arith, few'))))) within)
    (let same = is.takes in
    let small = set-bound h f.inputs few (subst (λ (ps : List Port). IsSetOf ps f.inputs) are is.takes) in
    omega (arith, same, small))
    (let same = mask-of-numbers f.outputs h.outputs is.gives in bound few' same is.gives)
    (split ∙ first_words (codes "out") (out_words ports h.outputs j f) text more (word (codes "out") refl)
    (words-out ports h.outputs j f (subst (AllByRecursion IsSmall) (sym are) (small-head h few)) few' fits)
    (e ∙ out-line-words ports h.outputs j f more)
    ∙ ap (λ (ws : List (List ℕ)). codes "out" ∷ decimal j ∷ codes "needs"
    ∷ list_words (map port_word (ports_in f.inputs ports)) ++ codes "outputs" ∷ list_words ws)
    (numbers-words (numbers_in f.outputs h.outputs)))
    ∙ ap Some (λ i. record { inputs = is.takes i; outputs = mask-of-numbers f.outputs h.outputs is.gives i })
  where
    bound : h.outputs ≤ 32 → ports_mask (map Number (numbers_in f.outputs h.outputs)) ≡ f.outputs → f.outputs < 2 ^ h.outputs →
        ports_mask (map Number (numbers_in f.outputs h.outputs)) < 2 ^ 32
    bound few same o = let most = pow_mono few in omega (arith, same, o, most)
