-- The words of ports and of lists of ports say them.
use Rattle.std.proofs.Common.{◌≡◌, ℕ, zero, suc, ◌+◌, ◌-◌, ◌^◌, ◌<◌, ◌≤◌, Bool, true, false, List, [], ◌∷◌, ◌++◌, ◌||◌, length, get_or, take, drop, map, min, refl, sym, ap, ap₂, subst, ◌∙◌, arith}
use Rattle.std.specs.Prelude.{All, Option, Some, None, Result, Ok, bytes_eq, codes, decimal}
use Rattle.std.specs.Str.{IsUtf8}
use Rattle.std.specs.Str.Parse.{ParsesUnsigned}
use Rattle.std.proofs.lemmas.Bool.{false≢true}
use Rattle.std.proofs.lemmas.List.{get_or-map}
use Rattle.std.proofs.lemmas.List.Sums.{sum_by-cons}
use Rattle.std.proofs.lemmas.Slice.Eq.{bytes_eq-Decides}
use Rattle.std.specs.List.{AllByRecursion, list_any}
use Rattle.std.proofs.lemmas.Fmt.{IsAscii-decimal, parse-decimal}
use Rattle.std.proofs.lemmas.Str.{IsUtf8-from_ascii}
use Rattle.base_core.specs.declared.Port.{Port}
use Rattle.base_core.specs.declared.Port.TheVariants.{Number, Enable, Trigger}
use Rattle.base_core.specs.Words.{port_word}
use Rattle.base_core.specs.Ports.{bit_of, ports_mask}
use Rattle.modules_report.specs.Following.{controls_with}
use Rattle.modules_report.specs.Guesses.{IsPlaced, lists_words}
use Rattle.modules_report.specs.Texts.{control_words, list_words}
use Rattle.modules_report.proofs.Cuts.{same-head}
use Rattle.modules_report.proofs.LineWords.{IsSmall, other-port, port_injective, same-first, same-others}
use Rattle.modules_report.proofs.SameNeeds.{at-each, each-one}

pub number_is_text : (n : ℕ) (word : List ℕ) → n < 2 ^ 32 → word ≡ decimal n → IsUtf8 word
number_is_text n word h e = subst IsUtf8 (sym e) (IsUtf8-from_ascii (decimal n) (IsAscii-decimal n (omega (arith, h))))

pub placed-small : (p : Port) → IsPlaced p → IsSmall p
placed-small (Number k) h = omega (arith, h)
placed-small Enable h = tt
placed-small Trigger h = tt

pub number_parsed : {E : Type 0} (n : ℕ) (bs : List ℕ) (r : Result ℕ E) → n < 2 ^ 32 → bs ≡ decimal n → ParsesUnsigned 32 10 bs r → r ≡ Ok n
number_parsed n bs r h e p = parse-decimal 32 n bs r h (omega (arith, h)) e p

pub enable_told : (word : List ℕ) → bytes_eq word (codes "enable") ≡ true → (p : Port) → IsPlaced p → word ≡ port_word p → Enable ≡ p
enable_told word is p h e = port_injective Enable p tt (placed-small p h) (sym ((bytes_eq-Decides word (codes "enable")).0 is) ∙ e)

pub trigger_told : (word : List ℕ) → bytes_eq word (codes "trigger") ≡ true → (p : Port) → IsPlaced p → word ≡ port_word p → Trigger ≡ p
trigger_told word is p h e = port_injective Trigger p tt (placed-small p h) (sym ((bytes_eq-Decides word (codes "trigger")).0 is) ∙ e)

pub number_told : (word : List ℕ) (r : Option Port) → ((k : ℕ) → k < 2 ^ 32 → word ≡ decimal k → r ≡ Some (Number k)) →
    bytes_eq word (codes "enable") ≡ false → bytes_eq word (codes "trigger") ≡ false →
    (p : Port) → IsPlaced p → word ≡ port_word p → r ≡ Some p
number_told word r reads enable trigger (Number k) h e = reads k (omega (arith, h)) e
number_told word r reads enable trigger Enable h e = absurd (false≢true (sym enable ∙ (bytes_eq-Decides word (codes "enable")).1 e))
number_told word r reads enable trigger Trigger h e = absurd (false≢true (sym trigger ∙ (bytes_eq-Decides word (codes "trigger")).1 e))

no-none : (p : Port) → IsPlaced p → port_word p ≡ codes "none" → ⊥
no-none p h e = other-port p 110 _ (placed-small p h) (omega arith) (λ s. omega (arith, s)) (λ s. omega (arith, s)) e

-- ---- A word among others

module _ {X : Type 0} (text : X → List ℕ) where
  any_words : (word : List ℕ) (xs : List X) → list_any (λ x. bytes_eq (text x) word) xs ≡ list_any (λ w. bytes_eq w word) (map text xs)
  any_words word [] = refl
  any_words word (x ∷ xs) = ap (λ (t : Bool). bytes_eq (text x) word || t) (any_words word xs)

  none-among : (ps : List Port) → AllByRecursion IsPlaced ps → list_any (λ w. bytes_eq w (codes "none")) (map port_word ps) ≡ false
  none-among [] a = refl
  none-among (p ∷ ps) a = by (bytes_eq (port_word p) (codes "none")) refl (none-among ps a.1)
    where
      by : (t : Bool) → bytes_eq (port_word p) (codes "none") ≡ t → list_any (λ w. bytes_eq w (codes "none")) (map port_word ps) ≡ false →
          (bytes_eq (port_word p) (codes "none") || list_any (λ w. bytes_eq w (codes "none")) (map port_word ps)) ≡ false
      by true is more = absurd (no-none p a.0 ((bytes_eq-Decides (port_word p) (codes "none")).0 is))
      by false is more = ap (λ (t : Bool). t || list_any (λ w. bytes_eq w (codes "none")) (map port_word ps)) is ∙ more

  pub none_told : (xs : List X) → list_any (λ x. bytes_eq (text x) (codes "none")) xs ≡ true → (ps : List Port) → All IsPlaced ps →
      map text xs ≡ list_words (map port_word ps) → 0 ≡ ports_mask ps
  none_told xs is [] a e = refl
  none_told xs is (p ∷ ps) a e =
      absurd (false≢true (sym (none-among (p ∷ ps) (each-one IsPlaced (p ∷ ps) a))
      ∙ ap (list_any (λ w. bytes_eq w (codes "none"))) (sym e) ∙ sym (any_words (codes "none") xs) ∙ is))

  pub some_told : (xs : List X) → list_any (λ x. bytes_eq (text x) (codes "none")) xs ≡ false → (ps : List Port) →
      map text xs ≡ list_words (map port_word ps) → map text xs ≡ map port_word ps
  some_told xs is [] e = absurd (false≢true (sym is ∙ any_words (codes "none") xs ∙ ap (list_any (λ w. bytes_eq w (codes "none"))) e))
  some_told xs is (p ∷ ps) e = e

  pub enabled_told : (xs : List X) (s t : Bool) → map text xs ≡ control_words (controls_with s t) →
      list_any (λ x. bytes_eq (text x) (codes "enable")) xs ≡ s
  enabled_told xs s t e = any_words (codes "enable") xs ∙ ap (list_any (λ w. bytes_eq w (codes "enable"))) e ∙ by s t
    where
      by : (s t : Bool) → list_any (λ w. bytes_eq w (codes "enable")) (control_words (controls_with s t)) ≡ s
      by true true = refl
      by true false = refl
      by false true = refl
      by false false = refl

  pub triggered_told : (xs : List X) (s t : Bool) → map text xs ≡ control_words (controls_with s t) →
      list_any (λ x. bytes_eq (text x) (codes "trigger")) xs ≡ t
  triggered_told xs s t e = any_words (codes "trigger") xs ∙ ap (list_any (λ w. bytes_eq w (codes "trigger"))) e ∙ by s t
    where
      by : (s t : Bool) → list_any (λ w. bytes_eq w (codes "trigger")) (control_words (controls_with s t)) ≡ t
      by true true = refl
      by true false = refl
      by false true = refl
      by false false = refl

  -- the lists before and after a word
  parts : (xs : List X) (before after : List (List ℕ)) (word : List ℕ) → map text xs ≡ before ++ word ∷ after →
      (map text (take (length before) xs) ≡ before) × (map text (drop (suc (length before)) xs) ≡ after) × (length before < length xs)
  parts [] [] after word e = absurd (let long : 0 ≡ suc (length after) = ap length e in omega (arith, long))
  parts [] (b ∷ before) after word e = absurd (let long : 0 ≡ suc (length (before ++ word ∷ after)) = ap length e in omega (arith, long))
  parts (x ∷ xs) [] after word e = (refl, same-others (text x) word (map text xs) after e, omega arith)
  parts (x ∷ xs) (b ∷ before) after word e =
      let more = parts xs before after word (same-others (text x) b (map text xs) (before ++ word ∷ after) e) in (
        ap₂ (λ (k : List ℕ) (ks : List (List ℕ)). k ∷ ks)
            (same-first (text x) b (map text xs) (before ++ word ∷ after) e) more.0,
        more.1,
        (let h = more.2 in omega (arith, h)),
      )

  no-outputs : (ps : List Port) → AllByRecursion IsPlaced ps → AllByRecursion (λ w. w ≡ codes "outputs" → ⊥) (list_words (map port_word ps))
  no-outputs [] a = ((λ e. (let same = same-head 110 111 _ _ e in omega (arith, same))), tt)
  no-outputs (p ∷ ps) a = (other p a.0, each ps a.1)
    where
      other : (q : Port) → IsPlaced q → port_word q ≡ codes "outputs" → ⊥
      other q h e = other-port q 111 _ (placed-small q h) (omega arith) (λ s. omega (arith, s)) (λ s. omega (arith, s)) e

      each : (qs : List Port) → AllByRecursion IsPlaced qs → AllByRecursion (λ w. w ≡ codes "outputs" → ⊥) (map port_word qs)
      each [] b = tt
      each (q ∷ qs) b = (other q b.0, each qs b.1)

  pub lists_parts : (xs : List X) (place : ℕ) (needs outputs : List Port) → All IsPlaced needs →
      ((before after : List (List ℕ)) → All (λ w. w ≡ codes "outputs" → ⊥) before →
      map text xs ≡ before ++ codes "outputs" ∷ after → place ≡ length before) →
      map text xs ≡ lists_words needs outputs →
      (map text (take place xs) ≡ list_words (map port_word needs))
      × (map text (drop (place + 1) xs) ≡ list_words (map port_word outputs)) × (place < length xs)
  lists_parts xs place needs outputs a told e =
      let before : List (List ℕ) = list_words (map port_word needs) in
      let after : List (List ℕ) = list_words (map port_word outputs) in
      let same : place ≡ length before = told before after
      (λ k d within. at-each (λ w. w ≡ codes "outputs" → ⊥) before k d (no-outputs needs (each-one IsPlaced needs a)) within) e in
      let all = parts xs before after (codes "outputs") e in
      let later : place + 1 ≡ suc (length before) = omega (arith, same) in (
        ap (λ n. map text (take n xs)) same ∙ all.0,
        ap (λ n. map text (drop n xs)) later ∙ all.1,
        subst (λ n. n < length xs) (sym same) all.2,
      )

  -- one more word of a set
  mask-first : (q : Port) (qs : List Port) → ports_mask (q ∷ qs) ≡ 2 ^ bit_of q + ports_mask qs
  mask-first q qs = sum_by-cons (λ x. x) (2 ^ bit_of q) (map (λ p. 2 ^ bit_of p) qs)

  step : (d : X) (bit : ℕ) (ys : List X) (qs : List Port) (j : ℕ) → AllByRecursion IsPlaced qs →
      map text ys ≡ map port_word qs → j < length ys →
      ((p : Port) → IsPlaced p → text (get_or ys j d) ≡ port_word p → bit ≡ 2 ^ bit_of p) →
      (ports_mask (take (suc j) qs) ≡ ports_mask (take j qs) + bit) × (ports_mask (take (suc j) qs) ≤ ports_mask qs)
  step d bit [] qs j b f h t = absurd (omega (arith, h))
  step d bit (y ∷ ys) [] j b f h t = absurd (let long : suc (length (map text ys)) ≡ 0 = ap length f in omega (arith, long))
  step d bit (y ∷ ys) (q ∷ qs) zero b f h t =
      let one = t q b.0 (same-first (text y) (port_word q) (map text ys) (map port_word qs) f) in
      let first = mask-first q [] in let all = mask-first q qs in
      let none : ports_mask [] ≡ 0 = refl in (omega (arith, one, first, none), omega (arith, first, all, none))
  step d bit (y ∷ ys) (q ∷ qs) (suc j) b f h t =
      let more = step d bit ys qs j b.1 (same-others (text y) (port_word q) (map text ys) (map port_word qs) f) (omega (arith, h)) t in
      let same = more.0 in let low = more.1 in
      let first = mask-first q (take j qs) in let next = mask-first q (take (suc j) qs) in let all = mask-first q qs in
      (omega (arith, same, first, next), omega (arith, low, next, all))

  pub mask_more : (xs : List X) (d : X) (ps : List Port) (i mask bit next : ℕ) → All IsPlaced ps →
      map text xs ≡ map port_word ps → ports_mask ps < 2 ^ 64 →
      i < length xs → mask ≡ ports_mask (take i ps) → ((p : Port) → IsPlaced p → text (get_or xs i d) ≡ port_word p → bit ≡ 2 ^ bit_of p) →
      next ≡ min (mask + bit) (2 ^ 64 - 1) → next ≡ ports_mask (take (i + 1) ps)
  mask_more xs d ps i mask bit next a e small within was told is =
      let both = step d bit xs ps i (each-one IsPlaced ps a) e within told in
      let same = both.0 in let low = both.1 in
      let here : next ≡ ports_mask (take (suc i) ps) = omega (arith, same, low, was, is, small) in
      here ∙ ap (λ n. ports_mask (take n ps)) (let e : suc i ≡ i + 1 = omega arith in e)

  -- a word at a place, and those from a place on
  pub word_at : (xs : List X) (ws : List (List ℕ)) (k : ℕ) (d : X) → map text xs ≡ ws → k < length xs →
      text (get_or xs k d) ≡ get_or ws k []
  word_at xs ws k d e within = sym (get_or-map text xs k d [] within) ∙ ap (λ (vs : List (List ℕ)). get_or vs k []) e

  all-taken : (ys : List X) (m : ℕ) → length ys ≤ m → take m ys ≡ ys
  all-taken [] zero h = refl
  all-taken [] (suc m) h = refl
  all-taken (y ∷ ys) zero h = absurd (omega (arith, h))
  all-taken (y ∷ ys) (suc m) h = ap (λ (zs : List X). y ∷ zs) (all-taken ys m (omega (arith, h)))

  short-drop : (n : ℕ) (xs : List X) → length (drop n xs) ≤ length xs - n
  short-drop zero xs = omega arith
  short-drop (suc n) [] = omega arith
  short-drop (suc n) (x ∷ xs) = let h = short-drop n xs in omega (arith, h)

  pub rest_words : (n : ℕ) (xs : List X) → map text (take (length xs - n) (drop n xs)) ≡ map text (drop n xs)
  rest_words n xs = ap (λ (ys : List X). map text ys) (all-taken (drop n xs) (length xs - n) (short-drop n xs))

  pub words_from : (n : ℕ) (xs : List X) → map text (drop n xs) ≡ drop n (map text xs)
  words_from zero xs = refl
  words_from (suc n) [] = refl
  words_from (suc n) (x ∷ xs) = words_from n xs

-- what is given is one
abbrev given-or : {X : Type 0} → X → Option X → X
given-or x (Some z) = z
given-or x None = x

pub one_given : {X : Type 0} (r : Option X) (x y : X) → r ≡ Some x → r ≡ Some y → x ≡ y
one_given r x y a b = ap (given-or x) (sym a ∙ b)
