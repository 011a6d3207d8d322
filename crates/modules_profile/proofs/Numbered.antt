-- Rows with the ports from 1 to their number, each once: by port they are each at its own.
use Rattle.std.specs.Prelude.{◌≡◌, ℕ, zero, suc, ◌+◌, ◌-◌, ◌<◌, ◌≤◌, Bool, true, false, ◌==◌, cond, eqb, List, [], ◌∷◌, map, filter, filter_map, find, length, slice_get, Contains, Option, Some, None, ⊤, refl}
use Rattle.std.specs.List.{cons_option, range_with_len, list_any, IsDistinct, AllByRecursion}
use Rattle.std.proofs.Common.{sym, ap, subst, ◌∙◌, arith, inl, inr, true≢false}
use Rattle.std.proofs.lemmas.Bool.{eqb-true, eq-eqb, ne_eqb, or_cases}
use Rattle.std.proofs.lemmas.List.{length-map}
use Rattle.std.proofs.lemmas.Map.Steps.{length-le_from_distinct_below}
use Rattle.modules_profile.proofs.lemmas.Members.{in-first, in-rest, in-cases, of-map, of-filter, of-filter_map, found-in, finds, of-range}

-- no number occurs twice
abbrev pub Apart : List ℕ → Type 0
Apart [] = ⊤
Apart (x ∷ xs) = ((y : ℕ) → Contains xs y → x ≡ y → ⊥) × Apart xs

pub apart-range : (a n : ℕ) → Apart (range_with_len a n)
apart-range a zero = tt
apart-range a (suc n) = (λ y h same. let low = (of-range (a + 1) n y h).0 in omega arith, apart-range (a + 1) n)

pub apart-filter : (p : ℕ → Bool) (xs : List ℕ) → Apart xs → Apart (filter p xs)
apart-filter p [] h = tt
apart-filter p (x ∷ xs) h = by (p x) (apart-filter p xs h.1)
  where
    by : (t : Bool) → Apart (filter p xs) → Apart (cond t (x ∷ filter p xs) (filter p xs))
    by true rest = (λ y m same. h.0 y (of-filter p xs y m).0 same, rest)
    by false rest = rest

apart-map : (f : ℕ → ℕ) (xs : List ℕ) → ((b c : ℕ) → Contains xs b → Contains xs c → f b ≡ f c → b ≡ c) → Apart xs → Apart (map f xs)
apart-map f [] one h = tt
apart-map f (x ∷ xs) one h = (
  λ y m same. let z = of-map f xs y m in h.0 z.0 z.1 (one x z.0 (in-first x xs) (in-rest x z.0 xs z.1) (same ∙ sym z.2)),
  apart-map f xs (λ b c mb mc. one b c (in-rest x b xs mb) (in-rest x c xs mc)) h.1,
)

others : (x : ℕ) (xs : List ℕ) → ((y : ℕ) → Contains xs y → x ≡ y → ⊥) → AllByRecursion (λ y. eqb x y ≡ false) xs
others x [] h = tt
others x (y ∷ ys) h = (ne_eqb x y (h y (in-first y ys)), others x ys (λ z m. h z (in-rest y z ys m)))

distinct : (xs : List ℕ) → Apart xs → IsDistinct eqb xs
unfolding IsDistinct
distinct [] h = tt
distinct (x ∷ xs) h = (others x xs h.0, distinct xs h.1)

member : (q : ℕ) (xs : List ℕ) → list_any (eqb q) xs ≡ true → Contains xs q
member q [] h = absurd (true≢false (sym h))
member q (x ∷ xs) h = elim (or_cases (eqb q x) (list_any (eqb q) xs) h) [
  | inl here ↦ subst (Contains (x ∷ xs)) (sym (eqb-true q x here)) (in-first x xs)
  | inr there ↦ in-rest x q xs (member q xs there)
]

-- different numbers below n are at most n
at-most : (xs : List ℕ) (n : ℕ) → Apart xs → ((q : ℕ) → Contains xs q → q < n) → length xs ≤ n
at-most xs n h below = length-le_from_distinct_below xs n (distinct xs h) (λ q m. below q (member q xs m))

-- where each number is found, what is found is in order
place-found : (f : ℕ → Option ℕ) (a n i : ℕ) → ((k : ℕ) → a ≤ k → k < a + n → (b : ℕ) × (f k ≡ Some b)) → i < n →
    slice_get (filter_map f (range_with_len a n)) i ≡ f (a + i)
place-found f a zero i found h = absurd (omega arith)
place-found f a (suc n) i found h = by i h (found a (omega arith) (omega arith))
    (λ k. place-found f (a + 1) n k (λ j low high. found j (omega arith) (omega arith)))
  where
    by : (i : ℕ) → i < suc n → (b : ℕ) × (f a ≡ Some b) →
        ((k : ℕ) → k < n → slice_get (filter_map f (range_with_len (a + 1) n)) k ≡ f (a + 1 + k)) →
        slice_get (cons_option (f a) (filter_map f (range_with_len (a + 1) n))) i ≡ f (a + i)
    by zero h (b, is) rest = ap (λ o. slice_get (cons_option o (filter_map f (range_with_len (a + 1) n))) 0) is ∙ sym is
        ∙ (let same : a ≡ a + 0 = omega arith in ap f same)
    by (suc k) h (b, is) rest =
        ap (λ o. slice_get (cons_option o (filter_map f (range_with_len (a + 1) n))) (suc k)) is ∙ rest k (omega arith)
        ∙ (let same : a + 1 + k ≡ a + suc k = omega arith in ap f same)

length-found : (f : ℕ → Option ℕ) (a n : ℕ) → ((k : ℕ) → a ≤ k → k < a + n → (b : ℕ) × (f k ≡ Some b)) →
    length (filter_map f (range_with_len a n)) ≡ n
length-found f a zero found = refl
length-found f a (suc n) found =
    ap (λ o. length (cons_option o (filter_map f (range_with_len (a + 1) n)))) (found a (omega arith) (omega arith)).1
    ∙ ap suc (length-found f (a + 1) n (λ k low high. found k (omega arith) (omega arith)))

module _ (port : ℕ → ℕ) (own : List ℕ) (apart : Apart own)
    (range : (b : ℕ) → Contains own b → (0 < port b) × (port b ≤ length own))
    (one : (b c : ℕ) → Contains own b → Contains own c → port b ≡ port c → b ≡ c) where
  search : ℕ → Option ℕ
  search k = find (λ b. port b == k) own

  none-missing : (k : ℕ) → 0 < k → k ≤ length own → ((b : ℕ) → Contains own b → port b ≡ k → ⊥) → ⊥
  none-missing k low high none =
      let less : ℕ → ℕ = λ b. port b - 1 in
      let different : Apart ((k - 1) ∷ map less own) = (
        λ y m same. (
            let z = of-map less own y m in
            let above : 0 < port z.0 = (range z.0 z.1).0 in
            let is : port z.0 - 1 ≡ y = z.2 in
            none z.0 z.1 (omega arith)
            ),
        apart-map less own (λ b c mb mc same. one b c mb mc (let rb = (range b mb).0 in let rc = (range c mc).0 in omega arith)) apart,
      ) in
      let below : (q : ℕ) → Contains ((k - 1) ∷ map less own) q → q < length own = λ q m. elim (in-cases (k - 1) q (map less own) m) [
        | inl same ↦ omega arith
        | inr more ↦
            let z = of-map less own q more in
            let above : 0 < port z.0 = (range z.0 z.1).0 in
            let high : port z.0 ≤ length own = (range z.0 z.1).1 in
            let is : port z.0 - 1 ≡ q = z.2 in
            omega arith
      ] in
      let few : suc (length (map less own)) ≤ length own = at-most ((k - 1) ∷ map less own) (length own) different below in
      omega (arith, length-map own less)

  pub each-port : (k : ℕ) → 1 ≤ k → k < 1 + length own → (b : ℕ) × (find (λ b. port b == k) own ≡ Some b)
  each-port k low high = by (find (λ b. port b == k) own) refl
    where
      by : (o : Option ℕ) → find (λ b. port b == k) own ≡ o → (b : ℕ) × (o ≡ Some b)
      by (Some b) e = (b, refl)
      by None e = absurd (none-missing k (omega arith) (omega arith) (λ b m is.
          let f = finds (λ c. port c == k) own b m (eq-eqb (port b) k is) in let wrong : ⊥ = cc (e, f.1) in wrong))

  abbrev numbered : List ℕ
  numbered = filter_map (λ k. find (λ b. port b == k) own) (range_with_len 1 (length own))

  -- each row is at its port
  pub at-port : (b : ℕ) → Contains own b → slice_get numbered (port b - 1) ≡ Some b
  at-port b m =
      let r = range b m in
      let low : 0 < port b = r.0 in
      let high : port b ≤ length own = r.1 in
      let is : 1 + (port b - 1) ≡ port b = omega arith in
      let found = each-port (port b) (omega arith) (omega arith) in
      let which = found-in (λ c. port c == port b) own found.0 found.1 in
      let same : found.0 ≡ b = one found.0 b which.0 m (eqb-true (port found.0) (port b) which.1) in
      place-found (λ k. find (λ b. port b == k) own) 1 (length own) (port b - 1) each-port (omega arith)
      ∙ ap (λ k. find (λ b. port b == k) own) is ∙ found.1 ∙ ap Some same

  -- as many as there are
  pub length-numbered : length numbered ≡ length own
  length-numbered = length-found (λ k. find (λ b. port b == k) own) 1 (length own) each-port

-- what is found is one of them
pub of-numbered : (test : ℕ → ℕ → Bool) (own ks : List ℕ) (b : ℕ) → Contains (filter_map (λ k. find (test k) own) ks) b → Contains own b
of-numbered test own ks b h = let f = of-filter_map (λ k. find (test k) own) ks b h in (found-in (test f.0) own b f.2).0
