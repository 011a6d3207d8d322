-- Needs of which only some are known: each other is hidden by one number.
use Rattle.std.proofs.Common.{◌≡◌, ℕ, suc, ◌≤◌, ◌==◌, ◌||◌, Bool, true, false, cond, List, [], ◌∷◌, ◌++◌, length, map, refl, sym, ap, ap₂, ◌∙◌, arith}
use Rattle.std.specs.List.{AllByRecursion, count_by}
use Rattle.std.proofs.lemmas.Bool.{eq-eqb, false≢true, ne_eqb}
use Rattle.std.proofs.lemmas.List.Sums.{sum_by-cons}
use Rattle.modules_report.specs.Following.{not_known}
use Rattle.modules_report.proofs.Differents.{IsWithin, also-before, also-other, also-within, and-also, not-empty, same-first, same-rest, unseen, unseen-keep, unseen-none, unseen-skip}

-- how many are hidden
abbrev pub hidden_of : List ℕ → ℕ
hidden_of ns = count_by (λ n. n == not_known) ns

abbrev pub one-if : Bool → ℕ
one-if t = cond t 1 0

pub hidden-more : (ns : List ℕ) → hidden_of (not_known ∷ ns) ≡ suc (hidden_of ns)
hidden-more ns =
    let first = sum_by-cons (λ k. one-if (k == not_known)) not_known ns in
    let one : one-if (not_known == not_known) ≡ 1 = ap one-if (eq-eqb not_known not_known refl) in omega (arith, first, one)

pub hidden-same : (n : ℕ) (ns : List ℕ) → (n ≡ not_known → ⊥) → hidden_of (n ∷ ns) ≡ hidden_of ns
hidden-same n ns other =
    let first = sum_by-cons (λ k. one-if (k == not_known)) n ns in
    let none : one-if (n == not_known) ≡ 0 = ap one-if (ne_eqb n not_known other) in omega (arith, first, none)

-- where all were seen and what hides others wasn't, none is hidden
pub none-hidden : (p : ℕ → Bool) (ns : List ℕ) → p not_known ≡ false → AllByRecursion (λ n. p n ≡ true) ns → hidden_of ns ≡ 0
none-hidden p [] hides a = refl
none-hidden p (n ∷ ns) hides a =
    hidden-same n ns (λ same. false≢true (sym hides ∙ ap p (sym same) ∙ a.0)) ∙ none-hidden p ns hides a.1

abbrev pub ends : List ℕ → List ℕ
ends [] = []
ends (e ∷ es) = not_known ∷ []

module _ (keep : ℕ → Bool) (hides : keep not_known ≡ false) where
  abbrev pub hide : ℕ → ℕ
  hide n = cond (keep n) n not_known

  shown : (n : ℕ) → keep n ≡ true → hide n ≡ n
  shown n is = ap (λ (t : Bool). cond t n not_known) is

  hidden : (n : ℕ) → keep n ≡ false → hide n ≡ not_known
  hidden n is = ap (λ (t : Bool). cond t n not_known) is

  abbrev AllShown : List ℕ → Type 0
  AllShown = AllByRecursion (λ n. keep n ≡ true)

  abbrev AllHidden : List ℕ → Type 0
  AllHidden = AllByRecursion (λ n. keep n ≡ false)

  skip : (p : ℕ → Bool) (n k : ℕ) (ns : List ℕ) → k ≡ n → p n ≡ true → unseen p (k ∷ ns) ≡ unseen p ns
  skip p n k ns e is = unseen-skip p k ns (ap p e ∙ is)

  take-up : (p : ℕ → Bool) (n k : ℕ) (ns : List ℕ) → k ≡ n → p n ≡ false → unseen p (k ∷ ns) ≡ n ∷ unseen (and-also p n) ns
  take-up p n k ns e is = unseen-keep p k ns (ap p e ∙ is) ∙ ap (λ m. m ∷ unseen (and-also p m) ns) e

  -- where all that are shown were seen, nothing is new
  pub nothing-new : (p q : ℕ → Bool) (ns es : List ℕ) → ((m : ℕ) → p m ≡ true → keep m ≡ true → q m ≡ true) → q not_known ≡ true →
      AllHidden es → unseen p ns ≡ es → unseen q (map hide ns) ≡ []
  nothing-new p q [] es within own a e = unseen-none q
  nothing-new p q (n ∷ ns) es within own a e = by (keep n) (p n) refl refl es a e (λ r fs w b f. nothing-new r q ns fs w own b f)
    where
      later : keep n ≡ false → (m : ℕ) → and-also p n m ≡ true → keep m ≡ true → q m ≡ true
      later is m seen shows = at (p m) refl
        where
          at : (t : Bool) → p m ≡ t → q m ≡ true
          at true h = within m h shows
          at false h = absurd (false≢true (sym (also-other p n m (λ same. false≢true (sym is ∙ ap keep (sym same) ∙ shows)) h) ∙ seen))

      by : (s t : Bool) → keep n ≡ s → p n ≡ t → (fs : List ℕ) → AllHidden fs → unseen p (n ∷ ns) ≡ fs →
          ((r : ℕ → Bool) (gs : List ℕ) → ((m : ℕ) → r m ≡ true → keep m ≡ true → q m ≡ true) → AllHidden gs →
          unseen r ns ≡ gs → unseen q (map hide ns) ≡ []) →
          unseen q (hide n ∷ map hide ns) ≡ []
      by true true k i fs b f more = skip q n (hide n) (map hide ns) (shown n k) (within n i k)
          ∙ more p fs within b (sym (unseen-skip p n ns i) ∙ f)
      by true false k i [] b f more = absurd (not-empty n (unseen (and-also p n) ns) (sym (unseen-keep p n ns i) ∙ f))
      by true false k i (g ∷ fs) b f more =
          absurd (false≢true (sym b.0 ∙ ap keep (sym (same-first n g (unseen (and-also p n) ns) fs (sym (unseen-keep p n ns i) ∙ f))) ∙ k))
      by false true k i fs b f more =
          skip q not_known (hide n) (map hide ns) (hidden n k) own ∙ more p fs within b (sym (unseen-skip p n ns i) ∙ f)
      by false false k i [] b f more = absurd (not-empty n (unseen (and-also p n) ns) (sym (unseen-keep p n ns i) ∙ f))
      by false false k i (g ∷ fs) b f more = skip q not_known (hide n) (map hide ns) (hidden n k) own
          ∙ more (and-also p n) fs (later k) b.1 (same-rest n g (unseen (and-also p n) ns) fs (sym (unseen-keep p n ns i) ∙ f))

  -- those that are shown come first, and then what hides others
  pub shown-first : (p : ℕ → Bool) (ns ds es : List ℕ) → IsWithin p keep → AllShown ds → AllHidden es →
      unseen p ns ≡ ds ++ es → unseen p (map hide ns) ≡ ds ++ ends es
  shown-first p [] [] [] within a b e = unseen-none p
  shown-first p [] [] (x ∷ es) within a b e = absurd (not-empty x es (sym e ∙ unseen-none p))
  shown-first p [] (d ∷ ds) es within a b e = absurd (not-empty d (ds ++ es) (sym e ∙ unseen-none p))
  shown-first p (n ∷ ns) ds es within a b e = by (p n) refl ds es a b e (λ r xs ys w f g h. shown-first r ns xs ys w f g h)
    where
      not-hidden : (p not_known ≡ true → ⊥)
      not-hidden is = false≢true (sym hides ∙ within not_known is)

      unseen-hidden : (t : Bool) → p not_known ≡ t → p not_known ≡ false
      unseen-hidden true is = absurd (not-hidden is)
      unseen-hidden false is = is

      by : (t : Bool) → p n ≡ t → (xs ys : List ℕ) → AllShown xs → AllHidden ys → unseen p (n ∷ ns) ≡ xs ++ ys →
          ((r : ℕ → Bool) (us vs : List ℕ) → IsWithin r keep → AllShown us → AllHidden vs → unseen r ns ≡ us ++ vs →
          unseen r (map hide ns) ≡ us ++ ends vs) →
          unseen p (hide n ∷ map hide ns) ≡ xs ++ ends ys
      by true is xs ys f g h more =
          skip p n (hide n) (map hide ns) (shown n (within n is)) is ∙ more p xs ys within f g (sym (unseen-skip p n ns is) ∙ h)
      by false is (x ∷ xs) ys f g h more =
          let both = sym (unseen-keep p n ns is) ∙ h in
          let same : n ≡ x = same-first n x (unseen (and-also p n) ns) (xs ++ ys) both in
          let own : keep n ≡ true = ap keep same ∙ f.0 in
          take-up p n (hide n) (map hide ns) (shown n own) is
          ∙ ap₂ (λ (m : ℕ) (t : List ℕ). m ∷ t) same (more (and-also p n) xs ys (also-within p keep n within own) f.1 g
          (same-rest n x (unseen (and-also p n) ns) (xs ++ ys) both))
      by false is [] [] f g h more = absurd (not-empty n (unseen (and-also p n) ns) (sym (unseen-keep p n ns is) ∙ h))
      by false is [] (y ∷ ys) f g h more =
          let both = sym (unseen-keep p n ns is) ∙ h in
          let same : n ≡ y = same-first n y (unseen (and-also p n) ns) ys both in
          let away : keep n ≡ false = ap keep same ∙ g.0 in
          take-up p not_known (hide n) (map hide ns) (hidden n away) (unseen-hidden (p not_known) refl)
          ∙ ap (λ (t : List ℕ). not_known ∷ t) (nothing-new (and-also p n) (and-also p not_known) ns ys (behind-it away)
          (own-seen p) g.1 (same-rest n y (unseen (and-also p n) ns) ys both))
        where
          own-seen : (r : ℕ → Bool) → and-also r not_known not_known ≡ true
          own-seen r = ap (λ (t : Bool). t || r not_known) (eq-eqb not_known not_known refl)

          behind-it : keep n ≡ false → (m : ℕ) → and-also p n m ≡ true → keep m ≡ true → and-also p not_known m ≡ true
          behind-it away m seen shows = at (p m) refl
            where
              at : (t : Bool) → p m ≡ t → and-also p not_known m ≡ true
              at true i = also-before p not_known m i
              at false i =
                  absurd (false≢true
                  (sym (also-other p n m (λ same. false≢true (sym away ∙ ap keep (sym same) ∙ shows)) i) ∙ seen))

  -- each that isn't shown is hidden at one place at least
  pub enough-hidden : (p : ℕ → Bool) (ns ds es : List ℕ) → AllHidden es → unseen p ns ≡ ds ++ es → length es ≤ hidden_of (map hide ns)
  enough-hidden p [] [] [] b e = omega arith
  enough-hidden p [] [] (x ∷ es) b e = absurd (not-empty x es (sym e ∙ unseen-none p))
  enough-hidden p [] (d ∷ ds) es b e = absurd (not-empty d (ds ++ es) (sym e ∙ unseen-none p))
  enough-hidden p (n ∷ ns) ds es b e = by (p n) refl ds es b e (λ r xs ys g h. enough-hidden r ns xs ys g h)
    where
      longer : hidden_of (map hide ns) ≤ hidden_of (hide n ∷ map hide ns)
      longer = let first = sum_by-cons (λ k. one-if (k == not_known)) (hide n) (map hide ns) in omega (arith, first)

      by : (t : Bool) → p n ≡ t → (xs ys : List ℕ) → AllHidden ys → unseen p (n ∷ ns) ≡ xs ++ ys →
          ((r : ℕ → Bool) (us vs : List ℕ) → AllHidden vs → unseen r ns ≡ us ++ vs → length vs ≤ hidden_of (map hide ns)) →
          length ys ≤ hidden_of (hide n ∷ map hide ns)
      by true is xs ys g h more =
          let few = more p xs ys g (sym (unseen-skip p n ns is) ∙ h) in let more' = longer in omega (arith, few, more')
      by false is (x ∷ xs) ys g h more =
          let few = more (and-also p n) xs ys g (same-rest n x (unseen (and-also p n) ns) (xs ++ ys) (sym (unseen-keep p n ns is) ∙ h)) in
          let more' = longer in omega (arith, few, more')
      by false is [] [] g h more = omega arith
      by false is [] (y ∷ ys) g h more =
          let both = sym (unseen-keep p n ns is) ∙ h in
          let same : n ≡ y = same-first n y (unseen (and-also p n) ns) ys both in
          let few = more (and-also p n) [] ys g.1 (same-rest n y (unseen (and-also p n) ns) ys both) in
          let one : hidden_of (hide n ∷ map hide ns) ≡ suc (hidden_of (map hide ns)) =
          ap (λ m. hidden_of (m ∷ map hide ns)) (hidden n (ap keep same ∙ g.0)) ∙ hidden-more (map hide ns) in omega (arith, few, one)

  -- where all are shown
  pub all-shown : (p : ℕ → Bool) (ns ds : List ℕ) → IsWithin p keep → AllShown ds → unseen p ns ≡ ds → AllShown ns
  all-shown p [] ds within a e = tt
  all-shown p (n ∷ ns) ds within a e = by (p n) refl ds a e (λ r xs w f h. all-shown r ns xs w f h)
    where
      by : (t : Bool) → p n ≡ t → (xs : List ℕ) → AllShown xs → unseen p (n ∷ ns) ≡ xs →
          ((r : ℕ → Bool) (us : List ℕ) → IsWithin r keep → AllShown us → unseen r ns ≡ us → AllShown ns) → AllShown (n ∷ ns)
      by true is xs f h more = (within n is, more p xs within f (sym (unseen-skip p n ns is) ∙ h))
      by false is [] f h more = absurd (not-empty n (unseen (and-also p n) ns) (sym (unseen-keep p n ns is) ∙ h))
      by false is (x ∷ xs) f h more =
          let both = sym (unseen-keep p n ns is) ∙ h in
          let own : keep n ≡ true = ap keep (same-first n x (unseen (and-also p n) ns) xs both) ∙ f.0 in
          (own, more (and-also p n) xs (also-within p keep n within own) f.1 (same-rest n x (unseen (and-also p n) ns) xs both))

  pub shown-same : (ns : List ℕ) → AllShown ns → map hide ns ≡ ns
  shown-same [] a = refl
  shown-same (n ∷ ns) a = ap₂ (λ (m : ℕ) (t : List ℕ). m ∷ t) (shown n a.0) (shown-same ns a.1)

  -- a member that is shown is at the same places
  pub same-places : (d : ℕ) (ns : List ℕ) → keep d ≡ true → map (λ n. n == d) (map hide ns) ≡ map (λ n. n == d) ns
  same-places d [] own = refl
  same-places d (n ∷ ns) own = ap₂ (λ (t : Bool) (ts : List Bool). t ∷ ts) (by (keep n) refl) (same-places d ns own)
    where
      by : (t : Bool) → keep n ≡ t → (hide n == d) ≡ (n == d)
      by true is = ap (λ m. m == d) (shown n is)
      by false is = ap (λ m. m == d) (hidden n is) ∙ ne_eqb not_known d (λ same. false≢true (sym hides ∙ ap keep same ∙ own))
          ∙ sym (ne_eqb n d (λ same. false≢true (sym is ∙ ap keep same ∙ own)))
