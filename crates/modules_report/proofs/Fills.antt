-- Needs of which some are hidden, filled with others that are new.
use Rattle.std.proofs.Common.{◌≡◌, ◌⊎◌, ℕ, suc, ◌≤◌, ◌==◌, Bool, true, false, cond, List, [], ◌∷◌, ◌++◌, length, map, refl, sym, ap, ap₂, subst, ◌∙◌, arith, inl, inr}
use Rattle.std.specs.List.{AllByRecursion}
use Rattle.std.proofs.lemmas.Bool.{eq-eqb, eqb-true, false≢true, ne_eqb}
use Rattle.modules_report.specs.Following.{not_known}
use Rattle.modules_report.proofs.Differents.{IsWithin, all-seen, also-before, also-both, also-other, also-self, also-within, and-also, same-first, same-rest, unseen, unseen-keep, unseen-none, unseen-skip}
use Rattle.modules_report.proofs.HiddenNeeds.{hidden-more, hidden-same, hidden_of, none-hidden}

-- none was seen, and no two are the same
abbrev pub AreNew : (ℕ → Bool) → List ℕ → Type 0
AreNew seen [] = Unit {0}
AreNew seen (u ∷ us) = (seen u ≡ false) × AreNew (and-also seen u) us

pub new-within : (p q : ℕ → Bool) (us : List ℕ) → IsWithin p q → AreNew q us → AreNew p us
new-within p q [] within a = tt
new-within p q (u ∷ us) within a = (by (p u) refl, new-within (and-also p u) (and-also q u) us (also-both p q u within) a.1)
  where
    by : (t : Bool) → p u ≡ t → p u ≡ false
    by true is = absurd (false≢true (sym a.0 ∙ within u is))
    by false is = is

pub new-others : (q : ℕ → Bool) (us : List ℕ) (d : ℕ) → AreNew q us → q d ≡ true → AllByRecursion (λ u. u ≡ d → ⊥) us
new-others q [] d a own = tt
new-others q (u ∷ us) d a own = (
  (λ same. false≢true (sym a.0 ∙ ap q same ∙ own)),
  new-others (and-also q u) us d a.1 (also-before q u d own),
)

-- each hidden one by the next of others, and by the last of them where there is none left
pub fill : ℕ → List ℕ → List ℕ → List ℕ
fill last us [] = []
fill last [] (n ∷ ns) = cond (n == not_known) last n ∷ fill last [] ns
fill last (u ∷ us) (n ∷ ns) = cond (n == not_known) (u ∷ fill u us ns) (n ∷ fill last (u ∷ us) ns)

-- ---- One step

module _ (ns : List ℕ) where
  hidden-last : (last : ℕ) → fill last [] (not_known ∷ ns) ≡ last ∷ fill last [] ns
  unfolding fill
  hidden-last last = ap (λ (t : Bool). cond t last not_known ∷ fill last [] ns) (eq-eqb not_known not_known refl)

  hidden-next : (last u : ℕ) (us : List ℕ) → fill last (u ∷ us) (not_known ∷ ns) ≡ u ∷ fill u us ns
  unfolding fill
  hidden-next last u us = ap (λ (t : Bool). cond t (u ∷ fill u us ns) (not_known ∷ fill last (u ∷ us) ns)) (eq-eqb not_known not_known refl)

  left-alone : (last : ℕ) (us : List ℕ) (n : ℕ) → (n ≡ not_known → ⊥) → fill last us (n ∷ ns) ≡ n ∷ fill last us ns
  unfolding fill
  left-alone last [] n other = ap (λ (t : Bool). cond t last n ∷ fill last [] ns) (ne_eqb n not_known other)
  left-alone last (u ∷ us) n other = ap (λ (t : Bool). cond t (u ∷ fill u us ns) (n ∷ fill last (u ∷ us) ns)) (ne_eqb n not_known other)

no-fill : (last : ℕ) (us : List ℕ) → fill last us [] ≡ []
unfolding fill
no-fill last us = refl

is-hidden : (n : ℕ) → (n ≡ not_known) ⊎ (n ≡ not_known → ⊥)
is-hidden n = by (n == not_known) refl
  where
    by : (t : Bool) → (n == not_known) ≡ t → (n ≡ not_known) ⊎ (n ≡ not_known → ⊥)
    by true is = inl (eqb-true n not_known is)
    by false is = inr (λ same. false≢true (sym is ∙ eq-eqb n not_known same))

-- ---- The members of what is filled

pub length-fill : (last : ℕ) (us ns : List ℕ) → length (fill last us ns) ≡ length ns
length-fill last us [] = ap length (no-fill last us)
length-fill last us (n ∷ ns) = elim (is-hidden n) [
  | inl same ↦ ap (λ m. length (fill last us (m ∷ ns))) same ∙ at us (length-fill last [] ns) (λ u vs. length-fill u vs ns)
  | inr other ↦ ap (λ (t : List ℕ). length t) (left-alone ns last us n other) ∙ ap suc (length-fill last us ns)
]
  where
    at : (vs : List ℕ) → length (fill last [] ns) ≡ length ns → ((u : ℕ) (ws : List ℕ) → length (fill u ws ns) ≡ length ns) →
        length (fill last vs (not_known ∷ ns)) ≡ suc (length ns)
    at [] more more' = ap (λ (t : List ℕ). length t) (hidden-last ns last) ∙ ap suc more
    at (v ∷ vs) more more' = ap (λ (t : List ℕ). length t) (hidden-next ns last v vs) ∙ ap suc (more' v vs)

pub all-filled : (P : ℕ → Type 0) (last : ℕ) (us ns : List ℕ) → P last → AllByRecursion P us →
    AllByRecursion (λ n. (n ≡ not_known) ⊎ P n) ns →
    AllByRecursion P (fill last us ns)
all-filled P last us [] own a b = subst (AllByRecursion P) (sym (no-fill last us)) tt
all-filled P last us (n ∷ ns) own a b = elim (is-hidden n) [
  | inl same ↦ subst (λ m. AllByRecursion P (fill last us (m ∷ ns))) (sym same) (at us a (all-filled P last [] ns own tt b.1)
      (λ u vs p q. all-filled P u vs ns p q b.1))
  | inr other ↦ subst (AllByRecursion P) (sym (left-alone ns last us n other)) (of other b.0, all-filled P last us ns own a b.1)
]
  where
    of : (n ≡ not_known → ⊥) → (n ≡ not_known) ⊎ P n → P n
    of other (inl same) = absurd (other same)
    of other (inr is) = is

    at : (vs : List ℕ) → AllByRecursion P vs → AllByRecursion P (fill last [] ns) →
        ((u : ℕ) (ws : List ℕ) → P u → AllByRecursion P ws → AllByRecursion P (fill u ws ns)) →
        AllByRecursion P (fill last vs (not_known ∷ ns))
    at [] c more more' = subst (AllByRecursion P) (sym (hidden-last ns last)) (own, more)
    at (v ∷ vs) c more more' = subst (AllByRecursion P) (sym (hidden-next ns last v vs)) (c.0, more' v vs c.0 c.1)

-- a member that is none of the new ones is at the same places
pub same-filled : (d last : ℕ) (us ns : List ℕ) → (d ≡ not_known → ⊥) → (last ≡ d → ⊥) → AllByRecursion (λ u. u ≡ d → ⊥) us →
    map (λ n. n == d) (fill last us ns) ≡ map (λ n. n == d) ns
same-filled d last us [] known own a = ap (λ (t : List ℕ). map (λ n. n == d) t) (no-fill last us)
same-filled d last us (n ∷ ns) known own a = elim (is-hidden n) [
  | inl same ↦ ap (λ m. map (λ n. n == d) (fill last us (m ∷ ns))) same ∙ at us a (same-filled d last [] ns known own tt)
      (λ u vs p q. same-filled d u vs ns known p q) ∙ ap (λ m. map (λ n. n == d) (m ∷ ns)) (sym same)
  | inr other ↦ ap (λ (t : List ℕ). map (λ n. n == d) t) (left-alone ns last us n other)
      ∙ ap (λ (ts : List Bool). (n == d) ∷ ts) (same-filled d last us ns known own a)
]
  where
    away : (u : ℕ) → (u ≡ d → ⊥) → (u == d) ≡ (not_known == d)
    away u other = ne_eqb u d other ∙ sym (ne_eqb not_known d (λ same. known (sym same)))

    at : (vs : List ℕ) → AllByRecursion (λ u. u ≡ d → ⊥) vs → map (λ n. n == d) (fill last [] ns) ≡ map (λ n. n == d) ns →
        ((u : ℕ) (ws : List ℕ) → (u ≡ d → ⊥) → AllByRecursion (λ u. u ≡ d → ⊥) ws →
        map (λ n. n == d) (fill u ws ns) ≡ map (λ n. n == d) ns) →
        map (λ n. n == d) (fill last vs (not_known ∷ ns)) ≡ map (λ n. n == d) (not_known ∷ ns)
    at [] c more more' = ap (λ (t : List ℕ). map (λ n. n == d) t) (hidden-last ns last)
        ∙ ap₂ (λ (t : Bool) (ts : List Bool). t ∷ ts) (away last own) more
    at (v ∷ vs) c more more' = ap (λ (t : List ℕ). map (λ n. n == d) t) (hidden-next ns last v vs)
        ∙ ap₂ (λ (t : Bool) (ts : List Bool). t ∷ ts) (away v c.0) (more' v vs c.0 c.1)

-- ---- The different members of what is filled

-- where all that is not hidden was seen, those are the new ones
pub new-ones : (p : ℕ → Bool) (last : ℕ) (us ns : List ℕ) → p last ≡ true → AreNew p us →
    AllByRecursion (λ n. (n ≡ not_known) ⊎ (p n ≡ true)) ns →
    length us ≤ hidden_of ns → unseen p (fill last us ns) ≡ us
new-ones p last [] [] own a b few = ap (unseen p) (no-fill last []) ∙ unseen-none p
new-ones p last (u ∷ us) [] own a b few = absurd (omega (arith, few))
new-ones p last us (n ∷ ns) own a b few = elim (is-hidden n) [
  | inl same ↦ ap (λ m. unseen p (fill last us (m ∷ ns))) same
      ∙ at us a (subst (λ m. length us ≤ hidden_of (m ∷ ns)) same few) (λ q l vs f g h k. new-ones q l vs ns f g h k)
  | inr other ↦ ap (unseen p) (left-alone ns last us n other) ∙ unseen-skip p n (fill last us ns) (of other b.0)
      ∙ new-ones p last us ns own a b.1 (subst (λ k. length us ≤ k) (hidden-same n ns other) few)
]
  where
    of : (n ≡ not_known → ⊥) → (n ≡ not_known) ⊎ (p n ≡ true) → p n ≡ true
    of other (inl same) = absurd (other same)
    of other (inr is) = is

    wider : (u : ℕ) (ms : List ℕ) → AllByRecursion (λ n. (n ≡ not_known) ⊎ (p n ≡ true)) ms →
        AllByRecursion (λ n. (n ≡ not_known) ⊎ (and-also p u n ≡ true)) ms
    wider u [] c = tt
    wider u (m ∷ ms) c = (elim c.0 [ inl same ↦ inl same | inr is ↦ inr (also-before p u m is) ], wider u ms c.1)

    at : (vs : List ℕ) → AreNew p vs → length vs ≤ hidden_of (not_known ∷ ns) →
        ((q : ℕ → Bool) (l : ℕ) (ws : List ℕ) → q l ≡ true → AreNew q ws → AllByRecursion (λ n. (n ≡ not_known) ⊎ (q n ≡ true)) ns →
        length ws ≤ hidden_of ns → unseen q (fill l ws ns) ≡ ws) → unseen p (fill last vs (not_known ∷ ns)) ≡ vs
    at [] c most more = ap (unseen p) (hidden-last ns last) ∙ unseen-skip p last (fill last [] ns) own
        ∙ more p last [] own tt b.1 (omega arith)
    at (v ∷ vs) c most more = ap (unseen p) (hidden-next ns last v vs) ∙ unseen-keep p v (fill v vs ns) c.0
        ∙ ap (λ (t : List ℕ). v ∷ t)
        (more (and-also p v) v vs (also-self p v) c.1 (wider v ns b.1) (let one = hidden-more ns in
        omega (arith, most, one)))

-- Where the hidden ones come last among the different members, the new ones are in their place.
pub new-last : (p q : ℕ → Bool) (last u : ℕ) (us ns ds : List ℕ) (e : ℕ) → p not_known ≡ false → IsWithin p q → AreNew q (u ∷ us) →
    AllByRecursion (λ n. (n ≡ not_known) ⊎ (q n ≡ true)) ns → AllByRecursion (λ d. d ≡ not_known → ⊥) ds →
    length (u ∷ us) ≤ hidden_of ns → unseen p ns ≡ ds ++ e ∷ [] → unseen p (fill last (u ∷ us) ns) ≡ ds ++ u ∷ us
new-last p q last u us [] ds e hides within a b known few is = absurd (omega (arith, few))
new-last p q last u us (n ∷ ns) ds e hides within a b known few is = elim (is-hidden n) [
  | inl same ↦ ap (λ m. unseen p (fill last (u ∷ us) (m ∷ ns))) same
      ∙ here ds known (subst (λ m. length (u ∷ us) ≤ hidden_of (m ∷ ns)) same few) (subst (λ m. unseen p (m ∷ ns) ≡ ds ++ e ∷ []) same is)
  | inr other ↦ ap (unseen p) (left-alone ns last (u ∷ us) n other)
      ∙ there other (p n) refl ds known (subst (λ k. length (u ∷ us) ≤ k) (hidden-same n ns other) few) is
      (λ r xs f g h k l. new-last r q last u us ns xs e f g a b.1 h k l)
]
  where
    first-new : p u ≡ false
    first-new = at (p u) refl
      where
        at : (t : Bool) → p u ≡ t → p u ≡ false
        at true seen = absurd (false≢true (sym a.0 ∙ within u seen))
        at false seen = seen

    seen-now : (ms : List ℕ) → AllByRecursion (λ m. and-also p not_known m ≡ true) ms →
        AllByRecursion (λ m. (m ≡ not_known) ⊎ (and-also p u m ≡ true)) ms
    seen-now [] c = tt
    seen-now (m ∷ ms) c = (one (is-hidden m) (p m) refl, seen-now ms c.1)
      where
        one : (m ≡ not_known) ⊎ (m ≡ not_known → ⊥) → (t : Bool) → p m ≡ t → (m ≡ not_known) ⊎ (and-also p u m ≡ true)
        one (inl same) t i = inl same
        one (inr other) true i = inr (also-before p u m i)
        one (inr other) false i = absurd (false≢true (sym (also-other p not_known m other i) ∙ c.0))

    here : (xs : List ℕ) → AllByRecursion (λ d. d ≡ not_known → ⊥) xs → length (u ∷ us) ≤ hidden_of (not_known ∷ ns) →
        unseen p (not_known ∷ ns) ≡ xs ++ e ∷ [] →
        unseen p (fill last (u ∷ us) (not_known ∷ ns)) ≡ xs ++ u ∷ us
    here (x ∷ xs) k most i =
        absurd (k.0
        (sym (same-first not_known x (unseen (and-also p not_known) ns) (xs ++ e ∷ [])
        (sym (unseen-keep p not_known ns hides) ∙ i))))
    here [] k most i =
        let rest = same-rest not_known e (unseen (and-also p not_known) ns) [] (sym (unseen-keep p not_known ns hides) ∙ i) in
        ap (unseen p) (hidden-next ns last u us) ∙ unseen-keep p u (fill u us ns) first-new
        ∙ ap (λ (t : List ℕ). u ∷ t) (new-ones (and-also p u) u us ns (also-self p u)
        (new-within (and-also p u) (and-also q u) us (also-both p q u within) a.1)
        (seen-now ns (all-seen (and-also p not_known) ns rest)) (let one = hidden-more ns in omega (arith, most, one)))

    seen-too : (n ≡ not_known → ⊥) → q n ≡ true
    seen-too other = elim b.0 [ inl same ↦ absurd (other same) | inr own ↦ own ]

    there : (n ≡ not_known → ⊥) → (t : Bool) → p n ≡ t → (xs : List ℕ) → AllByRecursion (λ d. d ≡ not_known → ⊥) xs →
        length (u ∷ us) ≤ hidden_of ns →
        unseen p (n ∷ ns) ≡ xs ++ e ∷ [] →
        ((r : ℕ → Bool) (ys : List ℕ) → r not_known ≡ false → IsWithin r q →
        AllByRecursion (λ d. d ≡ not_known → ⊥) ys → length (u ∷ us) ≤ hidden_of ns →
        unseen r ns ≡ ys ++ e ∷ [] → unseen r (fill last (u ∷ us) ns) ≡ ys ++ u ∷ us) →
        unseen p (n ∷ fill last (u ∷ us) ns) ≡ xs ++ u ∷ us
    there other true i xs k most f more =
        unseen-skip p n (fill last (u ∷ us) ns) i ∙ more p xs hides within k most (sym (unseen-skip p n ns i) ∙ f)
    there other false i (x ∷ xs) k most f more =
        let both = sym (unseen-keep p n ns i) ∙ f in
        unseen-keep p n (fill last (u ∷ us) ns) i
        ∙ ap₂ (λ (m : ℕ) (t : List ℕ). m ∷ t) (same-first n x (unseen (and-also p n) ns) (xs ++ e ∷ []) both)
        (more (and-also p n) xs (also-other p n not_known (λ same. other (sym same)) hides)
        (also-within p q n within (seen-too other)) k.1 most
        (same-rest n x (unseen (and-also p n) ns) (xs ++ e ∷ []) both))
    there other false i [] k most f more =
        let rest = same-rest n e (unseen (and-also p n) ns) [] (sym (unseen-keep p n ns i) ∙ f) in
        let none =
        none-hidden (and-also p n) ns (also-other p n not_known (λ same. other (sym same)) hides)
        (all-seen (and-also p n) ns rest) in
        absurd (omega (arith, most, none))
