-- The representatives of a sound certificate have different needs, so there are as many different needs at least.
use Rattle.std.proofs.Common.{◌≡◌, ℕ, ◌<◌, ◌≤◌, ◌||◌, Bool, true, false, eqb, List, [], ◌∷◌, length, get_or, map, refl, sym, ap, ap₂, subst, ◌∙◌, arith}
use Rattle.std.specs.Cmp.{nat_eq_equiv}
use Rattle.std.specs.List.{Contains, IsDistinct, list_any}
use Rattle.std.proofs.lemmas.Bool.{eqb-true}
use Rattle.std.proofs.lemmas.List.{get_or-map, get_or_default, length-map}
use Rattle.std.proofs.lemmas.Map.Keys.{IsDistinct-from_apart}
use Rattle.std.proofs.lemmas.Map.Made.{length-le_from_is_member}
use Rattle.std.proofs.lemmas.Map.Views.{list_any-from_Contains, Contains-from_any}
use Rattle.base_core.specs.Interface.{NeedsAreLeast, different}
use Rattle.base_core.proofs.lemmas.Different.{has-different}
use Rattle.modules_certificate.specs.PlainCertificate.{PlainCertificate}
use Rattle.modules_certificate.specs.declared.certificate.Difference.{Difference}
use Rattle.modules_certificate.specs.Sound.{IsSound, CertifiedAreLeast, need_at, positions}
use Rattle.modules_certificate.proofs.Pairs.{has-pair}
use Rattle.modules_certificate.proofs.Bits.{sets-differ}

-- ---- The different members of a list are its members

turned : (q : ℕ) (ns : List ℕ) → list_any (λ y. eqb y q) ns ≡ list_any (eqb q) ns
turned q [] = refl
turned q (n ∷ ns) = ap₂ (λ (s t : Bool). s || t) (nat_eq_equiv.symm n q) (turned q ns)

different-has : (q : ℕ) (ns : List ℕ) → list_any (eqb q) ns ≡ true → list_any (eqb q) (different ns) ≡ true
different-has q ns there = sym (turned q (different ns)) ∙ has-different ns q ∙ turned q ns ∙ there

-- ---- Needs of the representatives

module _ (needs : List ℕ) (c : PlainCertificate) (sound : IsSound needs c) where
  abbrev chosen : List ℕ
  chosen = map (λ o. get_or needs o 0) c.representatives

  -- each two are told apart by a difference
  apart : (i j : ℕ) → i < j → j < length c.representatives → need_at needs c.representatives i ≡ need_at needs c.representatives j → ⊥
  apart i j before within same =
      let (k, low, is) = subst (λ (pairs : List (ℕ × ℕ)). Contains pairs (i, j)) (sym sound.pairs) (has-pair
      (length c.representatives) 0 i j (omega arith) before (omega arith)) in
      let inside : k < length c.differ = let e = length-map c.differ positions in omega arith in
      let none : Difference = record { first = 0; second = 0; bit = 0 } in
      let d : Difference = get_or c.differ k none in
      let at : positions d ≡ (i, j) = sym (get_or-map positions c.differ k none (i, j) inside) ∙ is in
      let first : d.first ≡ i = ap (λ (pair : ℕ × ℕ). pair.0) at in
      let second : d.second ≡ j = ap (λ (pair : ℕ × ℕ). pair.1) at in
      sets-differ (need_at needs c.representatives d.first) (need_at needs c.representatives d.second) d.bit (sound.bits k none inside)
      (ap (need_at needs c.representatives) first ∙ same ∙ sym (ap (need_at needs c.representatives) second))

  chosen-at : (i d : ℕ) → i < length c.representatives → get_or chosen i d ≡ need_at needs c.representatives i
  chosen-at i d within = get_or-map (λ o. get_or needs o 0) c.representatives i 0 d within

  distinct-chosen : IsDistinct eqb chosen
  distinct-chosen = IsDistinct-from_apart eqb chosen (λ i j d before within.
      let e : length chosen ≡ length c.representatives = length-map c.representatives (λ o. get_or needs o 0) in
      by (eqb (get_or chosen i d) (get_or chosen j d)) refl (λ same. apart i j before (omega arith) (sym (chosen-at i d
      (omega arith)) ∙ same ∙ chosen-at j d (omega arith))))
    where
      by : {a b : ℕ} → (t : Bool) → eqb a b ≡ t → (a ≡ b → ⊥) → eqb a b ≡ false
      by {a} {b} true e differ = absurd (differ (eqb-true a b e))
      by false e differ = e

  member : (q : ℕ) → list_any (eqb q) chosen ≡ true → list_any (eqb q) (different needs) ≡ true
  member q there =
      let (k, low, is) = Contains-from_any eqb-true q chosen there in
      let e : length chosen ≡ length c.representatives = length-map c.representatives (λ o. get_or needs o 0) in
      let within : k < length c.representatives = omega arith in
      let o : ℕ = get_or c.representatives k 0 in
      let output : o < length needs = sound.outputs k 0 within in
      let here : get_or needs o q ≡ q = get_or_default needs o q 0 output ∙ sym (chosen-at k q within) ∙ is in
      different-has q needs (list_any-from_Contains nat_eq_equiv q needs (o, output, here))

  pub least : length c.representatives ≤ length (different needs)
  least = let e : length chosen ≡ length c.representatives = length-map c.representatives (λ o. get_or needs o 0) in
      let h = length-le_from_is_member nat_eq_equiv chosen (different needs) distinct-chosen member in
      omega arith

pub certified_are_least : NeedsAreLeast → CertifiedAreLeast
certified_are_least bound needs c interface sound is exact =
    let fewer = least needs c sound in let more = bound interface needs is exact in omega arith
