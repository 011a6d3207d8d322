-- The procedures of a system's children are in front of its own, in the order of the children.
use Rattle.std.specs.Prelude.{◌≡◌, ℕ, zero, suc, ◌+◌, List, [], ◌∷◌, ◌++◌, take, length, slice_get, sum_by, Some, refl}
use Rattle.std.specs.List.{AllZip, range_with_len}
use Rattle.std.proofs.Common.{sym, ap, subst, ◌∙◌, arith}
use Rattle.std.proofs.lemmas.List.{length-append, length-map}
use Rattle.std.proofs.lemmas.List.Sums.{sum_by-cons}
use Rattle.std.proofs.lemmas.Option.{same_Some, none-some, get_or_from_slice_get}
use Rattle.std.proofs.lemmas.Slice.Zip.{AllZip-long}
use Rattle.modules_profile.specs.declared.local.ChildUse.{ChildUse}
use Rattle.modules_profile.specs.Headers.{header_functions}
use Rattle.modules_profile.proofs.lemmas.Members.{at-map, at-left, at-right}
use Rattle.c_semantics.specs.Machine.{no_routine}
use Rattle.emit_shape.specs.Heads.{out_head, out_heads}
use Rattle.right_relation.specs.Instances.{Offered, Offer, no_offer}
use Rattle.right_relation.specs.Serving.{Takes, IsOfferOf}
use Rattle.right_relation.specs.Relation.{offered_routines, children_routines}
use Rattle.right_system_ticks.specs.PlaceLaws.{ChildResetsStand}
use Rattle.right_system_ticks.proofs.FunctionRuns.{zip-from}

length-range : (a n : ℕ) → length (range_with_len a n) ≡ n
length-range a zero = refl
length-range a (suc n) = ap suc (length-range (a + 1) n)

-- ---- The procedures of children

-- how many procedures the first children offer
abbrev pub offered_before : ℕ → List ChildUse → ℕ
offered_before k us = sum_by (λ (u : ChildUse). length (header_functions u.header) + 3) (take k us)

functions-long : (u : ChildUse) (o : Offer) → IsOfferOf u.header o → length o.outs ≡ length (header_functions u.header)
functions-long u o is =
    sym (AllZip-long Takes o.outs (out_heads u.header) is.outs)
    ∙ length-map (range_with_len 1 (length (header_functions u.header))) (out_head u.header)
    ∙ length-range 1 (length (header_functions u.header))

offered-long : (u : ChildUse) (o : Offer) → IsOfferOf u.header o → length (offered_routines o) ≡ length (header_functions u.header) + 3
offered-long u o is =
    let outs = functions-long u o is in
    let made = length-map (o.outs ++ o.update ∷ o.start ∷ o.reset ∷ []) (λ (q : Offered). q.routine) in
    let both = length-append o.outs (o.update ∷ o.start ∷ o.reset ∷ []) in
    omega (arith, outs, made, both)

-- what is so far after the functions of a child: 0 is its update, 1 its start, 2 its reset
pub offered-at : (us : List ChildUse) (offers : List Offer) → AllZip (λ u o. IsOfferOf u.header o) us offers →
    (k : ℕ) (u : ChildUse) (o : Offer) → slice_get us k ≡ Some u → slice_get offers k ≡ Some o →
    (i : ℕ) (q : Offered) → slice_get (o.update ∷ o.start ∷ o.reset ∷ []) i ≡ Some q →
    slice_get (children_routines offers) (offered_before k us + length (header_functions u.header) + i) ≡ Some q.routine
offered-at [] offers are k u o at to i q is = absurd (none-some u at)
offered-at (v ∷ us) [] are k u o at to i q is = absurd are
offered-at (v ∷ us) (p ∷ offers) are zero u o at to i q is =
    let child : v ≡ u = same_Some v u at in
    let offer : p ≡ o = same_Some p o to in
    let long : length p.outs + i ≡ offered_before zero (v ∷ us) + length (header_functions u.header) + i =
    (let same = functions-long v p are.0 in let other = ap (λ (w : ChildUse). length (header_functions w.header)) child
    in omega (arith, same, other)) in
    subst (λ n. slice_get (children_routines (p ∷ offers)) n ≡ Some q.routine) long
    (at-left (offered_routines p) (children_routines offers) (length p.outs + i) q.routine
    (at-map (λ (q : Offered). q.routine) (p.outs ++ p.update ∷ p.start ∷ p.reset ∷ []) (length p.outs + i) q
    (at-right p.outs (p.update ∷ p.start ∷ p.reset ∷ []) i q
    (subst (λ (x : Offer). slice_get (x.update ∷ x.start ∷ x.reset ∷ []) i ≡ Some q) (sym offer) is))))
offered-at (v ∷ us) (p ∷ offers) are (suc k) u o at to i q is =
    let first = offered-long v p are.0 in
    let place : length (offered_routines p) + (offered_before k us + length (header_functions u.header) + i)
    ≡ offered_before (suc k) (v ∷ us) + length (header_functions u.header) + i =
    (let sum = sum_by-cons (λ (u : ChildUse). length (header_functions u.header) + 3) v (take k us) in omega (arith, first, sum)) in
    subst (λ n. slice_get (children_routines (p ∷ offers)) n ≡ Some q.routine) place
    (at-right (offered_routines p) (children_routines offers) (offered_before k us + length (header_functions u.header) + i) q.routine
    (offered-at us offers are.1 k u o at to i q is))

-- so it is with its reset
pub child_resets_stand : ChildResetsStand
child_resets_stand local offers own are k u at =
    let o = zip-from (λ (u : ChildUse) o. IsOfferOf u.header o) local.children offers k u are at in
    let there = offered-at local.children offers are k u o.0 at o.1 2 o.0.reset refl in
    let place : offered_before k local.children + length (header_functions u.header) + 2
    ≡ offered_before k local.children + (length (header_functions u.header) + 2) = omega arith in
    get_or_from_slice_get (children_routines offers ++ own)
    (offered_before k local.children + (length (header_functions u.header) + 2)) o.0.reset.routine no_routine
    (at-left (children_routines offers) own (offered_before k local.children + (length (header_functions u.header) + 2)) o.0.reset.routine
    (ap (slice_get (children_routines offers)) (sym place) ∙ there))
    ∙ ap (λ (x : Offer). x.reset.routine) (sym (get_or_from_slice_get offers k o.0 no_offer o.1))
