-- Where procedures are: those of the children in front, in their order, and then the system's own.
use Rattle.std.specs.Prelude.{◌≡◌, ℕ, zero, suc, ◌+◌, List, [], ◌∷◌, ◌++◌, take, length, slice_get, sum_by, Some, refl}
use Rattle.std.specs.List.{AllZip, range_with_len}
use Rattle.std.proofs.Common.{sym, ap, subst, ◌∙◌, arith}
use Rattle.std.proofs.lemmas.List.{length-append, length-map}
use Rattle.std.proofs.lemmas.List.Sums.{sum_by-cons}
use Rattle.std.proofs.lemmas.Option.{same_Some, none-some}
use Rattle.modules_profile.specs.declared.ChildUse.{ChildUse}
use Rattle.modules_profile.specs.Headers.{header_functions}
use Rattle.modules_profile.proofs.lemmas.Members.{at-map, at-left, at-right}
use Rattle.c_syntax.specs.declared.CType.{CType}
use Rattle.c_syntax.specs.Tree.{ProcedureTree}
use Rattle.c_semantics.specs.Values.{Function}
use Rattle.c_semantics.specs.Machine.{Routine, routine_with}
use Rattle.emit_shape.specs.Heads.{out_head, out_heads}
use Rattle.right_relation.specs.Instances.{Offered, Offer}
use Rattle.right_relation.specs.Serving.{Takes, IsOfferOf}
use Rattle.right_relation.specs.Relation.{offered_routines, children_routines, numbered_routines}
use Rattle.right_system_starts.proofs.Lists.{length-range, length-zip}

-- ---- Numbered procedures

module _ (functions : List Function) (types : List CType) (numbers : ℕ → ℕ) where
  -- those before stay
  pub numbered-before : (k : ℕ) (earlier : List Routine) (qs : List ProcedureTree) (j : ℕ) (r : Routine) → slice_get earlier j ≡ Some r →
      slice_get (numbered_routines functions types numbers k earlier qs) j ≡ Some r
  numbered-before k earlier [] j r at = at
  numbered-before k earlier (q ∷ qs) j r at =
      numbered-before (k + 1) (earlier ++ routine_with functions types earlier (numbers k) q ∷ []) qs j r (at-left earlier _ j r at)

  pub numbered-at : (k : ℕ) (earlier : List Routine) (qs : List ProcedureTree) (j : ℕ) (q : ProcedureTree) → slice_get qs j ≡ Some q →
      slice_get (numbered_routines functions types numbers k earlier qs) (length earlier + j)
      ≡ Some (routine_with functions types (numbered_routines functions types numbers k earlier (take j qs)) (numbers (k + j)) q)
  numbered-at k earlier [] j q at = absurd (none-some q at)
  numbered-at k earlier (p ∷ qs) zero q at =
      let r : Routine = routine_with functions types earlier (numbers k) p in
      numbered-before (k + 1) (earlier ++ r ∷ []) qs (length earlier + 0) r (at-right earlier (r ∷ []) 0 r refl)
      ∙ ap (λ x. Some (routine_with functions types earlier (numbers k) x)) (same_Some p q at)
      ∙ (let same : k ≡ k + 0 = omega arith in ap (λ n. Some (routine_with functions types earlier (numbers n) q)) same)
  numbered-at k earlier (p ∷ qs) (suc j) q at =
      let r : Routine = routine_with functions types earlier (numbers k) p in
      let place : length (earlier ++ r ∷ []) + j ≡ length earlier + suc j = omega (arith, length-append earlier (r ∷ [])) in
      let number : k + 1 + j ≡ k + suc j = omega arith in
      let behind = numbered_routines functions types numbers (k + 1) (earlier ++ r ∷ []) (take j qs) in
      subst (λ n. slice_get (numbered_routines functions types numbers (k + 1) (earlier ++ r ∷ []) qs) n
      ≡ Some (routine_with functions types behind (numbers (k + suc j)) q)) place
      (subst (λ n. slice_get (numbered_routines functions types numbers (k + 1) (earlier ++ r ∷ []) qs) (length (earlier ++ r ∷ []) + j)
      ≡ Some (routine_with functions types behind (numbers n) q)) number
      (numbered-at (k + 1) (earlier ++ r ∷ []) qs j q at))

-- ---- The procedures of children

-- how many procedures the first children offer
abbrev pub offered_before : ℕ → List ChildUse → ℕ
offered_before k us = sum_by (λ (u : ChildUse). length (header_functions u.header) + 3) (take k us)

functions-long : (u : ChildUse) (o : Offer) → IsOfferOf u.header o → length o.outs ≡ length (header_functions u.header)
functions-long u o is =
    length-zip Takes o.outs (out_heads u.header) is.outs
    ∙ length-map (range_with_len 1 (length (header_functions u.header))) (out_head u.header)
    ∙ length-range 1 (length (header_functions u.header))

offered-long : (u : ChildUse) (o : Offer) → IsOfferOf u.header o → length (offered_routines o) ≡ length (header_functions u.header) + 3
offered-long u o is =
    let outs = functions-long u o is in
    let made = length-map (o.outs ++ o.update ∷ o.start ∷ o.reset ∷ []) (λ (q : Offered). q.routine) in
    let both = length-append o.outs (o.update ∷ o.start ∷ o.reset ∷ []) in
    omega (arith, outs, made, both)

-- what is so far after the functions of a child: 0 is its update, 1 its start, 2 its reset
pub offered-at : (us : List ChildUse) (offers : List Offer) → AllZip (λ u o. IsOfferOf u.header o) us offers →
    (k : ℕ) (u : ChildUse) (o : Offer) → slice_get us k ≡ Some u → slice_get offers k ≡ Some o →
    (i : ℕ) (q : Offered) → slice_get (o.update ∷ o.start ∷ o.reset ∷ []) i ≡ Some q →
    slice_get (children_routines offers) (offered_before k us + length (header_functions u.header) + i) ≡ Some q.routine
offered-at [] offers are k u o at to i q is = absurd (none-some u at)
offered-at (v ∷ us) [] are k u o at to i q is = absurd are
offered-at (v ∷ us) (p ∷ offers) are zero u o at to i q is =
    let child : v ≡ u = same_Some v u at in
    let offer : p ≡ o = same_Some p o to in
    let long : length p.outs + i ≡ offered_before zero (v ∷ us) + length (header_functions u.header) + i =
    (let same = functions-long v p are.0 in let other = ap (λ (w : ChildUse). length (header_functions w.header)) child
    in omega (arith, same, other)) in
    subst (λ n. slice_get (children_routines (p ∷ offers)) n ≡ Some q.routine) long
    (at-left (offered_routines p) (children_routines offers) (length p.outs + i) q.routine
    (at-map (λ (q : Offered). q.routine) (p.outs ++ p.update ∷ p.start ∷ p.reset ∷ []) (length p.outs + i) q
    (at-right p.outs (p.update ∷ p.start ∷ p.reset ∷ []) i q
    (subst (λ (x : Offer). slice_get (x.update ∷ x.start ∷ x.reset ∷ []) i ≡ Some q) (sym offer) is))))
offered-at (v ∷ us) (p ∷ offers) are (suc k) u o at to i q is =
    let first = offered-long v p are.0 in
    let place : length (offered_routines p) + (offered_before k us + length (header_functions u.header) + i)
    ≡ offered_before (suc k) (v ∷ us) + length (header_functions u.header) + i =
    (let sum = sum_by-cons (λ (u : ChildUse). length (header_functions u.header) + 3) v (take k us) in omega (arith, first, sum)) in
    subst (λ n. slice_get (children_routines (p ∷ offers)) n ≡ Some q.routine) place
    (at-right (offered_routines p) (children_routines offers) (offered_before k us + length (header_functions u.header) + i) q.routine
    (offered-at us offers are.1 k u o at to i q is))
