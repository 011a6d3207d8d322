use Rattle.std.proofs.Common.{◌≡◌, ℕ, ◌-◌, List, Bor, map, drop, bytes_eq, ap, ◌∙◌, arith}
use Rattle.std.specs.List.{position_from}
use Rattle.std.proofs.lemmas.List.{length-map}
use Rattle.indexmap.specs.IndexMap.{get_by}
use Rattle.lustre_expressions.proofs.FirstPlaces.{tells-more}
use Rattle.lustre_expressions.proofs.places.places_of.Goals as goal

pub loop-place-preserved : goal.loop-place-preserved
loop-place-preserved c =
    let j = c.loop-place.place in
    let some = c.loop-place-test.true in
    let within = c.loop-place.auto.place in
    let count = length-map c.args.texts.now (λ (x : Bor (List ℕ)). x.now) in
    tells-more (map (λ x. x.now) c.args.texts.now) j (j - 1) c.in_ok-small.field-0 c.text_at-text.result.now
    c.deref_mut.result.now c.insert.new.self
    (omega (arith, some)) c.in_ok-small.ensures (omega (arith, some, within, count)) c.text_at-text.ensures
    (λ text. ap (λ m. get_by (λ k. bytes_eq text k.now) m) c.deref_mut.ensures.value ∙ c.loop-place.invariant text)
    c.in_ok-insert.ensures.updates

pub returns-clause-found : goal.returns-clause-found
returns-clause-found c text =
    let none : c.loop-place.place ≡ 0 = let past = c.loop-place-test.false in omega (arith, past) in
    c.loop-place.invariant text
    ∙ ap (λ i. position_from (bytes_eq text) i (drop i (map (λ (x : Bor (List ℕ)). x.now) c.args.texts.now))) none
