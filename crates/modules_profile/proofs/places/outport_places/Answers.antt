use Rattle.std.proofs.Common.{ℕ, ◌+◌, ◌++◌, List, sym, ap, ◌∙◌}
use Rattle.std.specs.List.{filter_map, range_with_len}
use Rattle.std.specs.Option.{option_to_list}
use Rattle.std.proofs.lemmas.List.{append-nil}
use Rattle.modules_profile.specs.Places.{place_with}
use Rattle.modules_profile.proofs.Found.{found-more, none-from}
use Rattle.modules_profile.proofs.places.outport_places.Goals as goal
use Rattle.modules_profile.proofs.places.outport_places.Goals.{in-Some+in_ok-push, in_default}

pub loop-k-preserved : goal.loop-k-preserved
loop-k-preserved c =
    let ported = c.in_ok-outports.outports.items in
    let k = c.loop-k.k in
    let told = c.place_of.ensures ∙ ap (λ (es : List (ℕ × ℕ)). place_with es (k + 1)) c.deref.ensures.value in
    let step =
    ap (λ l. l ++ option_to_list c.place_of.result) c.loop-k.invariant
    ∙ ap (λ o. filter_map (place_with ported) (range_with_len 1 k) ++ option_to_list o) told
    ∙ sym (found-more (place_with ported) k) in
    elim c.match-place_of.branch [
      | in-Some+in_ok-push w ↦ ap (λ v. v.items) w.places-is ∙ w.in_ok-push.ensures.items
          ∙ ap (λ o. c.loop-k.places.items ++ option_to_list o) (sym w.in-Some.is) ∙ step
      | in_default w ↦ ap (λ v. v.items) w.places-is ∙ sym (append-nil c.loop-k.places.items)
          ∙ ap (λ o. c.loop-k.places.items ++ option_to_list o) (sym (none-from c.place_of.result w.in_default.not-Some)) ∙ step
    ]
