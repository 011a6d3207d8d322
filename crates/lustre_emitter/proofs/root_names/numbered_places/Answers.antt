use Rattle.std.proofs.Common.{[], ap, ◌∙◌}
use Rattle.lustre_expressions.specs.Found.{place_in}
use Rattle.lustre_emitter.proofs.Roots.{numbered-next}
use Rattle.lustre_emitter.proofs.root_names.numbered_places.Goals as goal

pub loop-k-preserved : goal.loop-k-preserved
loop-k-preserved c =
    let place = place_in c.args.places.now in
    numbered-next place c.args.outputs c.loop-k.k [] c.loop-k.found.items c.push.new.self.items c.place.result c.loop-k.invariant
    c.in_ok-push.ensures.items (c.place.ensures ∙ ap place (c.bytes.ensures ∙ c.in_ok-text.ensures))
