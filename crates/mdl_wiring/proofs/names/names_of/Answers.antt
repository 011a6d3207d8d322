use Rattle.mdl_wiring.proofs.NameLemmas.{names-more}
use Rattle.mdl_wiring.proofs.names.names_of.Goals as goal

pub loop-place-preserved : goal.loop-place-preserved
loop-place-preserved c =
    names-more c.args.members.now c.loop-place.place _ c.loop-place.places c.take_name.new.places c.loop-place-test.true
    c.loop-place.invariant c.in_ok-take_name.ensures
