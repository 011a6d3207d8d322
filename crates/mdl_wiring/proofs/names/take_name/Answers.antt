use Rattle.std.proofs.Common.{sym, ◌∙◌}
use Rattle.mdl_wiring.proofs.NameLemmas.{taken-new, taken-again}
use Rattle.mdl_wiring.proofs.names.take_name.Goals as goal

pub returns-in_ok-insert-in-Some : goal.returns-in_ok-insert-in-Some
returns-in_ok-insert-in-Some c =
    taken-again c.args.places.now c.insert.new.self c.insert-in-Some.new.self c.args.name.now c.args.place
    c.in-Some.first (sym c.in-Some.is ∙ c.in_ok-first.ensures.old)
    c.in_ok-first.ensures.updates c.in_ok-insert-in-Some.ensures.updates

pub returns-in-None : goal.returns-in-None
returns-in-None c =
    taken-new c.args.places.now c.insert.new.self c.args.name.now c.args.place (sym c.in-None.is
    ∙ c.in_ok-first.ensures.old) c.in_ok-first.ensures.updates
