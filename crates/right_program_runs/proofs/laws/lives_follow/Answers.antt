use Rattle.right_program_runs.proofs.LivingSystems.{lives_follow}
use Rattle.right_program_runs.proofs.laws.lives_follow.Goals as goal

pub returns : goal.returns
returns c =
    lives_follow c.ticks_are_local.ensures c.ticks_are_typed.ensures c.ticks_follow.ensures c.cycle_is_of_locals.ensures
    c.children_meet_their_ticks.ensures c.next_stands.ensures c.first_stands.ensures c.offers_are_of_headers.ensures
    c.systems_have_places.ensures c.fields_have_places.ensures
