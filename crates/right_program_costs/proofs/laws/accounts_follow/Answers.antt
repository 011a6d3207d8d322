use Rattle.right_program_costs.proofs.WholeAccounts.{accounts_follow}
use Rattle.right_program_costs.proofs.laws.accounts_follow.Goals as goal

pub returns : goal.returns
returns c = accounts_follow c.fields_have_places.ensures c.children_meet_their_ticks.ensures c.locals_are_lawful.ensures
