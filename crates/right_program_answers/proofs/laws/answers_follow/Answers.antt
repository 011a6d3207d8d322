use Rattle.right_program_answers.proofs.AnyOrder.{answers_follow}
use Rattle.right_program_answers.proofs.laws.answers_follow.Goals as goal

pub returns : goal.returns
returns c =
    answers_follow c.profiles_are_one.ensures c.header_is_of_own_rows.ensures c.budgets_sum_to_bound.ensures
