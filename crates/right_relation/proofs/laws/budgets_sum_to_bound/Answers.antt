use Rattle.right_relation.proofs.lemmas.BudgetSums as proof
use Rattle.right_relation.proofs.laws.budgets_sum_to_bound.Goals as goal

pub returns : goal.returns
returns c = proof.budgets_sum_to_bound c.header_is_of_own_rows.ensures
