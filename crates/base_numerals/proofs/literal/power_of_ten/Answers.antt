use Rattle.std.proofs.Common.{subst, sym, ◌<◌, ◌≤◌, ◌^◌}
use Rattle.base_numerals.proofs.lemmas.NumberBounds.{powers, power_pos}
use Rattle.base_numerals.proofs.literal.power_of_ten.Goals as goal

pub returns-clause-some : goal.returns-clause-some
returns-clause-some c = subst (λ n. 0 < n) (sym c.pow.ensures) (power_pos c.args.exponent)

pub returns-clause-bound : goal.returns-clause-bound
returns-clause-bound c = subst (λ n. n ≤ 10 ^ 18) (sym c.pow.ensures) (powers c.args.exponent c.requires)
