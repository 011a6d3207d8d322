use Rattle.std.proofs.Common.{refl, sym, true≢false, arith}
use Rattle.base_fixed_point.proofs.lemmas.GainLaws.{constant_is, constant_none}
use Rattle.base_fixed_point.proofs.constants.gain_constant.Goals as goal

pub returns-in-Some-clause-constant : goal.returns-in-Some-clause-constant
returns-in-Some-clause-constant c =
    constant_is 32 c.args.d.now c.in-Some.constant (omega arith) c.in-Some.ensures
    (λ g h k. absurd (omega (arith, h, k)))

pub returns-in-Some-clause-none : goal.returns-in-Some-clause-none
returns-in-Some-clause-none c =
    let is = constant_is 32 c.args.d.now c.in-Some.constant (omega arith) c.in-Some.ensures (λ g h k. absurd (omega (arith, h, k))) in
    (λ e. absurd (true≢false (sym e)), λ none. absurd (none is.top is.bound is.fits))

pub returns-in-None-clause-none : goal.returns-in-None-clause-none
returns-in-None-clause-none c = (λ _ g h. constant_none 32 c.args.d.now _ c.in-None.ensures g (omega (arith, h)), λ _. refl)
