-- Worked lines of refusals.
use Rattle.std.specs.Prelude.{◌≡◌, refl, [], ◌∷◌, codes}
use Rattle.std.specs.Fmt.{digits}
use Rattle.base_refusals.specs.declared.refusal.SyntaxKind.TheVariants.{OpenString}
use Rattle.base_refusals.specs.declared.refusal.ModelKind.TheVariants.{Library}
use Rattle.base_refusals.specs.declared.refusal.Many.TheVariants.{Blocks}
use Rattle.base_refusals.specs.declared.refusal.CycleWhat.TheVariants.{Period}
use Rattle.base_core.specs.declared.base.Port.TheVariants.{Number, Enable, Trigger}
use Rattle.base_core.specs.declared.base.ParamName.TheVariants.{SampleTime, DelayLength}
use Rattle.base_refusals.specs.declared.refusal.TypeWhy.TheVariants.{Unlike}
use Rattle.base_refusals.specs.Refusals.{TooLong, Syntax, NoModel, TwoModels, TooMany, Unsupported, Parameter, Unconnected, NoType, TooWide, LongCycle, RateRatio, Loop, LongDelays, Continuous, refusal_line}

line-too_long : refusal_line TooLong ≡ codes "refused F1 TooLong\n"
line-too_long = refl

line-syntax : refusal_line (Syntax 2 OpenString) ≡ codes "refused F2 Syntax line 2 OpenString\n"
unfolding digits
line-syntax = refl

line-two_models : refusal_line (TwoModels 1 Library) ≡ codes "refused F4 TwoModels line 1 Library\n"
unfolding digits
line-two_models = refl

line-too_many : refusal_line (TooMany 80003 Blocks 20001)
    ≡ codes "refused F6 TooMany line 80003 Blocks 20001\n"
unfolding digits
line-too_many = refl

line-continuous : refusal_line (Continuous 5) ≡ codes "refused F15 Continuous line 5\n"
unfolding digits
line-continuous = refl

line-unconnected : refusal_line (Unconnected 7 Enable)
    ≡ codes "refused F13 Unconnected line 7 port enable\n"
unfolding digits
line-unconnected = refl

line-too_wide : refusal_line (TooWide 9 64) ≡ codes "refused F19 TooWide line 9 bits 64\n"
unfolding digits
line-too_wide = refl

line-long_cycle : refusal_line (LongCycle 12 Period 1000003)
    ≡ codes "refused F21 LongCycle line 12 Period 1000003\n"
unfolding digits
line-long_cycle = refl

line-rate_ratio : refusal_line (RateRatio 8 2 3) ≡ codes "refused F22 RateRatio line 8 in 2 out 3\n"
unfolding digits
line-rate_ratio = refl

line-loop : refusal_line (Loop (record { row = 1; line = 9 } ∷ record { row = 2; line = 14 } ∷ []))
    ≡ codes "refused F23 Loop 9 14\n"
unfolding digits
line-loop = refl

line-no_model : refusal_line (NoModel 0) ≡ codes "refused F3 NoModel line 0\n"
unfolding digits
line-no_model = refl

line-unsupported : refusal_line (Unsupported 11) ≡ codes "refused F7 Unsupported line 11\n"
unfolding digits
line-unsupported = refl

line-parameter : refusal_line (Parameter 5 SampleTime)
    ≡ codes "refused F8 Parameter line 5 SampleTime\n"
unfolding digits
line-parameter = refl

line-unconnected_number : refusal_line (Unconnected 7 (Number 2))
    ≡ codes "refused F13 Unconnected line 7 port 2\n"
unfolding digits
line-unconnected_number = refl

line-no_type : refusal_line (NoType 9 Unlike) ≡ codes "refused F17 NoType line 9 Unlike\n"
unfolding digits
line-no_type = refl

line-long_delays : refusal_line (LongDelays 99 1048560)
    ≡ codes "refused F24 LongDelays line 99 total 1048560\n"
unfolding digits
line-long_delays = refl

line-delay_length : refusal_line (Parameter 5 DelayLength)
    ≡ codes "refused F8 Parameter line 5 DelayLength\n"
unfolding digits
line-delay_length = refl

line-unconnected_trigger : refusal_line (Unconnected 7 Trigger)
    ≡ codes "refused F13 Unconnected line 7 port trigger\n"
unfolding digits
line-unconnected_trigger = refl
