use Rattle.std.proofs.Common.{◌≡◌, ◌<◌, length, unwrap_or, ap, ◌∙◌, arith}
use Rattle.std.specs.List.{position_from}
use Rattle.modules_profile.specs.declared.profile.Function.{Function}
use Rattle.modules_profile.specs.SystemProfile.{SystemProfile}
use Rattle.base_core.specs.Ports.{has_bit}
use Rattle.emit_schedules.proofs.GivenFunctions.{few-places}
use Rattle.emit_schedules.proofs.functions.giving_function.Goals as goal

pub overflow_cast-result : goal.overflow_cast-result
overflow_cast-result c =
    let place = c.unwrap_or.ensures ∙ ap (λ o. unwrap_or o 0) c.first_giving.ensures in
    let many : length c.as_slice.result.now ≡ length c.args.profile.now.functions =
    ap length c.as_slice.ensures.value ∙ ap (λ (p : SystemProfile). length p.functions) c.profile.view_is in
    let few = c.requires.few in
    let low : unwrap_or (position_from (λ (f : Function). has_bit f.outputs c.args.output) 0 c.as_slice.result.now) 0 < 32 =
    few-places (λ (f : Function). has_bit f.outputs c.args.output) 0 32 c.as_slice.result.now (omega (arith, many, few)) (omega arith) in
    omega (arith, place, low)

pub returns-clause-few : goal.returns-clause-few
returns-clause-few c =
    let place = c.unwrap_or.ensures ∙ ap (λ o. unwrap_or o 0) c.first_giving.ensures in
    let many : length c.as_slice.result.now ≡ length c.args.profile.now.functions =
    ap length c.as_slice.ensures.value ∙ ap (λ (p : SystemProfile). length p.functions) c.profile.view_is in
    let few = c.requires.few in
    let low : unwrap_or (position_from (λ (f : Function). has_bit f.outputs c.args.output) 0 c.as_slice.result.now) 0 < 32 =
    few-places (λ (f : Function). has_bit f.outputs c.args.output) 0 32 c.as_slice.result.now (omega (arith, many, few)) (omega arith) in
    omega (arith, place, low)
