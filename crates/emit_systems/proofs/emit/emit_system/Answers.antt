use Rattle.std.proofs.Common.{◌≡◌, IfOk, subst, sym}
use Rattle.std.proofs.lemmas.Result.{IfOk-weaker}
use Rattle.right_claim.specs.SystemOk.{SystemOk}
use Rattle.emit_shape.specs.SystemTree.{system_tree}
use Rattle.emit_system_spec.specs.Emittable.{IsEmittable}
use Rattle.emit_system_spec.specs.EmittedCode.{system_code}
use Rattle.emit_layout.specs.Laid.{Laid}
use Rattle.emit_system.specs.Agreeing.{AgreeOnFunctions}
use Rattle.emit_systems.proofs.emit.emit_system.Goals as goal

pub layout_of-requires : goal.layout_of-requires
layout_of-requires c = c.emitted_is_emittable.ensures c.args.local.now c.args.profile.now c.args.schedule.now c.requires

pub code_of_system-requires-clause-emittable : goal.code_of_system-requires-clause-emittable
code_of_system-requires-clause-emittable c =
    subst (λ (of : Laid). IsEmittable of.local of.schedule) (sym c.in_ok-layout.ensures)
    (c.emitted_is_emittable.ensures c.args.local.now c.args.profile.now c.args.schedule.now c.requires)

pub code_of_system-requires-clause-agree : goal.code_of_system-requires-clause-agree
code_of_system-requires-clause-agree c =
    subst (λ (of : Laid). AgreeOnFunctions of.profile of.schedule) (sym c.in_ok-layout.ensures)
    (c.emitted_agree.ensures c.args.local.now c.args.profile.now c.args.schedule.now c.requires)

pub returns-clause-is : goal.returns-clause-is
returns-clause-is c =
    subst (λ (of : Laid). IfOk c.code_of_system.result (λ code. system_tree code ≡ system_code of.local of.profile of.schedule))
    c.in_ok-layout.ensures c.code_of_system.ensures

pub returns-clause-right : goal.returns-clause-right
returns-clause-right c =
    let local = c.args.local.now in
    let profile = c.args.profile.now in
    let code = system_code local profile c.args.schedule.now in
    let ok = c.emitted_code_is_ok.ensures local profile c.args.schedule.now c.requires in
    IfOk-weaker c.code_of_system.result (λ made. system_tree made ≡ code) (λ made. SystemOk local profile (system_tree made))
    (λ made same. subst (SystemOk local profile) (sym same) ok)
    (subst (λ (of : Laid). IfOk c.code_of_system.result (λ made. system_tree made ≡ system_code of.local of.profile of.schedule))
    c.in_ok-layout.ensures c.code_of_system.ensures)
