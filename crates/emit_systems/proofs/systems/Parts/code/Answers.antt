use Rattle.std.proofs.lemmas.Result.{IfOk-weaker}
use Rattle.diagram_meaning.specs.Nested.{row_of, system_of}
use Rattle.right_claim.specs.Assembly.{IsCodeOf}
use Rattle.right_claim.specs.SystemOk.{SystemOk}
use Rattle.emit_shape.specs.SystemTree.{system_tree}
use Rattle.emit_system_spec.proofs.lemmas.Emittable.{few-functions}
use Rattle.emit_systems.proofs.SystemSteps.{few-outputs, is-emitted, is-code}
use Rattle.emit_systems.proofs.systems.Parts.code.Goals as goal

pub schedule_of_system-requires-clause-outputs : goal.schedule_of_system-requires-clause-outputs
schedule_of_system-requires-clause-outputs c =
    few-outputs c.args.r.now (row_of (system_of c.args.s.now)) c.args.self.now.local.now c.requires.local c.is_resolved.ensures

pub schedule_of_system-requires-clause-few : goal.schedule_of_system-requires-clause-few
schedule_of_system-requires-clause-few c =
    few-functions c.args.r.now c.is_resolved.ensures (row_of (system_of c.args.s.now)) c.requires.local.headers
    c.requires.local.are_headers c.args.self.now.profile.now c.requires.profile

pub emit_system-requires : goal.emit_system-requires
emit_system-requires c =
    is-emitted c.args.r.now (row_of (system_of c.args.s.now)) c.args.self.now.local.now c.requires.local
    c.args.self.now.profile.now c.in_ok-schedule.schedule c.is_resolved.ensures c.requires.no_loop c.requires.listed c.requires.profile c.in_ok-schedule.ensures

pub returns : goal.returns
returns c =
    let s = row_of (system_of c.args.s.now) in
    let local = c.args.self.now.local.now in
    let own = c.args.self.now.profile.now in
    IfOk-weaker c.emit_system.result (λ code. SystemOk local own (system_tree code))
    (λ code. IsCodeOf c.args.r.now s (system_tree code))
    (λ code ok. is-code c.args.r.now s local c.requires.local own (system_tree code) c.requires.profile ok)
    c.emit_system.ensures.right
