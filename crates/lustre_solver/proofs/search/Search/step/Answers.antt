use Rattle.std.proofs.Common.{◌≡◌, ◌-◌, Some, ap, ◌∙◌, rules, SFits, w64}
use Rattle.std.specs.List.{slice_set}
use Rattle.std.proofs.Math.Facts.{to_z-of_z}
use Rattle.lustre_solver.specs.Searching.{searching}
use Rattle.lustre_solver.proofs.Stepping.{give_step, step_room, enter_step, wait_step, never_step, fail_step}
use Rattle.lustre_solver.proofs.search.Search.step.Goals as goal

pub enter-requires-clause-room : goal.enter-requires-clause-room
enter-requires-clause-room c =
    step_room c.args.frame.now (searching c.args.self.now) c.requires.search c.requires.some c.index-slot.result.now c.index-slot.ensures
    c.in-Err-Waits.other c.deref.result.now c.is_new.result c.deref.ensures.value
    (rw c.in-Err-Waits.field-0-is at c.in-Err-Waits.ensures.waits) c.is_new.ensures c.if-is_new.true

pub returns-in-Ok : goal.returns-in-Ok
returns-in-Ok c =
    let s = searching c.args.self.now in
    let fits : SFits w64 c.in-Ok.value = search rules in
    let after : searching c.give.new.self ≡ record {
      now = slice_set s.now c.index-slot.result.now (Some c.in-Ok.value);
      tried = s.tried;
      waiting = s.waiting;
      depth = s.depth - 1;
    } = c.give.ensures
    ∙ ap (λ v. record {
      now = slice_set s.now c.index-slot.result.now (Some v);
      tried = s.tried;
      waiting = s.waiting;
      depth = s.depth - 1;
    }) (to_z-of_z fits) in
    let step = give_step c.args.frame.now s c.requires.search c.requires.some c.index-slot.result.now
    c.index-slot.ensures c.in-Ok.value c.deref.result.now (searching c.give.new.self) c.deref.ensures.value c.in-Ok.ensures.outcome
    after in
    record { search = step.search; on = step.on; nearer = step.nearer }

pub returns-then-is_new : goal.returns-then-is_new
returns-then-is_new c =
    let step = enter_step c.args.frame.now (searching c.args.self.now) c.requires.search c.requires.some c.index-slot.result.now
    c.index-slot.ensures c.in-Err-Waits.other c.deref.result.now c.is_new.result (searching c.enter.new.self) c.deref.ensures.value
    (rw c.in-Err-Waits.field-0-is at c.in-Err-Waits.ensures.waits) c.is_new.ensures c.if-is_new.true c.enter.ensures in
    record { search = step.search; on = step.on; nearer = step.nearer }

pub returns-else-is_new : goal.returns-else-is_new
returns-else-is_new c =
    let step = wait_step c.args.frame.now (searching c.args.self.now) c.requires.search c.requires.some c.index-slot.result.now
    c.index-slot.ensures c.in-Err-Waits.other c.deref.result.now c.is_new.result c.deref.ensures.value
    (rw c.in-Err-Waits.field-0-is at c.in-Err-Waits.ensures.waits) c.is_new.ensures c.if-is_new.false in
    record { search = step.search; on = step.on; nearer = step.nearer }

pub returns-in-Err-Never : goal.returns-in-Err-Never
returns-in-Err-Never c =
    let step = never_step c.args.frame.now (searching c.args.self.now) c.requires.search c.requires.some c.index-slot.result.now
    c.index-slot.ensures c.deref.result.now c.deref.ensures.value
    (rw c.in-Err-Never.field-0-is at c.in-Err-Never.ensures.waits) in
    record { search = step.search; on = step.on; nearer = step.nearer }

pub returns-in-Err-Fails : goal.returns-in-Err-Fails
returns-in-Err-Fails c =
    let step = fail_step c.args.frame.now (searching c.args.self.now) c.requires.search c.requires.some c.index-slot.result.now
    c.index-slot.ensures _ c.deref.result.now c.deref.ensures.value
    (rw c.in-Err-Fails.field-0-is at c.in-Err-Fails.ensures.outcome) in
    record { search = step.search; on = step.on; nearer = step.nearer }
