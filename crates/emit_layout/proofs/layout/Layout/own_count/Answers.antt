use Rattle.std.proofs.Common.{length, arith, ap, ◌∙◌}
use Rattle.modules_schedule.specs.SystemSchedule.{SystemSchedule}
use Rattle.emit_layout.specs.Laid.{Laid}
use Rattle.emit_layout.proofs.LaidTables.{has-tables, own-within}
use Rattle.emit_layout.proofs.layout.Layout.own_count.Goals as goal

pub overflow_add-result-2 : goal.overflow_add-result-2
overflow_add-result-2 c =
    let self = c.args.self.now in
    let has = has-tables c.self.inside self c.self.invariant c.self.view_is in
    let own = own-within self.local self.schedule has.emittable in
    let groups = c.len.ensures ∙ c.self.inside.tables.groups.ok.0 ∙ ap length has.groups in
    let functions = c.len-2.ensures ∙ c.schedule.inside.functions.ok.0
    ∙ ap (λ (s : SystemSchedule). length s.functions) (c.schedule.view_is ∙ c.schedule-schedule.ensures
    ∙ ap (λ (l : Laid). l.schedule) c.self.view_is) in
    omega (arith, own, groups, functions)

pub overflow_cast-result : goal.overflow_cast-result
overflow_cast-result c =
    let self = c.args.self.now in
    let has = has-tables c.self.inside self c.self.invariant c.self.view_is in
    let own = own-within self.local self.schedule has.emittable in
    let groups = c.len.ensures ∙ c.self.inside.tables.groups.ok.0 ∙ ap length has.groups in
    let functions = c.len-2.ensures ∙ c.schedule.inside.functions.ok.0
    ∙ ap (λ (s : SystemSchedule). length s.functions) (c.schedule.view_is ∙ c.schedule-schedule.ensures
    ∙ ap (λ (l : Laid). l.schedule) c.self.view_is) in
    omega (arith, own, groups, functions)
