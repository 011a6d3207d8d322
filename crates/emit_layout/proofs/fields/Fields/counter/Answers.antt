use Rattle.std.proofs.Common.{arith, length, sym, ap, ◌∙◌}
use Rattle.emit_layout.specs.Laid.{Scheduled}
use Rattle.emit_layout.proofs.FieldPlaces.{has-fields, all-fit, place-at, trigger-is}
use Rattle.emit_layout.proofs.fields.Fields.counter.Goals as goal

pub overflow_cast-result : goal.overflow_cast-result
overflow_cast-result c =
    let i = c.self.inside in
    let self = c.args.self.now in
    let has = has-fields i self c.self.invariant c.self.view_is in
    let fit = all-fit self i.numbers.values i.numbers.singles i.numbers.lines i.numbers.counters has in
    let behind = trigger-is self i.numbers.values i.numbers.singles i.numbers.lines i.numbers.counters has in
    let at = place-at i.numbers.counters c.args.group c.in-Some.place (sym c.place.ensures ∙ c.in-Some.is) in
    let same = ap (λ (s : Scheduled). length s.local.children) c.self.view_is in
    omega (arith, fit, behind, at, same)

pub overflow_add-result : goal.overflow_add-result
overflow_add-result c =
    let i = c.self.inside in
    let self = c.args.self.now in
    let has = has-fields i self c.self.invariant c.self.view_is in
    let fit = all-fit self i.numbers.values i.numbers.singles i.numbers.lines i.numbers.counters has in
    let behind = trigger-is self i.numbers.values i.numbers.singles i.numbers.lines i.numbers.counters has in
    let at = place-at i.numbers.counters c.args.group c.in-Some.place (sym c.place.ensures ∙ c.in-Some.is) in
    let same = ap (λ (s : Scheduled). length s.local.children) c.self.view_is in
    omega (arith, fit, behind, at, same)
