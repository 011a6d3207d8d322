use Rattle.std.proofs.Common.{arith}
use Rattle.emit_layout.proofs.FieldPlaces.{has-fields, all-fit, place-within}
use Rattle.emit_layout.proofs.fields.Fields.memory.Goals as goal

pub overflow_add-result : goal.overflow_add-result
overflow_add-result c =
    let i = c.self.inside in
    let self = c.args.self.now in
    let has = has-fields i self c.self.invariant c.self.view_is in
    let fit = all-fit self i.numbers.values i.numbers.singles i.numbers.lines i.numbers.counters has in
    let at = place-within i.numbers.singles c.args.b in
    omega (arith, fit, at)

pub overflow_cast-result : goal.overflow_cast-result
overflow_cast-result c =
    let i = c.self.inside in
    let self = c.args.self.now in
    let has = has-fields i self c.self.invariant c.self.view_is in
    let fit = all-fit self i.numbers.values i.numbers.singles i.numbers.lines i.numbers.counters has in
    let at = place-within i.numbers.singles c.args.b in
    omega (arith, fit, at)
