use Rattle.std.proofs.Common.{arith}
use Rattle.emit_layout.proofs.FieldPlaces.{has-fields, all-fit, place-within}
use Rattle.emit_layout.proofs.fields.Fields.ring.Goals as goal

pub overflow_mul-first : goal.overflow_mul-first
overflow_mul-first c =
    let i = c.self.inside in
    let self = c.args.self.now in
    let has = has-fields i self c.self.invariant c.self.view_is in
    let fit = all-fit self i.numbers.values i.numbers.singles i.numbers.lines i.numbers.counters has in
    let at = place-within i.numbers.lines c.args.b in
    omega (arith, fit, at)

pub overflow_add-first-2 : goal.overflow_add-first-2
overflow_add-first-2 c =
    let i = c.self.inside in
    let self = c.args.self.now in
    let has = has-fields i self c.self.invariant c.self.view_is in
    let fit = all-fit self i.numbers.values i.numbers.singles i.numbers.lines i.numbers.counters has in
    let at = place-within i.numbers.lines c.args.b in
    omega (arith, fit, at)

pub overflow_cast-items : goal.overflow_cast-items
overflow_cast-items c =
    let i = c.self.inside in
    let self = c.args.self.now in
    let has = has-fields i self c.self.invariant c.self.view_is in
    let fit = all-fit self i.numbers.values i.numbers.singles i.numbers.lines i.numbers.counters has in
    let at = place-within i.numbers.lines c.args.b in
    omega (arith, fit, at)

pub overflow_add-result : goal.overflow_add-result
overflow_add-result c =
    let i = c.self.inside in
    let self = c.args.self.now in
    let has = has-fields i self c.self.invariant c.self.view_is in
    let fit = all-fit self i.numbers.values i.numbers.singles i.numbers.lines i.numbers.counters has in
    let at = place-within i.numbers.lines c.args.b in
    omega (arith, fit, at)

pub overflow_add-result-2 : goal.overflow_add-result-2
overflow_add-result-2 c =
    let i = c.self.inside in
    let self = c.args.self.now in
    let has = has-fields i self c.self.invariant c.self.view_is in
    let fit = all-fit self i.numbers.values i.numbers.singles i.numbers.lines i.numbers.counters has in
    let at = place-within i.numbers.lines c.args.b in
    omega (arith, fit, at)
