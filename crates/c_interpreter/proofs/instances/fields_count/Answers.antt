use Rattle.std.proofs.Common.{arith, ◌+◌}
use Rattle.c_interpreter.proofs.Numbered.{count_more, count_within}
use Rattle.c_interpreter.proofs.instances.fields_count.Goals as goal

pub returns-in_err-count-clause-too_many : goal.returns-in_err-count-clause-too_many
returns-in_err-count-clause-too_many c =
    let more = count_more c.args.counts.now c.args.fields.now c.loop-field.field-index c.field-item.result (omega arith) c.field-item.is in
    let all = count_within c.args.counts.now c.args.fields.now (c.loop-field.field-index + 1) in
    rw c.from_residual.ensures (omega (arith, c.in_err-count.ensures, c.loop-field.invariant, c.kind_count.ensures))
