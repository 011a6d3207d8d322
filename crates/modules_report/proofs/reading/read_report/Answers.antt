use Rattle.std.proofs.Common.{refl, rules, take}
use Rattle.modules_report.proofs.Stopping.{form-fault}
use Rattle.modules_report.proofs.reading.read_report.Goals as goal

pub returns-in-Err-Left-clause-form : goal.returns-in-Err-Left-clause-form
returns-in-Err-Left-clause-form c =
    form-fault c.args.bytes.now (take c.saturating_sub-before.result c.args.bytes.now) c.in-Err-Left.left
    c.saturating_sub-before.result c.line_behind.result
    (search rules) (search rules) refl c.line_behind.ensures
