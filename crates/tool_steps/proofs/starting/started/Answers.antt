use Rattle.std.proofs.Common.{rules}
use Rattle.c_checked.specs.Checked.{IsChecked}
use Rattle.tool_steps.proofs.Starts.{starts}
use Rattle.tool_steps.proofs.starting.started.Goals as goal

pub returns-in-Ok-new-clause-started : goal.returns-in-Ok-new-clause-started
returns-in-Ok-new-clause-started c =
    let right : IsChecked c.in-Ok.checked = search rules in
    starts c.args.bytes.now c.in-Ok.checked c.in-Ok-new.machine right c.in-Ok.ensures.read c.in-Ok-new.ensures.started
