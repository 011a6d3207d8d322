use Rattle.std.proofs.Common.{ℕ}
use Rattle.std.specs.String.{string_bytes}
use Rattle.modules_profile.specs.declared.Function.{Function}
use Rattle.modules_report.specs.Texts.{out_line}
use Rattle.modules_report.proofs.Words.{numbered_lines-more}
use Rattle.modules_report.proofs.printing.push_functions.Goals as goal

abbrev none : Function
none = record { inputs = 0; outputs = 0 }

pub loop-k-preserved : goal.loop-k-preserved
loop-k-preserved c =
    numbered_lines-more (λ (f : ℕ × Function). out_line c.args.ports.now c.args.outputs f.0 f.1) (string_bytes c.args.out.now)
    (string_bytes c.loop-k.out) (string_bytes c.push_out_line.new.out)
    c.args.functions.now c.loop-k.k none c.loop-k-test.true c.loop-k.invariant c.in_ok-push_out_line.ensures
