use Rattle.std.proofs.Common.{append_assoc}
use Rattle.modules_report.specs.Texts.{counts_text}
use Rattle.modules_report.proofs.lines.push_counts.Goals as goal

pub returns : goal.returns
unfolding counts_text
returns c = rw (append_assoc, append_assoc, append_assoc, append_assoc) c.in_ok-write.ensures.bytes
