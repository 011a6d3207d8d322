use Rattle.std.proofs.Common.{◌≡◌, take}
use Rattle.std.specs.Prelude.{flat_map}
use Rattle.std.specs.String.{string_bytes}
use Rattle.modules_report.specs.Texts.{system_text}
use Rattle.modules_report.proofs.printing.print_report.Given as goal

abbrev pub invariant-loop-report : goal.invariant-loop-report
invariant-loop-report l = string_bytes l.out ≡ flat_map system_text (take l.report-index l.r)
