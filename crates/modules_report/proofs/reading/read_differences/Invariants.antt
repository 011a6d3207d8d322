use Rattle.std.proofs.Common.{◌≡◌, ◌++◌, take}
use Rattle.std.specs.Prelude.{flat_map}
use Rattle.modules_report.specs.Texts.{differ_line}
use Rattle.modules_report.proofs.reading.read_differences.Given as goal

abbrev pub invariant-loop-d : goal.invariant-loop-d
invariant-loop-d l = l.text ≡ flat_map (differ_line l.ports) (take l.d-index l.differ) ++ l.rest
