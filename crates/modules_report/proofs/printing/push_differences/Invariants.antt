use Rattle.std.proofs.Common.{◌≡◌, ◌++◌, take}
use Rattle.std.specs.Prelude.{flat_map}
use Rattle.std.specs.String.{string_bytes}
use Rattle.modules_report.specs.Texts.{differ_line}
use Rattle.modules_report.proofs.printing.push_differences.Given as goal

abbrev pub invariant-loop-d : goal.invariant-loop-d
invariant-loop-d l = string_bytes l.out ≡ string_bytes l.fn.out ++ flat_map (differ_line l.ports) (take l.d-index l.differ)
