use Rattle.std.proofs.Common.{◌≡◌, ◌++◌, length}
use Rattle.std.specs.Prelude.{All}
use Rattle.modules_profile.specs.declared.Function.{Function}
use Rattle.modules_report.specs.Following.{CanComeFirst}
use Rattle.modules_report.specs.Heads.{head_ports}
use Rattle.modules_report.specs.Reports.{IsSetOf}
use Rattle.modules_report.specs.Texts.{out_lines}
use Rattle.modules_report.proofs.reading.read_functions.Given as goal

abbrev pub invariant-loop-k : goal.invariant-loop-k
invariant-loop-k l = record {
  text : l.text ≡ out_lines l.ports l.head.outputs 1 l.functions.items ++ l.rest;
  len : length l.functions.items ≡ l.k;
  sets : All (λ (f : Function). IsSetOf (head_ports l.head) f.inputs) l.functions.items;
  first : CanComeFirst l.head.outputs l.head.functions l.functions.items;
}
