use Rattle.std.proofs.Common.{◌≡◌, ℕ, ◌++◌, take}
use Rattle.std.specs.Prelude.{flat_map}
use Rattle.std.specs.List.{enumerate_from}
use Rattle.std.specs.String.{string_bytes}
use Rattle.modules_profile.specs.declared.Function.{Function}
use Rattle.modules_report.specs.Texts.{out_line}
use Rattle.modules_report.proofs.printing.push_functions.Given as goal

abbrev pub invariant-loop-k : goal.invariant-loop-k
invariant-loop-k l =
    string_bytes l.out ≡ string_bytes l.fn.out ++ flat_map (λ (f : ℕ × Function). out_line l.ports l.outputs f.0 f.1)
    (enumerate_from 1 (take l.k l.functions))
