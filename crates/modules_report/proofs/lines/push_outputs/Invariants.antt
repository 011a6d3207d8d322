use Rattle.std.proofs.Common.{◌≡◌, ◌-◌, ◌++◌, map, filter}
use Rattle.std.specs.Prelude.{decimal}
use Rattle.std.specs.List.{range_with_len}
use Rattle.std.specs.String.{string_bytes}
use Rattle.base_core.specs.Ports.{has_bit}
use Rattle.modules_report.specs.Texts.{spaced}
use Rattle.modules_report.proofs.Words.{has_word}
use Rattle.modules_report.proofs.lines.push_outputs.Given as goal

abbrev pub invariant-loop-k : goal.invariant-loop-k
invariant-loop-k l =
    (string_bytes l.out ≡ string_bytes l.fn.out ++ spaced (map decimal (filter (λ k. has_bit l.mask (k - 1)) (range_with_len 1
    (l.k-counter - 1)))))
    × (l.any ≡ has_word (map decimal (filter (λ k. has_bit l.mask (k - 1)) (range_with_len 1 (l.k-counter - 1)))))
