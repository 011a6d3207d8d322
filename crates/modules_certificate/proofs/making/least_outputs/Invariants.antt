use Rattle.std.proofs.Common.{◌≡◌, ◌==◌, not, filter, take, get_or}
use Rattle.std.specs.List.{list_any, range_with_len}
use Rattle.modules_certificate.proofs.making.least_outputs.Given as goal

abbrev pub invariant-loop-output : goal.invariant-loop-output
invariant-loop-output l =
    l.outputs.items ≡ filter (λ o. not (list_any (λ n. n == get_or l.needs o 0) (take o l.needs))) (range_with_len 0 l.output)
