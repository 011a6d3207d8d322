use Rattle.std.proofs.Common.{◌≡◌, length}
use Rattle.base_core.specs.Bytes.{is_blank, drop_while}
use Rattle.base_core.proofs.bytes.trim_start.Given as goal

abbrev pub invariant-loop-rest : goal.invariant-loop-rest
invariant-loop-rest l = drop_while is_blank l.rest ≡ drop_while is_blank l.fn.bytes

abbrev pub decreases-loop-rest : goal.decreases-loop-rest
decreases-loop-rest l = length l.rest
