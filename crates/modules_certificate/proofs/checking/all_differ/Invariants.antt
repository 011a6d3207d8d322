use Rattle.std.proofs.Common.{ℕ, ◌<◌, get_or}
use Rattle.modules_certificate.specs.Sound.{IsDifference}
use Rattle.modules_certificate.specs.declared.certificate.Difference.{Difference}
use Rattle.modules_certificate.proofs.checking.all_differ.Given as goal

abbrev pub invariant-loop-d : goal.invariant-loop-d
invariant-loop-d l = (k : ℕ) (d : Difference) → k < l.d-index → IsDifference l.needs l.representatives (get_or l.differ k d)
