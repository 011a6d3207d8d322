use Rattle.std.proofs.Common.{◌≡◌, ◌+◌, ℕ, get_or, ap, arith}
use Rattle.std.proofs.lemmas.Bool.{false≢true}
use Rattle.modules_certificate.specs.declared.certificate.Difference.{Difference}
use Rattle.modules_certificate.proofs.Pairs.{pairs-at, pairs-more}
use Rattle.modules_certificate.proofs.checking.are_pairs.Goals as goal
use Rattle.modules_certificate.proofs.checking.are_pairs.Goals.{then-from-first-via-then-from-first, then-from-first-via-else-from-first+then-from-first-2}

abbrev none : Difference
none = record { first = 0; second = 0; bit = 0 }

pub returns-then-from-first : goal.returns-then-from-first
returns-then-from-first c = (
  (λ h. absurd (false≢true h)),
  (λ are.
      let at = pairs-at c.args.differ.now c.args.first c.loop-k.k none c.loop-k-test.true are in
      let left : (get_or c.args.differ.now c.loop-k.k none).first ≡ c.args.first = ap (λ (pair : ℕ × ℕ). pair.0) at in
      let right : (get_or c.args.differ.now c.loop-k.k none).second ≡ c.args.first + 1 + c.loop-k.k = ap (λ (pair : ℕ × ℕ). pair.1) at in
      absurd (elim c.then-from-first.branch [
        | then-from-first-via-then-from-first w ↦ omega arith
        | then-from-first-via-else-from-first+then-from-first-2 w ↦ omega arith
      ])),
)

pub loop-k-preserved : goal.loop-k-preserved
loop-k-preserved c = pairs-more c.args.differ.now c.args.first c.loop-k.k none c.loop-k-test.true c.loop-k.invariant (omega arith)
    (omega arith)
