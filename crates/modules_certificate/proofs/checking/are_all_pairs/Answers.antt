use Rattle.std.proofs.Common.{◌≡◌, ◌↔◌, ◌+◌, ◌-◌, map, subst, arith}
use Rattle.modules_certificate.specs.Sound.{pairs_from, positions}
use Rattle.std.proofs.lemmas.Bool.{false≢true}
use Rattle.modules_certificate.proofs.Pairs.{no-pairs, pairs-step}
use Rattle.modules_certificate.proofs.checking.are_all_pairs.Goals as goal

pub returns-in-None : goal.returns-in-None
returns-in-None c = (
  (λ h. absurd (false≢true h)),
  (λ e. absurd (no-pairs c.loop-first.rest.now c.loop-first.first (c.args.count - c.loop-first.first)
      (c.args.count - c.loop-first.first - 1) (omega arith) c.in-None.ensures (c.loop-first.invariant.0 e))),
)

pub loop-first-preserved : goal.loop-first-preserved
loop-first-preserved c =
    let step = pairs-step c.loop-first.rest.now c.in-Some.more.now c.loop-first.first (c.args.count - c.loop-first.first)
    (c.args.count - c.loop-first.first - 1) (omega arith) c.in-Some.ensures in
    let same : c.args.count - c.loop-first.first - 1 ≡ c.args.count - (c.loop-first.first + 1) = omega arith in
    let turned = subst (λ n. (map positions c.loop-first.rest.now ≡ pairs_from c.loop-first.first
    (c.args.count - c.loop-first.first)) ↔ (map positions c.in-Some.more.now ≡ pairs_from (c.loop-first.first + 1) n)) same step in
    ((λ e. turned.0 (c.loop-first.invariant.0 e)), (λ e. c.loop-first.invariant.1 (turned.1 e)))
