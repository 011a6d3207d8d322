use Rattle.std.proofs.Common.{◌≡◌, ◌+◌, ◌-◌, ◌++◌, suc, List, length, map, sym, ap, ◌∙◌, append_assoc, arith}
use Rattle.std.specs.List.{range_with_len}
use Rattle.modules_certificate.specs.declared.certificate.Difference.{Difference}
use Rattle.modules_certificate.specs.Sound.{difference_of, differences_from}
use Rattle.modules_certificate.proofs.making.differences.Goals as goal

pub loop-first-preserved : goal.loop-first-preserved
loop-first-preserved c =
    let own : List Difference = map (difference_of c.args.needs.now c.args.representatives.now c.loop-first.first) (range_with_len
    (c.loop-first.first + 1) (length c.args.representatives.now - (c.loop-first.first + 1))) in
    let rest : List Difference = differences_from c.args.needs.now c.args.representatives.now (c.loop-first.first + 1)
    (length c.args.representatives.now - (c.loop-first.first + 1)) in
    let next : length c.args.representatives.now - c.loop-first.first ≡ suc (length c.args.representatives.now -
    (c.loop-first.first + 1)) = omega arith in
    ap (λ (xs : List Difference). xs ++ rest) c.in_ok-push_differences.ensures ∙ append_assoc c.loop-first.differ.items own rest
    ∙ ap (λ n. c.loop-first.differ.items ++ differences_from c.args.needs.now c.args.representatives.now c.loop-first.first n)
    (sym next) ∙ c.loop-first.invariant
