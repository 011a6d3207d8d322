use Rattle.std.proofs.Common.{rules, ◌∙◌, ◌+ℤ◌, FitsSigned, to_z, of_z, w64}
use Rattle.std.specs.Int.{w128}
use Rattle.std.proofs.lemmas.Int.{to_z-of_z}
use Rattle.emit_row_code.proofs.RangeSteps.{added_is, as_it_is, pair}
use Rattle.emit_row_code.proofs.ranges.added.Goals as goal

pub returns-in-Some-Some : goal.returns-in-Some-Some
returns-in-Some-Some c =
    let a = c.in-Some-Some.a in
    let b = c.in-Some-Some.b in
    let al : FitsSigned w64 a.least = search rules in
    let ag : FitsSigned w64 a.greatest = search rules in
    let bl : FitsSigned w64 b.least = search rules in
    let bg : FitsSigned w64 b.greatest = search rules in
    let low = as_it_is c.total-low.result (a.least +ℤ b.least) (search rules)
    (c.total-low.ensures ∙ pair ◌+ℤ◌ _ _ a.least b.least (to_z-of_z w64 a.least al) (to_z-of_z w64 b.least bl)) in
    let high = as_it_is c.total-high.result (a.greatest +ℤ b.greatest) (search rules)
    (c.total-high.ensures ∙ pair ◌+ℤ◌ _ _ a.greatest b.greatest (to_z-of_z w64 a.greatest ag) (to_z-of_z w64 b.greatest bg)) in
    added_is c.args.a c.args.b a b (to_z w128 (of_z w128 c.total-low.result)) (to_z w128 (of_z w128 c.total-high.result))
    c.range_from.result c.in-Some-Some.is-0 c.in-Some-Some.is-1 low high c.range_from.ensures
