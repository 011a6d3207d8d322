use Rattle.std.proofs.Common.{rules, ◌∙◌, ◌*ℤ◌, FitsSigned, to_z, of_z, w64}
use Rattle.std.specs.Int.{int_min, int_max, w128}
use Rattle.std.proofs.lemmas.Int.{to_z-of_z}
use Rattle.emit_row_code.proofs.RangeSteps.{multiplied_is, as_it_is, pair}
use Rattle.emit_row_code.proofs.ranges.multiplied.Goals as goal

pub returns-in-Some-Some : goal.returns-in-Some-Some
returns-in-Some-Some c =
    let a = c.in-Some-Some.a in
    let b = c.in-Some-Some.b in
    let al : FitsSigned w64 a.least = search rules in
    let ag : FitsSigned w64 a.greatest = search rules in
    let bl : FitsSigned w64 b.least = search rules in
    let bg : FitsSigned w64 b.greatest = search rules in
    let p = a.least *ℤ b.least in
    let q = a.least *ℤ b.greatest in
    let r = a.greatest *ℤ b.least in
    let s = a.greatest *ℤ b.greatest in
    let w = as_it_is c.product-w.result p (search rules)
    (c.product-w.ensures ∙ pair ◌*ℤ◌ _ _ a.least b.least (to_z-of_z w64 a.least al) (to_z-of_z w64 b.least bl)) in
    let x = as_it_is c.product-x.result q (search rules)
    (c.product-x.ensures ∙ pair ◌*ℤ◌ _ _ a.least b.greatest (to_z-of_z w64 a.least al) (to_z-of_z w64 b.greatest bg)) in
    let y = as_it_is c.product-y.result r (search rules)
    (c.product-y.ensures ∙ pair ◌*ℤ◌ _ _ a.greatest b.least (to_z-of_z w64 a.greatest ag) (to_z-of_z w64 b.least bl)) in
    let z = as_it_is c.product-z.result s (search rules)
    (c.product-z.ensures ∙ pair ◌*ℤ◌ _ _ a.greatest b.greatest (to_z-of_z w64 a.greatest ag) (to_z-of_z w64 b.greatest bg)) in
    let low = as_it_is c.lesser-low.result (int_min p q) (search rules) (c.lesser-low.ensures ∙ pair int_min _ _ p q w x) in
    let lower = as_it_is c.lesser.result (int_min r s) (search rules) (c.lesser.ensures ∙ pair int_min _ _ r s y z) in
    let least = as_it_is c.lesser-least.result (int_min (int_min p q) (int_min r s)) (search rules)
    (c.lesser-least.ensures ∙ pair int_min _ _ (int_min p q) (int_min r s) low lower) in
    let high = as_it_is c.greater-high.result (int_max p q) (search rules) (c.greater-high.ensures ∙ pair int_max _ _ p q w x) in
    let higher = as_it_is c.greater.result (int_max r s) (search rules) (c.greater.ensures ∙ pair int_max _ _ r s y z) in
    let most = as_it_is c.greater-most.result (int_max (int_max p q) (int_max r s)) (search rules)
    (c.greater-most.ensures ∙ pair int_max _ _ (int_max p q) (int_max r s) high higher) in
    multiplied_is c.args.a c.args.b a b (to_z w128 (of_z w128 c.lesser-least.result)) (to_z w128 (of_z w128 c.greater-most.result))
    c.range_from.result c.in-Some-Some.is-0 c.in-Some-Some.is-1 least most c.range_from.ensures
