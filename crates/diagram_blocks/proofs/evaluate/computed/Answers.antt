use Rattle.std.proofs.Common.{rules, ◌≡◌, ◌<◌, ◌≤◌, length, map, take, get_or, w64, pos, FitsSigned, sym, ◌∙◌, subst, ap, arith}
use Rattle.std.proofs.lemmas.Int.{to_z-of_z}
use Rattle.diagram_blocks.specs.Value as value
use Rattle.diagram_blocks.specs.Laws as law
use Rattle.diagram_blocks.proofs.Evaluable.{inputs_of, numbers_fit, take_whole}
use Rattle.diagram_blocks.proofs.evaluate.computed.Goals as goal

pub bounds-inputs-0-in-Gain : goal.bounds-inputs-0-in-Gain
bounds-inputs-0-in-Gain c =
    let one = inputs_of _ _ _ _ c.in-Gain.is c.requires in
    let some : 0 < length c.args.inputs.now = omega (arith, one) in
    search rules

pub gain-requires : goal.gain-requires
gain-requires c =
    let v = get_or c.args.inputs.now 0 (pos 0) in
    let fits_v : FitsSigned w64 v = search rules in
    let fits_m : FitsSigned w64 c.in-Gain.m = search rules in
    simp to_z-of_z (numbers_fit _ _ _ _ c.in-Gain.is c.requires)

pub sum-requires-clause-few : goal.sum-requires-clause-few
sum-requires-clause-few c =
    let has = inputs_of _ _ _ _ c.in-Sum.is c.requires in
    omega (arith, has.0, has.1)

pub sum-requires-clause-one_each : goal.sum-requires-clause-one_each
sum-requires-clause-one_each c =
    let has = inputs_of _ _ _ _ c.in-Sum.is c.requires in
    subst (λ n. length (take n c.in-Sum.fracs) ≡ length c.args.inputs.now) (sym c.from.ensures) (has.3 ∙ sym has.0)

pub sum-requires-clause-fits : goal.sum-requires-clause-fits
sum-requires-clause-fits c =
    let fs = c.in-Sum.fracs in
    let vs = c.args.inputs.now in
    let to = c.in-Sum.to in
    subst (λ n. law.ConversionFits (law.sum_magnitude (value.greatest_in (take n fs)) (take n fs) vs)
    (value.greatest_in (take n fs)) to) (sym c.from.ensures)
    (numbers_fit _ _ _ _ c.in-Sum.is c.requires)

pub sum-requires-clause-types : goal.sum-requires-clause-types
sum-requires-clause-types c =
    let has = inputs_of _ _ _ _ c.in-Sum.is c.requires in
    subst (λ n. value.greatest_in (take n c.in-Sum.fracs) ≤ 31) (sym c.from.ensures) has.2

pub product-requires : goal.product-requires
product-requires c =
    let vs = c.args.inputs.now in
    let all = take_whole vs c.in-Product.count (inputs_of _ _ _ _ c.in-Product.is c.requires) in
    subst (λ l. law.ConversionFits (law.product_magnitude l) c.in-Product.frac c.in-Product.to) all
    (numbers_fit _ _ _ _ c.in-Product.is c.requires)

pub bounds-inputs-1 : goal.bounds-inputs-1
bounds-inputs-1 c =
    let has = inputs_of _ _ _ _ c.in-Switch.is c.requires in
    let some : 1 < length c.args.inputs.now = omega (arith, has.0) in
    search rules

pub bounds-inputs-0-then-passes : goal.bounds-inputs-0-then-passes
bounds-inputs-0-then-passes c =
    let has = inputs_of _ _ _ _ c.in-Switch.is c.requires in
    let some : 0 < length c.args.inputs.now = omega (arith, has.0) in
    search rules

pub conversion-requires : goal.conversion-requires
conversion-requires c =
    let v = get_or c.args.inputs.now 0 (pos 0) in
    let fits_v : FitsSigned w64 v = search rules in
    let fits = numbers_fit _ _ _ _ c.in-Switch.is c.requires in
    simp to_z-of_z fits.0

pub bounds-inputs-2 : goal.bounds-inputs-2
bounds-inputs-2 c =
    let has = inputs_of _ _ _ _ c.in-Switch.is c.requires in
    let some : 2 < length c.args.inputs.now = omega (arith, has.0) in
    search rules

pub conversion-requires-else-passes : goal.conversion-requires-else-passes
conversion-requires-else-passes c =
    let v = get_or c.args.inputs.now 2 (pos 0) in
    let fits_v : FitsSigned w64 v = search rules in
    let fits = numbers_fit _ _ _ _ c.in-Switch.is c.requires in
    simp to_z-of_z fits.1

pub bounds-inputs-0-in-Relational : goal.bounds-inputs-0-in-Relational
bounds-inputs-0-in-Relational c =
    let has = inputs_of _ _ _ _ c.in-Relational.is c.requires in
    let some : 0 < length c.args.inputs.now = omega (arith, has.0) in
    search rules

pub bounds-inputs-1-in-Relational : goal.bounds-inputs-1-in-Relational
bounds-inputs-1-in-Relational c =
    let has = inputs_of _ _ _ _ c.in-Relational.is c.requires in
    let some : 1 < length c.args.inputs.now = omega (arith, has.0) in
    search rules

pub comparison-requires-clause-fits_left : goal.comparison-requires-clause-fits_left
comparison-requires-clause-fits_left c =
    let v = get_or c.args.inputs.now 0 (pos 0) in
    let fits_v : FitsSigned w64 v = search rules in
    let fits = numbers_fit _ _ _ _ c.in-Relational.is c.requires in
    simp to_z-of_z fits.0

pub comparison-requires-clause-fits_right : goal.comparison-requires-clause-fits_right
comparison-requires-clause-fits_right c =
    let v = get_or c.args.inputs.now 1 (pos 0) in
    let fits_v : FitsSigned w64 v = search rules in
    let fits = numbers_fit _ _ _ _ c.in-Relational.is c.requires in
    simp to_z-of_z fits.1

pub bounds-inputs-0-in-Convert : goal.bounds-inputs-0-in-Convert
bounds-inputs-0-in-Convert c =
    let one = inputs_of _ _ _ _ c.in-Convert.is c.requires in
    let some : 0 < length c.args.inputs.now = omega (arith, one) in
    search rules

pub conversion-requires-in-Convert : goal.conversion-requires-in-Convert
conversion-requires-in-Convert c =
    let v = get_or c.args.inputs.now 0 (pos 0) in
    let fits_v : FitsSigned w64 v = search rules in
    simp to_z-of_z (numbers_fit _ _ _ _ c.in-Convert.is c.requires)

pub returns-in-Product : goal.returns-in-Product
returns-in-Product c =
    let vs = c.args.inputs.now in
    let p = c.in-Product in
    let all = take_whole vs p.count (inputs_of _ _ _ _ p.is c.requires) in
    let fits : FitsSigned w64 c.product.result = search rules in
    simp to_z-of_z
    (c.product.ensures ∙ sym (ap (λ l. value.conversion (value.exact_product l) p.frac p.to p.how) all)
    ∙ sym (ap (λ op. value.rhs op vs c.args.memory) p.is))

pub returns-in-Logic : goal.returns-in-Logic
returns-in-Logic c =
    let vs = c.args.inputs.now in
    let p = c.in-Logic in
    let all = take_whole vs p.count (inputs_of _ _ _ _ p.is c.requires) in
    let fits : FitsSigned w64 c.number_of_bool.result = search rules in
    simp to_z-of_z
    (c.number_of_bool.ensures ∙ ap value.number_of_bool c.logic.ensures
    ∙ sym (ap (λ l. value.number_of_bool (value.logic_of p.op (map value.is_true l))) all)
    ∙ sym (ap (λ op. value.rhs op vs c.args.memory) p.is))
