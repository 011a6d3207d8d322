use Rattle.std.proofs.Common.{rules, ◌∙◌, ap, FitsSigned, w64}
use Rattle.std.proofs.lemmas.Int.{to_z-of_z}
use Rattle.emit_row_code.specs.Ranges.{just, input_range, multiplied}
use Rattle.emit_row_code.proofs.ranges.term_range.Goals as goal

pub returns : goal.returns
returns c =
    let fits : FitsSigned w64 c.term_factor-factor.result = search rules in
    c.multiplied.ensures ∙ ap (λ r. multiplied r c.just.result) c.input_range.ensures
    ∙ ap (multiplied (input_range c.args.types.now c.args.place))
    (c.just.ensures ∙ ap just (to_z-of_z w64 c.term_factor-factor.result fits ∙ c.term_factor-factor.ensures))
