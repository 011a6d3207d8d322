use Rattle.std.proofs.Common.{rules, ◌≡◌, ◌∙◌, ap, subst, sym, to_z, of_z, FitsSigned}
use Rattle.std.specs.Int.{w64, w128}
use Rattle.std.proofs.lemmas.Int.{to_z-of_z}
use Rattle.base_fixed_point.specs.Conversion.{InType, wrapped}
use Rattle.base_fixed_point.proofs.WrappingLaws.{wrapping_is_one}
use Rattle.base_fixed_point.proofs.conversion.cast_into.Goals as goal

pub returns-in-Wrap-clause-in_type : goal.returns-in-Wrap-clause-in_type
returns-in-Wrap-clause-in_type c =
    let fits : FitsSigned w64 c.wrapped.result = search rules in
    let value : to_z w64 (of_z w64 c.wrapped.result) ≡ wrapped c.args.t c.args.q =
    to_z-of_z w64 c.wrapped.result fits ∙ c.wrapped.ensures ∙ ap (wrapped c.args.t) (to_z-of_z w128 c.args.q c.ranges.q) in
    subst (InType c.args.t) (sym value) (wrapping_is_one c.args.t c.args.q).0.0
