use Rattle.std.proofs.Common.{rules, ◌≡◌, subst, sym, to_z, of_z}
use Rattle.std.specs.Int.{w64}
use Rattle.base_fixed_point.specs.Conversion.{IsConverted, conv}
use Rattle.base_fixed_point.proofs.lemmas.ConversionLaws.{conversion_is_one}
use Rattle.base_fixed_point.proofs.conversion.convert.Goals as goal

pub returns-clause-converted : goal.returns-clause-converted
returns-clause-converted c =
    let value : to_z w64 (of_z w64 c.cast_into.result) ≡ conv c.args.v c.args.from_frac c.args.to c.args.r c.args.o = search rules in
    subst (IsConverted c.args.v c.args.from_frac c.args.to c.args.r c.args.o) (sym value)
    (conversion_is_one c.args.v c.args.from_frac c.args.to c.args.r c.args.o).0
