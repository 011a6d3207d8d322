-- How many functions of the prelude a row's expression calls.
use Rattle.std.specs.Prelude.{ℕ, ◌+◌, nat_le, if◌then◌else◌, List, take, get_or, Option, ℤ, pos}
use Rattle.base_fixed_point.specs.declared.FixType.{FixType}
use Rattle.diagram_blocks.specs.declared.Op.{Op}
use Rattle.diagram_blocks.specs.declared.Op.TheVariants.{Gain, Sum, Product, Switch, Convert}
use Rattle.diagram_blocks.specs.Value.{greatest_in, input, passes}
use Rattle.emit_row_code.specs.declared.ranges.Range.{Range}
use Rattle.emit_row_code.specs.Ranges.{just, input_range, gain_range, sum_range, product_range, surely_holds}

-- the calls of a conversion: one that rounds where the type is coarser, and one that brings into
-- the type where that may not hold the number
abbrev pub conversion_returns : ℕ → Option Range → FixType → ℕ
conversion_returns f range to =
    (if nat_le f to.frac then 0 else 1) + (if surely_holds to f range then 0 else 1)

abbrev pub input_returns : List FixType → ℕ → ℕ → FixType → ℕ
input_returns types i f to = conversion_returns f (input_range types i) to

-- the calls of a row's expression over inputs of these types; each executes one `return`
abbrev pub returns : Op → List FixType → List ℤ → ℕ
returns (Gain m frac to how) types vs = conversion_returns frac (gain_range m types) to
returns (Sum count minus fracs to how) types vs =
    let fs = take count fracs in let F = greatest_in fs in
    conversion_returns F (sum_range minus F 0 fs types (just (pos 0))) to
returns (Product count frac to how) types vs =
    conversion_returns frac (product_range count types) to
returns (Switch criterion threshold fracs to how) types vs =
    if passes criterion (input vs 1) threshold then input_returns types 0 (get_or fracs 0 0) to
    else input_returns types 2 (get_or fracs 1 0) to
returns (Convert frac to how) types vs = input_returns types 0 frac to
returns _ types vs = 0
