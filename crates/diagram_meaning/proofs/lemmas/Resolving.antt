-- The rows of a well-formed table can be resolved: their wires are rows, and they have as many inputs and such gains as
-- their kinds ask for.
use Rattle.std.specs.Prelude.{◌≡◌, ℕ, zero, suc, ◌+◌, ◌<◌, Bool, true, false, IsTrue, IsOk, is_ok, List, [], ◌∷◌, ◌++◌, map, length, slice_index_or, Option}
use Rattle.std.specs.List.{AllByRecursion, range_with_len}
use Rattle.std.proofs.Common.{refl, sym, ◌∙◌, ap, ap₂, arith}
use Rattle.std.proofs.lemmas.List.{get_or_default}
use Rattle.std.proofs.lemmas.List.FromFn.{map-range_with_len_more}
use Rattle.base_core.specs.declared.Decimal.{Decimal}
use Rattle.base_fixed_point.specs.declared.FixType.{FixType}
use Rattle.base_fixed_point.specs.Types.{boolean}
use Rattle.base_fixed_point.specs.Conversion.{nearest_at, fits_32, constant_below}
use Rattle.base_fixed_point.proofs.lemmas.GainLaws.{constant_below-fits, constant_below-passes}
use Rattle.diagram_blocks.specs.declared.Kind.{Kind}
use Rattle.diagram_blocks.specs.declared.Kind.TheVariants.{Gain, Sum, Product, Switch, Relational, Logic, Convert}
use Rattle.diagram_blocks.specs.declared.Logic.TheVariants.{And, Or, Nand, Nor, Xor, Nxor, Not}
use Rattle.diagram_blocks.specs.declared.GainText.{GainText}
use Rattle.diagram_blocks.specs.declared.GainText.TheVariants.{Own, Typed}
use Rattle.diagram_blocks.specs.declared.Op.{Op}
use Rattle.diagram_blocks.specs.Meaning.{op_of}
use Rattle.diagram_blocks.specs.Limits.{HasConstant, HasInputTypes, IsWithinLimits}
use Rattle.diagram_meaning.specs.declared.table.Row.{Row}
use Rattle.diagram_meaning.specs.RowTable.{RowTable}
use Rattle.diagram_meaning.specs.Rows.{row_at, no_row}
use Rattle.diagram_meaning.specs.Types.{type_at}
use Rattle.diagram_meaning.specs.Diagram.{op_in}
use Rattle.diagram_meaning.specs.WellFormed.{IsGain, IsKind, IsRow, IsWellFormed, wires_wanted}

-- what holds of all items holds of each
pub all-at : {X : Type 0} (P : X → Type 0) (xs : List X) (k : ℕ) (d : X) → AllByRecursion P xs → k < length xs → P (slice_index_or xs k d)
all-at P [] k d h inside = absurd (omega arith)
all-at P (x ∷ xs) zero d h inside = h.0
all-at P (x ∷ xs) (suc k) d h inside = all-at P xs k d h.1 (omega arith)

-- a row that is computed has the inputs that its kind asks for
typed_by : (kind : Kind) (owner : Option ℕ) (types : List FixType) → length types ≡ wires_wanted kind owner → HasInputTypes kind types
typed_by (Gain gain how) owner types e = e
typed_by (Sum count minus how) owner types e = e
typed_by (Product count how) owner types e = e
typed_by (Switch criterion threshold how) owner types e = e
typed_by (Relational compare) owner types e = e
typed_by (Logic op count) owner types e = e
typed_by (Convert how) owner types e = e
typed_by _ owner types e = tt

length-each : {X Y : Type 0} (f : X → Y) (xs : List X) → length (map f xs) ≡ length xs
length-each f [] = refl
length-each f (x ∷ xs) = ap suc (length-each f xs)

pub has_types : (table : RowTable) (types : List FixType) (b : ℕ) → IsWellFormed table → b < length table.rows →
    HasInputTypes (row_at table.rows b).kind (map (type_at types) (row_at table.rows b).inputs)
has_types table types b formed inside =
    typed_by (row_at table.rows b).kind (row_at table.rows b).owner _
    (length-each (type_at types) (row_at table.rows b).inputs ∙ formed.wired.counts b inside)

-- where the nearest whole number fits, a gain has a constant
constant_found : (n : ℕ) (d : Decimal) → IsTrue (fits_32 (nearest_at d 0)) → IsOk (constant_below (suc n) d)
constant_found zero d h = ap (λ r. is_ok r) (constant_below-fits 0 d h)
constant_found (suc n) d h = by (fits_32 (nearest_at d (suc n))) refl (constant_found n d h)
  where
    by : (fits : Bool) → fits_32 (nearest_at d (suc n)) ≡ fits → IsOk (constant_below (suc n) d) → IsOk (constant_below (suc (suc n)) d)
    by true e lower = ap (λ r. is_ok r) (constant_below-fits (suc n) d e)
    by false e lower = ap (λ r. is_ok r) (constant_below-passes (suc n) d e) ∙ lower

gain_found : (gain : GainText) → IsGain gain → HasConstant gain
gain_found (Own d) h = constant_found 31 d h
gain_found (Typed d type) h = tt

-- counts and gains are within their limits
limits_by : (kind : Kind) → IsKind kind → IsWithinLimits kind
limits_by (Gain gain how) h = gain_found gain h
limits_by (Sum count minus how) h = h.0
limits_by (Product count how) h = h
limits_by (Logic And count) h = h
limits_by (Logic Or count) h = h
limits_by (Logic Nand count) h = h
limits_by (Logic Nor count) h = h
limits_by (Logic Xor count) h = h
limits_by (Logic Nxor count) h = h
limits_by (Logic Not count) h = (omega (arith, h), omega (arith, h))
limits_by _ h = tt

pub within_limits : (table : RowTable) (b : ℕ) → IsWellFormed table → b < length table.rows → IsWithinLimits (row_at table.rows b).kind
within_limits table b formed inside = limits_by (row_at table.rows b).kind (all-at IsRow table.rows b no_row formed.each inside).kind

-- the operations of the rows up to one more
pub ops_more : (rows : List Row) (types : List FixType) (delays : List Bool) (b : ℕ) (row : Row) (type : FixType) (op : Op) →
    row ≡ slice_index_or rows b row → type ≡ slice_index_or types b type → b < length rows → length types ≡ length rows →
    op ≡ op_of row.kind (map (type_at types) row.inputs) type (slice_index_or delays b false) →
    map (op_in rows types delays) (range_with_len 0 (b + 1)) ≡ map (op_in rows types delays) (range_with_len 0 b) ++ op ∷ []
ops_more rows types delays b row type op row_is type_is inside same op_is =
    let here : row ≡ row_at rows b = row_is ∙ get_or_default rows b row no_row inside in
    let own : type ≡ type_at types b = type_is ∙ get_or_default types b type boolean (omega arith) in
    let last : op ≡ op_in rows types delays b =
    op_is ∙ ap₂ (λ (r : Row) (t : FixType). op_of r.kind (map (type_at types) r.inputs) t (slice_index_or delays b false)) here own in
    map-range_with_len_more (op_in rows types delays) 0 b b (omega arith)
    ∙ ap (λ x. map (op_in rows types delays) (range_with_len 0 b) ++ x ∷ []) (sym last)
