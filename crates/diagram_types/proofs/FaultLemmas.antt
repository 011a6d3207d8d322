-- What is wrong with the type of a row.
use Rattle.std.specs.Prelude.{◌≡◌, ℕ, ◌≤◌, List, length, slice_index_or, Option, Some, None}
use Rattle.std.proofs.Common.{cond, sym, ◌∙◌, ap, arith}
use Rattle.std.proofs.lemmas.List.{get_or_past}
use native.Mathlib.Decide.{dec_lt}
use Rattle.base_fixed_point.specs.declared.FixType.{FixType}
use Rattle.base_fixed_point.specs.Types.{boolean}
use Rattle.diagram_meaning.specs.declared.table.Row.{Row}
use Rattle.diagram_meaning.specs.Rows.{no_row, by_row}
use Rattle.diagram_meaning.specs.Types.{is_boolean_by_kind}
use Rattle.diagram_meaning.specs.TypeRefusals.{followed_type, type_of_row}
use Rattle.diagram_meaning.proofs.lemmas.ByRow.{by_row-at, length-by_row}
use Rattle.diagram_types.proofs.lemmas.FollowedLemmas.{past-followed}

-- past the end a row is boolean
pub past_boolean : (rows : List Row) (b : ℕ) → length rows ≤ b → type_of_row rows b ≡ Some boolean
past_boolean rows b h =
    ap (λ (row : Row). cond (is_boolean_by_kind row.kind) (Some boolean) (followed_type rows b)) (get_or_past rows b no_row h)

-- what is met from each row
pub met_followed : (rows : List Row) (met : List (Option FixType)) (b : ℕ) → met ≡ by_row rows (followed_type rows) →
    slice_index_or met b None ≡ followed_type rows b
met_followed rows met b e = elim (dec_lt b (length rows)) [
  | yes inside ↦ ap (λ (met : List (Option FixType)). slice_index_or met b None) e ∙ by_row-at rows (followed_type rows) b None inside
  | no past ↦
      ap (λ (met : List (Option FixType)). slice_index_or met b None) e
      ∙ get_or_past (by_row rows (followed_type rows)) b None (omega (arith, length-by_row rows (followed_type rows)))
      ∙ sym (past-followed rows b (omega arith))
]
