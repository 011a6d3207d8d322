-- The types of the table.
use Rattle.std.specs.Prelude.{◌≡◌, ◌<◌, ℕ, true, Option, Some, None, length, is_some, unwrap_or, refl}
use Rattle.std.proofs.Common.{sym, ap, subst, ◌∙◌, true≢false}
use Rattle.base_fixed_point.specs.declared.FixType.{FixType}
use Rattle.base_fixed_point.specs.Types.{boolean}
use Rattle.diagram_meaning.specs.Types.{HasType, type_at}
use Rattle.diagram_meaning.specs.TypeRefusals.{type_of_row, types_of_rows, type_refusal}
use Rattle.diagram_meaning.proofs.lemmas.ByRow.{by_row-at}
use Rattle.diagram_meaning.proofs.lemmas.TypeFollowed.{type_followed}
use Rattle.diagram_meaning.proofs.lemmas.Tests.{all_below, below-at}
use Rattle.right_sample_model.specs.Rows.{rich_rows}

pub rich_types_accepted : type_refusal rich_rows ≡ None
rich_types_accepted = refl

each_typed : all_below (λ b. is_some (type_of_row rich_rows b)) (length rich_rows) ≡ true
each_typed = refl

pub rich_types : (b : ℕ) → b < length rich_rows → HasType rich_rows b (type_at (types_of_rows rich_rows) b)
rich_types b below =
    by (type_of_row rich_rows b) refl (below-at (λ b. is_some (type_of_row rich_rows b)) (length rich_rows) b each_typed below)
  where
    by : (found : Option FixType) → type_of_row rich_rows b ≡ found → is_some found ≡ true →
        HasType rich_rows b (type_at (types_of_rows rich_rows) b)
    by None e s = absurd (true≢false (sym s))
    by (Some t) e s =
        let at : type_at (types_of_rows rich_rows) b ≡ t =
        by_row-at rich_rows (λ c. unwrap_or (type_of_row rich_rows c) boolean) b boolean below
        ∙ ap (λ (o : Option FixType). unwrap_or o boolean) e in
        subst (HasType rich_rows b) (sym at) ((type_followed rich_rows b t).1 e)
