use Rattle.std.proofs.Common.{ℕ, ◌∙◌, ◌++◌, ◌∷◌, [], ap₂, sym, arith}
use Rattle.std.specs.Prelude.{unwrap_or}
use Rattle.std.proofs.lemmas.List.FromFn.{map-range_with_len_more}
use Rattle.base_fixed_point.specs.Types.{boolean}
use Rattle.diagram_meaning.specs.TypeRefusals.{type_of_row}
use Rattle.diagram_types.proofs.infer.types_of_rows.Goals as goal

pub loop-b-preserved : goal.loop-b-preserved
loop-b-preserved c =
    let type = λ (b : ℕ). unwrap_or (type_of_row c.args.rows.now b) boolean in
    c.in_ok-push.ensures.items
    ∙ ap₂ (λ xs x. xs ++ x ∷ []) c.loop-b.invariant (c.unwrap_or.ensures ∙ ap₂ unwrap_or c.type_of_row.ensures c.boolean.ensures)
    ∙ sym (map-range_with_len_more type 0 c.loop-b.b c.loop-b.b (omega arith))
