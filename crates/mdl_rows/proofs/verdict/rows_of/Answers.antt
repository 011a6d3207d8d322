use Rattle.std.proofs.Common.{sym, subst}
use Rattle.std.specs.List.{AllZip}
use Rattle.mdl_rows.specs.Models.{Block}
use Rattle.mdl_rows.specs.Interiors.{control_of}
use Rattle.mdl_rows.specs.Held.{IsRowText, all_seen}
use Rattle.mdl_rows.proofs.FirstLemmas.{none-right}
use Rattle.mdl_rows.proofs.verdict.rows_of.Goals as goal

pub rows_with-requires-clause-texts : goal.rows_with-requires-clause-texts
rows_with-requires-clause-texts c =
    let blocks = all_seen c.in_ok-model.model.blocks.items in
    subst (AllZip (λ (b : Block). IsRowText (control_of blocks b.number) b) blocks) (sym c.as_slice.ensures.value)
    (c.in_ok-for_rows.ensures.texts (none-right _ _ (sym c.in-None.ensures)))
