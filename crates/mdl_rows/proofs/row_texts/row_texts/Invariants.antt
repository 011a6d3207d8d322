use Rattle.std.proofs.Common.{◌≡◌, List, ◌++◌, drop, None}
use Rattle.std.specs.List.{AllZip}
use Rattle.mdl_blocks.specs.declared.row.RowText.{RowText}
use Rattle.base_refusals.specs.FirstRefusal.{as_plain}
use Rattle.base_refusals.specs.Order.{first_of}
use Rattle.mdl_rows.specs.Models.{Block}
use Rattle.mdl_rows.specs.Interiors.{control_of}
use Rattle.mdl_rows.specs.Refusals.{first_in, row_refusal}
use Rattle.mdl_rows.specs.Held.{IsRowText, all_seen}
use Rattle.mdl_rows.specs.HeldModels.{model_of}
use Rattle.mdl_rows.proofs.row_texts.row_texts.Given as goal

abbrev pub invariant-loop-block : goal.invariant-loop-block
invariant-loop-block l =
    let blocks = (model_of l.fn.model).blocks in
    let left = all_seen (drop l.block-index l.model.blocks.items) in record {
      refusal : first_of (as_plain l.refusal) (first_in row_refusal left) ≡ first_in row_refusal blocks;
      texts : as_plain l.refusal ≡ None → (rest : List RowText) →
          AllZip (λ (b : Block). IsRowText (control_of blocks b.number) b) left rest →
          AllZip (λ (b : Block). IsRowText (control_of blocks b.number) b) blocks (l.texts.items ++ rest);
    }
