use Rattle.std.proofs.Common.{◌≡◌, refl, ◌∙◌, ap, subst, ◌<◌, ◌≤◌, List, length, slice_index_or}
use Rattle.std.specs.Prelude.{is_some, MatchOption, true}
use Rattle.base_refusals.specs.FirstRefusal.{as_plain}
use Rattle.base_refusals.specs.Order.{first_of}
use Rattle.mdl_rows.specs.declared.blocks.NumberedBlock.{NumberedBlock}
use Rattle.mdl_rows.specs.Models.{Block}
use Rattle.mdl_rows.specs.Interiors.{control_of}
use Rattle.mdl_rows.specs.Refusals.{row_refusal}
use Rattle.mdl_rows.specs.Held.{IsRowText, all_seen, seen}
use Rattle.mdl_rows.proofs.BlockLemmas.{number-there}
use Rattle.mdl_rows.proofs.FirstLemmas.{first-at}
use Rattle.mdl_rows.proofs.PassLemmas.{zip-end}
use Rattle.mdl_rows.proofs.TextLemmas.{texts-step}
use Rattle.mdl_rows.proofs.row_texts.row_texts.Goals as goal

pub control-requires-clause-number : goal.control-requires-clause-number
control-requires-clause-number c =
    let same = c.as_slice-block-items.ensures.value in
    let i = c.loop-block.block-index in
    let b = c.block-item.result in
    number-there c.args.model.now.blocks.items i b _ c.requires.blocks.numbers
    (subst (λ (bs : List NumberedBlock). i < length bs) same c.loop-block-test.true)
    (c.block-item.is ∙ ap (λ bs. slice_index_or bs i b) same) refl

pub loop-block-preserved : goal.loop-block-preserved
loop-block-preserved c =
    let same = c.as_slice-block-items.ensures.value in
    let xs = c.args.model.now.blocks.items in
    let i = c.loop-block.block-index in
    let b = c.block-item.result in
    let h = subst (λ (bs : List NumberedBlock). i < length bs) same c.loop-block-test.true in
    let at = c.block-item.is ∙ ap (λ bs. slice_index_or bs i b) same in
    let blocks = all_seen xs in
    let R = λ (x : Block). IsRowText (control_of blocks x.number) x in
    let e = c.first_refusal-refusal.ensures ∙ ap (first_of (as_plain c.loop-block.refusal)) c.row_found-found.ensures.refusal in record {
      refusal =
          first-at row_refusal seen xs i b (as_plain c.loop-block.refusal) _ _ h
          (e ∙ ap (λ x. first_of (as_plain c.loop-block.refusal) (row_refusal (seen x))) at)
          c.loop-block.invariant.refusal;
      texts =
          texts-step R seen xs i b c.loop-block.texts.items c.push_if_there.new.list.items c.row_found-found.result.text
          (as_plain c.loop-block.refusal) _
          (row_refusal (seen b)) blocks h
          (subst (λ (x : NumberedBlock). MatchOption c.row_found-found.result.text (is_some (row_refusal (seen b)) ≡ true) (R (seen x))) at
          (subst (λ control. MatchOption c.row_found-found.result.text (is_some (row_refusal (seen b)) ≡ true)
          (IsRowText control (seen b))) c.control.ensures
          c.row_found-found.ensures.text))
          c.in_ok-push_if_there.ensures e c.loop-block.invariant.texts;
    }

pub returns-clause-texts : goal.returns-clause-texts
returns-clause-texts c =
    let blocks = all_seen c.args.model.now.blocks.items in
    let end =
    subst (λ (bs : List NumberedBlock). length bs ≤ c.loop-block.block-index) c.as_slice-block-items.ensures.value
    c.loop-block-test.false in
    λ none. zip-end (λ (x : Block). IsRowText (control_of blocks x.number) x) seen c.args.model.now.blocks.items c.loop-block.block-index
    c.loop-block.texts.items blocks end (c.loop-block.invariant.texts none)
