use Rattle.std.proofs.Common.{sym, ◌∙◌, ap, subst, ◌<◌, ◌≤◌, List, length, slice_index_or}
use Rattle.mdl_rows.specs.declared.blocks.NumberedBlock.{NumberedBlock}
use Rattle.mdl_rows.specs.Models.{Block}
use Rattle.mdl_rows.specs.Interiors.{control_of}
use Rattle.mdl_rows.specs.Tables.{IsRowOf}
use Rattle.mdl_rows.specs.Held.{IsRowText, all_seen, seen}
use Rattle.mdl_rows.specs.HeldModels.{model_of}
use Rattle.mdl_rows.proofs.BlockLemmas.{item-among}
use Rattle.mdl_rows.proofs.PassLemmas.{zip-at, zip-end}
use Rattle.mdl_rows.proofs.TextLemmas.{paired-at, paired-long}
use Rattle.mdl_rows.proofs.rows.rows_with.Goals as goal

pub bounds-texts-at : goal.bounds-texts-at
bounds-texts-at c =
    let blocks = all_seen c.args.model.now.blocks.items in
    subst (λ n. c.loop-at.at < n)
    (ap length c.as_slice-block-items.ensures.value
    ∙ sym (paired-long (λ (b : Block). IsRowText (control_of blocks b.number) b) seen c.args.model.now.blocks.items
    c.args.texts.now c.requires.texts))
    c.loop-at-test.true

pub row_of-requires-clause-among : goal.row_of-requires-clause-among
row_of-requires-clause-among c =
    let same = c.as_slice-block-items.ensures.value in
    let i = c.loop-at.at in
    let b = c.block-item.result in
    item-among c.args.model.now.blocks.items i b c.requires.model.blocks.numbers
    (subst (λ (bs : List NumberedBlock). i < length bs) same c.loop-at-test.true)
    (c.block-item.is ∙ ap (λ bs. slice_index_or bs i b) same)

pub row_of-requires-clause-text : goal.row_of-requires-clause-text
row_of-requires-clause-text c =
    let same = c.as_slice-block-items.ensures.value in
    let xs = c.args.model.now.blocks.items in
    let i = c.loop-at.at in
    let b = c.block-item.result in
    let t = c.index-texts-at.result in
    let blocks = all_seen xs in
    let h = subst (λ (bs : List NumberedBlock). i < length bs) same c.loop-at-test.true in
    let at = c.block-item.is ∙ ap (λ bs. slice_index_or bs i b) same in
    subst (λ (x : NumberedBlock). IsRowText (control_of blocks x.number) (seen x) t) (sym at)
    (subst (IsRowText (control_of blocks (slice_index_or xs i b).number) (seen (slice_index_or xs i b))) (sym c.index-texts-at.is)
    (paired-at (λ (x : Block). IsRowText (control_of blocks x.number) x) seen xs c.args.texts.now i b t c.requires.texts h).1)

pub loop-at-preserved : goal.loop-at-preserved
loop-at-preserved c =
    let m = model_of c.args.model.now in
    let same = c.as_slice-block-items.ensures.value in
    let i = c.loop-at.at in
    let b = c.block-item.result in
    let row = c.in_ok-row_of.field-0 in
    zip-at (IsRowOf m) seen c.args.model.now.blocks.items i b c.loop-at.rows.items c.push.new.self.items row m.blocks
    (subst (λ (bs : List NumberedBlock). i < length bs) same c.loop-at-test.true)
    (subst (λ x. IsRowOf m (seen x) row) (c.block-item.is ∙ ap (λ bs. slice_index_or bs i b) same) c.in_ok-row_of.ensures)
    c.in_ok-push.ensures.items c.loop-at.invariant

pub returns : goal.returns
returns c =
    let m = model_of c.args.model.now in
    zip-end (IsRowOf m) seen c.args.model.now.blocks.items c.loop-at.at c.loop-at.rows.items m.blocks
    (subst (λ (bs : List NumberedBlock). length bs ≤ c.loop-at.at) c.as_slice-block-items.ensures.value
    c.loop-at-test.false) c.loop-at.invariant
