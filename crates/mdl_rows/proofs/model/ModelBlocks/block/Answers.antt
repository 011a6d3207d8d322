use Rattle.std.proofs.Common.{◌≡◌, ◌∙◌, ap, subst, ◌<◌, slice_index_or, Some}
use Rattle.std.specs.Prelude.{slice_get}
use Rattle.std.proofs.lemmas.List.{length-map}
use Rattle.mdl_rows.specs.Held.{all_seen, seen}
use Rattle.mdl_rows.proofs.BlockLemmas.{item-among, number-is}
use Rattle.mdl_rows.proofs.model.ModelBlocks.block.Goals as goal

pub returns-clause-block : goal.returns-clause-block
returns-clause-block c =
    let xs = c.args.self.now.blocks.items in
    let b = c.index-blocks-number.result in
    let h = subst (λ n. c.args.number < n) (length-map xs seen) c.requires.number in
    let at = c.index-blocks-number.is ∙ ap (λ bs. slice_index_or bs c.args.number b) c.as_slice-blocks.ensures.value in
    subst (λ n. slice_get (all_seen xs) n ≡ Some (seen b)) (number-is xs c.args.number b c.requires.model.blocks.numbers h at)
    (item-among xs c.args.number b c.requires.model.blocks.numbers h at)

pub returns-clause-among : goal.returns-clause-among
returns-clause-among c =
    let xs = c.args.self.now.blocks.items in
    let b = c.index-blocks-number.result in
    let h = subst (λ n. c.args.number < n) (length-map xs seen) c.requires.number in
    item-among xs c.args.number b c.requires.model.blocks.numbers h
    (c.index-blocks-number.is ∙ ap (λ bs. slice_index_or bs c.args.number b) c.as_slice-blocks.ensures.value)
