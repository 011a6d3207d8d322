use Rattle.std.proofs.Common.{refl, ◌∙◌, ap, subst, Some}
use Rattle.mdl_rows.specs.declared.blocks.NumberedBlock.{NumberedBlock}
use Rattle.mdl_rows.specs.Models.{Block, blocks_of}
use Rattle.mdl_rows.specs.Held.{IsInteriorOf, all_seen, seen}
use Rattle.mdl_rows.proofs.BlockLemmas.{group-short, number-there}
use Rattle.mdl_rows.proofs.PassLemmas.{zip-at, zip-end}
use Rattle.mdl_rows.proofs.interiors.interiors_of.Goals as goal

pub of-requires : goal.of-requires
of-requires c =
    number-there c.args.blocks.now c.loop-block.block-index c.block-item.result _ c.requires.blocks.numbers
    c.loop-block-test.true c.block-item.is
    c.requires.groups.count

pub interior_of-requires : goal.interior_of-requires
interior_of-requires c =
    let b = c.block-item.result in
    let there =
    number-there c.args.blocks.now c.loop-block.block-index b _ c.requires.blocks.numbers c.loop-block-test.true
    c.block-item.is refl in
    group-short c.of.result.now c.args.blocks.now (Some b.number) (ap all_seen c.of.ensures
    ∙ c.requires.groups.groups (Some b.number) there)
    c.requires.at_most

pub loop-block-preserved : goal.loop-block-preserved
loop-block-preserved c =
    let blocks = all_seen c.args.blocks.now in
    let b = c.block-item.result in
    let there =
    number-there c.args.blocks.now c.loop-block.block-index b _ c.requires.blocks.numbers c.loop-block-test.true
    c.block-item.is refl in
    let inside = c.in_ok-interior_of.field-0 in
    zip-at (λ (b : Block). IsInteriorOf (blocks_of blocks (Some b.number))) seen c.args.blocks.now
    c.loop-block.block-index b c.loop-block.interiors.items
    c.push.new.self.items inside blocks c.loop-block-test.true
    (subst (λ (x : NumberedBlock). IsInteriorOf (blocks_of blocks (Some x.number)) inside) c.block-item.is
    (subst (λ own. IsInteriorOf own inside) (ap all_seen c.of.ensures ∙ c.requires.groups.groups (Some b.number) there)
    c.in_ok-interior_of.ensures))
    c.in_ok-push.ensures.items c.loop-block.invariant

pub returns : goal.returns
returns c =
    let blocks = all_seen c.args.blocks.now in
    zip-end (λ (b : Block). IsInteriorOf (blocks_of blocks (Some b.number))) seen c.args.blocks.now
    c.loop-block.block-index c.loop-block.interiors.items
    blocks c.loop-block-test.false c.loop-block.invariant
