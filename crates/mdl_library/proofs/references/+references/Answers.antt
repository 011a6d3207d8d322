use Rattle.std.proofs.Common.{sym, ap, ◌∙◌, ◌++◌, append-nil, arith, codes}
use Rattle.mdl_tree.specs.Values.{section_tree, trees_of}
use Rattle.mdl_library.proofs.Weights.{weight_first, weight_among}
use Rattle.mdl_library.proofs.Blocks.{references_first, references_none, references_blocks, references_end}
use Rattle.mdl_library.proofs.references.+references.Goals as goal

pub take_inside-take_references-requires : goal.take_inside-take_references-requires
take_inside-take_references-requires t c =
    omega (
      arith,
      weight_first (codes "System") (section_tree c.args.section.now).items (section_tree c.in-Some.system.now) (sym c.in-Some.ensures),
    )

pub take_inside-returns-in_ok-take_references-in-Some :
    goal.take_inside-returns-in_ok-take_references-in-Some
take_inside-returns-in_ok-take_references-in-Some t c =
    c.in_ok-take_references-in-Some.ensures
    ∙ ap (λ xs. trees_of c.args.references.now.items ++ xs)
    (references_first (section_tree c.args.section.now).items (section_tree c.in-Some.system.now) c.in-Some.ensures)

pub take_inside-returns-in-None : goal.take_inside-returns-in-None
take_inside-returns-in-None t c =
    sym (append-nil (trees_of c.args.references.now.items))
    ∙ ap (λ xs. trees_of c.args.references.now.items ++ xs) (references_none (section_tree c.args.section.now).items c.in-None.ensures)

pub take_references-take_block-requires : goal.take_references-take_block-requires
take_references-take_block-requires t c =
    omega (
      arith,
      weight_among (codes "Block") (section_tree c.args.system.now).items c.as_slice-block-items.result.now c.loop-block.block-index
          c.block-item.result (ap trees_of c.as_slice-block-items.ensures.value ∙ c.in_ok-blocks.ensures) c.loop-block-test.true c.block-item.is,
    )

pub take_references-returns : goal.take_references-returns
take_references-returns t c =
    references_end c.loop-block.references.items c.as_slice-block-items.result.now c.loop-block.block-index c.loop-block-test.false _
    c.loop-block.invariant
    ∙ ap (λ xs. trees_of c.args.references.now.items ++ xs) (sym (references_blocks (section_tree c.args.system.now).items))
