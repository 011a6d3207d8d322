use Rattle.std.proofs.Common.{ap, ◌∙◌}
use Rattle.base_refusals.specs.FirstRefusal.{as_plain, earlier_of}
use Rattle.mdl_systems.specs.Held.{seen}
use Rattle.mdl_systems.specs.Refusals.{deep}
use Rattle.mdl_systems.proofs.PassLemmas.{least-at, least-end}
use Rattle.mdl_systems.proofs.numbers.least_deep.Goals as goal

pub loop-block-preserved : goal.loop-block-preserved
loop-block-preserved c =
    let before = as_plain c.loop-block.least in
    least-at deep seen c.args.blocks.now c.loop-block.block-index c.block-item.result before
    (as_plain c.earlier-least.result) _ c.loop-block-test.true
    (c.earlier-least.ensures ∙ ap (earlier_of before) c.deep.ensures
    ∙ ap (λ b. earlier_of before (deep (seen b))) c.block-item.is) c.loop-block.invariant

pub returns : goal.returns
returns c =
    least-end deep seen c.args.blocks.now c.loop-block.block-index
    (as_plain c.loop-block.least) _ c.loop-block-test.false c.loop-block.invariant
