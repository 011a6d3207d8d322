use Rattle.std.proofs.Common.{sym, ◌∙◌}
use Rattle.mdl_library.proofs.GivenLemmas.{source_pass, source_here, source_end}
use Rattle.mdl_library.proofs.given.source_among.Goals as goal

pub loop-block-preserved : goal.loop-block-preserved
loop-block-preserved c =
    source_pass c.args.blocks.now c.loop-block.block-index c.block-item.result c.loop-block-test.true c.block-item.is
    (sym c.is_reference.ensures ∙ c.if-is_reference.false) _ c.loop-block.invariant

pub returns-then-is_reference : goal.returns-then-is_reference
returns-then-is_reference c =
    c.param.ensures
    ∙ source_here c.args.blocks.now c.loop-block.block-index c.block-item.result c.loop-block-test.true c.block-item.is
    (sym c.is_reference.ensures ∙ c.if-is_reference.true) _ c.loop-block.invariant

pub returns : goal.returns
returns c = source_end c.args.blocks.now c.loop-block.block-index c.loop-block-test.false _ c.loop-block.invariant
