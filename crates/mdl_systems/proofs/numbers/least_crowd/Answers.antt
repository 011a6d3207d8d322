use Rattle.std.proofs.Common.{ap, ◌∙◌}
use Rattle.std.specs.Prelude.{flat_map}
use Rattle.base_refusals.specs.FirstRefusal.{as_plain, earlier_of, least_in}
use Rattle.mdl_tree.specs.Values.{section_tree}
use Rattle.mdl_systems.specs.Outlines.{root_system, systems_inside}
use Rattle.mdl_systems.specs.Held.{seen, all_seen}
use Rattle.mdl_systems.specs.Refusals.{crowd}
use Rattle.mdl_systems.proofs.PassLemmas.{least-at, least-end, least-inside}
use Rattle.mdl_systems.proofs.numbers.least_crowd.Goals as goal

pub loop-block-preserved : goal.loop-block-preserved
loop-block-preserved c =
    let before = as_plain c.loop-block.least in
    least-at (λ b. least_in crowd (systems_inside b)) seen c.args.blocks.now c.loop-block.block-index
    c.block-item.result before (as_plain c.earlier-least.result) _ c.loop-block-test.true
    (c.earlier-least.ensures ∙ ap (earlier_of before) c.crowd_inside.ensures
    ∙ ap (λ b. earlier_of before (least_in crowd (systems_inside (seen b)))) c.block-item.is) c.loop-block.invariant

pub returns : goal.returns
returns c =
    let root = crowd (root_system (section_tree c.args.system.now)) in
    least-end (λ b. least_in crowd (systems_inside b)) seen c.args.blocks.now c.loop-block.block-index
    (as_plain c.loop-block.least) _ c.loop-block-test.false c.loop-block.invariant
    ∙ ap (earlier_of root) (least-inside crowd systems_inside (all_seen c.args.blocks.now)
    ∙ ap (λ bs. least_in crowd (flat_map systems_inside bs)) c.requires)
