use Rattle.mdl_library.specs.HeldItems.{items_left}
use Rattle.mdl_library.proofs.ItemLemmas.{with_more, with_end}
use Rattle.mdl_library.proofs.items.with_inside.Goals as goal

pub loop-item-preserved : goal.loop-item-preserved
loop-item-preserved c =
    with_more c.args.name.now c.as_slice-item-items.result.now c.loop-item.item-index c.item-item.result c.loop-item-test.true c.item-item.is
    c.loop-item.items.items c.push.new.self.items c.in_ok-item_with.field-0 (items_left c.loop-item.left) (items_left c.item_with.new.left) _
    c.in_ok-push.ensures.items c.in_ok-item_with.ensures c.loop-item.invariant

pub returns : goal.returns
returns c =
    with_end c.args.name.now c.as_slice-item-items.result.now c.loop-item.item-index c.loop-item-test.false c.loop-item.items.items
    (items_left c.loop-item.left) _ c.loop-item.invariant
