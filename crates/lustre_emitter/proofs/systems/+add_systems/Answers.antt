use Rattle.std.proofs.Common.{arith}
use Rattle.lustre_emitter.specs.Listed.{listed_rows}
use Rattle.lustre_emitter.proofs.SystemLists.{child-in, child-added, all-added}
use Rattle.lustre_emitter.proofs.systems.+add_systems.Goals as goal

pub is_child-requires-clause-child : goal.is_child-requires-clause-child
is_child-requires-clause-child t c =
    child-in c.args.s.now c.deref-child-items.result.now c.deref-child-items.ensures.value c.loop-child.child-index c.child-item.result
    c.loop-child-test.true c.child-item.is

pub loop-child-preserved : goal.loop-child-preserved
loop-child-preserved t c = (
  child-added c.args.s.now c.deref-child-items.result.now c.deref-child-items.ensures.value c.loop-child.child-index
      c.child-item.result (listed_rows c.args.list.now.items) (listed_rows c.loop-child.list.items)
      (listed_rows c.add_systems.new.list.items) c.loop-child-test.true c.child-item.is c.loop-child.invariant.0
      c.in_ok-add_systems.ensures.rows,
  c.in_ok-add_systems.ensures.agree,
)

pub returns-clause-rows : goal.returns-clause-rows
returns-clause-rows t c =
    let stop = c.loop-child-test.false in
    all-added c.args.s.now c.deref-child-items.result.now c.deref-child-items.ensures.value c.loop-child.child-index
    (listed_rows c.args.list.now.items) (listed_rows c.loop-child.list.items) (omega (arith, stop)) c.loop-child.invariant.0
