use Rattle.std.proofs.Common.{arith, ap, slice_index, ◌+◌, ◌-◌, ◌≡◌, ◌≤◌}
use Rattle.lustre_syntax.specs.Plain.{equation_tree, file_tree}
use Rattle.lustre_slots.specs.Layout.{sizes_of}
use Rattle.lustre_slots.proofs.Walks.{room-before, room-after, pushed, all-pushed}
use Rattle.lustre_slots.proofs.instances.add_calls.Goals as goal

pub overflow_sub-at : goal.overflow_sub-at
overflow_sub-at c =
    let f = file_tree c.args.plan.now.file.now in
    let room = room-before f c.args.of c.loop-left.at _ c.loop-left.left c.equations-equations.result.now c.index-equations-left.result
    _ _ _ _ c.requires.lawful c.requires.there c.equations-equations.ensures (omega arith) (omega arith) c.index-equations-left.is
    (ap equation_tree c.in-Call.is) c.loop-left.invariant.room in
    omega arith

pub loop-left-preserved-in-Continue-branch-2 : goal.loop-left-preserved-in-Continue-branch-2
loop-left-preserved-in-Continue-branch-2 c =
    let f = file_tree c.args.plan.now.file.now in
    let room = room-before f c.args.of c.loop-left.at _ c.loop-left.left c.equations-equations.result.now c.index-equations-left.result
    _ _ _ _ c.requires.lawful c.requires.there c.equations-equations.ensures (omega arith) (omega arith) c.index-equations-left.is
    (ap equation_tree c.in-Call.is) c.loop-left.invariant.room in
    let from : c.loop-left.at ≡ (c.loop-left.at - c.size-at.result) + slice_index (sizes_of f) c.in-Call.node = omega arith in
    record {
      within = omega arith;
      room = room-after (sizes_of f) c.loop-left.at _ _ c.loop-left.left _ c.equations-equations.result.now c.index-equations-left.result
          _ _ _ _ (omega arith) (omega arith) c.index-equations-left.is (ap equation_tree c.in-Call.is) from c.loop-left.invariant.room;
      rest = pushed (sizes_of f) c.loop-left.at _ _ c.loop-left.left c.equations-equations.result.now c.index-equations-left.result
          _ _ _ _ _ c.loop-left.pending.items _ (omega arith) (omega arith) c.index-equations-left.is (ap equation_tree c.in-Call.is) from
          c.loop-left.invariant.rest c.in_ok-push.ensures.items;
    }

pub returns : goal.returns
returns c =
    let f = file_tree c.args.plan.now.file.now in
    all-pushed f c.args.of c.loop-left.at c.loop-left.left c.equations-equations.result.now c.args.pending.now.items _ c.requires.lawful
    c.requires.there c.equations-equations.ensures (omega arith) c.loop-left.invariant.room c.loop-left.invariant.rest
