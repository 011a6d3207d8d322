use Rattle.std.proofs.Common.{◌≡◌, ◌+◌, ◌++◌, ◌∷◌, [], List, arith, ap, sym, ◌∙◌, append_assoc, length, reverse}
use Rattle.std.specs.List.{flat_map}
use Rattle.lustre_syntax.specs.Plain.{file_tree}
use Rattle.lustre_slots.specs.declared.placed.Placed.{Placed}
use Rattle.lustre_slots.specs.Layout.{with_inside}
use Rattle.lustre_slots.proofs.Walks.{taken-there, left-there, walked}
use Rattle.lustre_slots.proofs.instances.instances_of.Goals as goal

pub add_calls-requires : goal.add_calls-requires
add_calls-requires c = record {
  lawful = c.requires;
  there = taken-there (file_tree c.args.plan.now.file.now) c.loop-next.pending.items c.pop.new.self.items c.in-Some.next
      c.in-Some.ensures.items c.loop-next.invariant.there;
}

pub loop-next-preserved : goal.loop-next-preserved
loop-next-preserved c =
    let f = file_tree c.args.plan.now.file.now in
    let there = taken-there f c.loop-next.pending.items c.pop.new.self.items c.in-Some.next c.in-Some.ensures.items
    c.loop-next.invariant.there in
    let walk = walked f c.loop-next.pending.items c.pop.new.self.items c.add_calls.new.pending.items c.in-Some.next c.requires
    c.in-Some.ensures.items c.in_ok-add_calls.ensures there in
    let w : List Placed = flat_map (with_inside f) (reverse c.add_calls.new.pending.items) in
    record {
      there = left-there f c.loop-next.pending.items c.pop.new.self.items c.add_calls.new.pending.items c.in-Some.next c.requires
          c.in-Some.ensures.items c.in_ok-add_calls.ensures c.loop-next.invariant.there;
      all = ap (λ (ps : List Placed). ps ++ w) c.in_ok-push-2.ensures.items ∙ append_assoc c.loop-next.instances.items (c.in-Some.next ∷ []) w
          ∙ ap (λ (ps : List Placed). c.loop-next.instances.items ++ ps) (sym walk) ∙ c.loop-next.invariant.all;
    }

pub loop-next-smaller : goal.loop-next-smaller
loop-next-smaller c =
    let f = file_tree c.args.plan.now.file.now in
    let there = taken-there f c.loop-next.pending.items c.pop.new.self.items c.in-Some.next c.in-Some.ensures.items
    c.loop-next.invariant.there in
    let less : length (flat_map (with_inside f) (reverse c.loop-next.pending.items))
    ≡ length (flat_map (with_inside f) (reverse c.add_calls.new.pending.items)) + 1 =
    ap length (walked f c.loop-next.pending.items c.pop.new.self.items c.add_calls.new.pending.items c.in-Some.next c.requires
    c.in-Some.ensures.items c.in_ok-add_calls.ensures there) ∙ omega arith in
    omega (arith, less)
