use Rattle.std.proofs.Common.{◌≡◌, ◌++◌, length, reverse}
use Rattle.std.specs.List.{flat_map}
use Rattle.std.specs.List.{AllByRecursion}
use Rattle.lustre_syntax.specs.Plain.{file_tree}
use Rattle.lustre_slots.specs.Layout.{IsThere, with_inside, instances_of}
use Rattle.lustre_slots.proofs.instances.instances_of.Given as goal

abbrev pub invariant-loop-next : goal.invariant-loop-next
invariant-loop-next l =
    let f = file_tree l.plan.file.now in
    record {
      there : AllByRecursion (IsThere f) l.pending.items;
      all : l.instances.items ++ flat_map (with_inside f) (reverse l.pending.items) ≡ instances_of f;
    }

abbrev pub decreases-loop-next : goal.decreases-loop-next
decreases-loop-next l =
    length (flat_map (with_inside (file_tree l.plan.file.now)) (reverse l.pending.items))
