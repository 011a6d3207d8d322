use Rattle.std.proofs.Common.{◌≡◌, ◌+◌, ◌≤◌, ◌++◌, length, map, drop, reverse, slice_index}
use Rattle.lustre_syntax.specs.Plain.{equation_tree, file_tree}
use Rattle.lustre_slots.specs.Layout.{calls_size, calls_from, sizes_of}
use Rattle.lustre_slots.proofs.instances.add_calls.Given as goal

abbrev pub invariant-loop-left : goal.invariant-loop-left
invariant-loop-left l =
    let sizes = sizes_of (file_tree l.plan.file.now) in
    let rest = map equation_tree (drop l.left l.equations) in
    record {
      within : l.left ≤ length l.equations;
      room : l.at + calls_size sizes rest ≡ l.fn.of.base + slice_index sizes l.fn.of.node;
      rest : l.pending.items ≡ l.initial.pending.items ++ reverse (calls_from sizes l.at rest);
    }

abbrev pub decreases-loop-left : goal.decreases-loop-left
decreases-loop-left l = l.left
