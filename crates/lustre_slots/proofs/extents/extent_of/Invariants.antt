use Rattle.std.proofs.Common.{◌≡◌, ◌+◌, map, drop}
use Rattle.lustre_syntax.specs.Plain.{equation_tree, node_tree}
use Rattle.lustre_slots.specs.Layout.{calls_size, node_size}
use Rattle.lustre_slots.specs.Extents.{slots_in}
use Rattle.lustre_slots.proofs.extents.extent_of.Given as goal

abbrev pub invariant-loop-equation : goal.invariant-loop-equation
invariant-loop-equation l =
    l.extent.slots + calls_size (slots_in l.earlier) (map equation_tree (drop l.equation-index l.equation-items))
    ≡ node_size (slots_in l.earlier) (node_tree l.node)
