use Rattle.std.proofs.Common.{◌≡◌, map, take}
use Rattle.c_syntax.specs.declared.Leaf.TheVariants.{Own}
use Rattle.lustre_row_equations.proofs.leaves.own_leaves.Given as goal

abbrev pub invariant-loop-c : goal.invariant-loop-c
invariant-loop-c l = l.leaves.items ≡ map Own (take l.c-index l.wires)
