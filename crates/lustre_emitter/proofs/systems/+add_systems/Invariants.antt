use Rattle.std.proofs.Common.{◌≡◌, ◌∷◌, ◌++◌, take}
use Rattle.std.specs.Prelude.{flat_map}
use Rattle.diagram_meaning.specs.Nested.{row_of, system_of}
use Rattle.modules_profile.specs.Systems.{children_of}
use Rattle.modules_profile.specs.TreeProfiles.{rows_inside}
use Rattle.lustre_emitter.specs.Listed.{listed_rows, AreAgreed}
use Rattle.lustre_emitter.proofs.systems.+add_systems.Given as goal

abbrev pub invariant-loop-child : goal.invariant-loop-child
invariant-loop-child l =
    (listed_rows l.list.items
    ≡ listed_rows l.fn.list.items ++ row_of (system_of l.s) ∷ flat_map rows_inside (take l.child-index (children_of (system_of l.s))))
    × AreAgreed l.r.tree.table.rows l.list.items

abbrev pub decreases-add_systems : goal.decreases-add_systems
decreases-add_systems l = goal.size-add_systems l
