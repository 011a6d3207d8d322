use Rattle.std.proofs.Common.{◌≡◌, ◌++◌, map, drop}
use Rattle.diagram_meaning.specs.Nested as nested
use Rattle.mdl_table.proofs.SystemLists.{EachIsShort, nested_of}
use Rattle.mdl_table.proofs.systems.+subsystem_of.Given as goal

abbrev pub invariant-loop-child : goal.invariant-loop-child
invariant-loop-child l =
    EachIsShort l.child-items
    × (map nested.system_of l.children.items ++ map (nested_of l.rows) (drop l.child-index l.child-items)
    ≡ map (nested_of l.rows) l.child-items)
