-- The equations of a value's system.
use Rattle.std.proofs.Common.{◌≡◌, map}
use Rattle.diagram_meaning.specs.Nested.{System, system, system_from, systems_from, system_of}
use Rattle.diagram_meaning.specs.declared.subsystem.Subsystem.{Subsystem}
use Rattle.diagram_meaning.specs.declared.subsystem.Subsystem.TheOpen.{Subsystem-F}
use Rattle.diagram_meaning.specs.declared.subsystem.Subsystem.TheViews.{out-Subsystem, roll-Subsystem}
use Rattle.diagram_meaning.specs.declared.subsystem.Subsystem.TheFolds.{fold-roll-Subsystem, fold_out-Subsystem}

-- of a value that is made
pub system_of_roll : (x : Subsystem-F Subsystem) →
    system_of (roll-Subsystem x) ≡ system x.row x.line x.control x.own (systems_from (map system_of x.children.items))
system_of_roll = fold-roll-Subsystem System system_from

-- of a value that is opened
pub system_of_out : (s : Subsystem) →
    system_of s ≡ system (out-Subsystem s).row (out-Subsystem s).line (out-Subsystem s).control (out-Subsystem s).own
    (systems_from (map system_of (out-Subsystem s).children.items))
system_of_out = fold_out-Subsystem System system_from
