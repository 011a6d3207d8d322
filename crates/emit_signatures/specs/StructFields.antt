-- The fields of a struct that are there in some systems alone.
use Rattle.std.specs.Prelude.{if◌then◌else◌, List, [], ◌∷◌}
use Rattle.base_core.specs.declared.base.Control.{Control}
use Rattle.diagram_meaning.specs.Rows.{is_triggered}
use Rattle.c_syntax.specs.Tree.{FieldTree}
use Rattle.emit_shape.specs.Slots.{Slot, trigger, filler, slot_field}

-- what the trigger remembers, where there is a trigger
abbrev pub trigger_slots : Control → List Slot
trigger_slots control = if is_triggered control then trigger ∷ [] else []

-- where there is no other field there is the filler
abbrev pub filled : List FieldTree → List FieldTree
filled [] = slot_field filler ∷ []
filled (f ∷ fs) = f ∷ fs
