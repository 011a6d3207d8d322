-- The code of a system from its parts.
use Rattle.std.proofs.Common.{◌≡◌, ℕ, List, map}
use Rattle.modules_profile.specs.LocalSystem.{LocalSystem}
use Rattle.modules_profile.specs.SystemProfile.{SystemProfile}
use Rattle.modules_profile.specs.Locals.{outports}
use Rattle.modules_profile.specs.Systems.{system_name}
use Rattle.modules_schedule.specs.SystemSchedule.{SystemSchedule}
use Rattle.c_syntax.specs.Tree.{StructTree, ProcedureTree}
use Rattle.emit_shape.specs.Slots.{slot_field}
use Rattle.emit_shape.specs.SystemTree.{SystemTree}
use Rattle.emit_system_spec.specs.EmittedCode.{system_procedures, system_code}
use Rattle.emit_system_spec.specs.Fields.{value_field, code_slots}

abbrev code_with : StructTree → List ℕ → List ProcedureTree → SystemTree
code_with structure outputs procedures = record { structure = structure; outputs = outputs; procedures = procedures }

pub code_is : (local : LocalSystem) (profile : SystemProfile) (schedule : SystemSchedule)
    (structure : StructTree) (outputs : List ℕ) (procedures : List ProcedureTree) →
    structure ≡ record { name = system_name local.row; fields = map slot_field (code_slots local schedule) } →
    outputs ≡ map (λ o. value_field local o.row) (outports local) →
    procedures ≡ system_procedures local profile schedule →
    code_with structure outputs procedures ≡ system_code local profile schedule
code_is local profile schedule structure outputs procedures structure_is outputs_are procedures_are =
    λ i. code_with (structure_is i) (outputs_are i) (procedures_are i)
