-- The shape of a system's code, from its parts.
use Rattle.modules_profile.specs.NodeFacts.{LocalsAreLawful, NodesReachAsRows}
use Rattle.emit_row_code.specs.Laws.{RowsReadTheirLeaves}
use Rattle.right_system_shape.specs.Formed.{EmittedCodeHasShape}
use Rattle.right_system_shape.proofs.CalledOnce.{code_states_once}
use Rattle.right_system_shape.proofs.GivenOutputs.{functions_give_their_outputs}
use Rattle.right_system_shape.proofs.KeptRules.{code_keeps_rules}
use Rattle.right_system_shape.proofs.OutputPlaces.{outputs_have_places}
use Rattle.right_system_shape.proofs.PublicHeads.{heads_are_public}
use Rattle.right_system_shape.proofs.UsedParts.{code_is_used}
use Rattle.right_system_shape.proofs.Slots.{slots_are_right, struct_has_its_slots}

pub emitted_code_has_shape : LocalsAreLawful → NodesReachAsRows → RowsReadTheirLeaves → EmittedCodeHasShape
emitted_code_has_shape lawful reach reads local profile schedule is = record {
  slots_right = slots_are_right local schedule;
  structure = struct_has_its_slots local profile schedule;
  places = outputs_have_places lawful local profile schedule is;
  heads = heads_are_public local profile schedule is;
  gives = functions_give_their_outputs lawful reach local profile schedule is;
  rules = code_keeps_rules lawful reach reads local profile schedule is;
  once = code_states_once lawful reach local profile schedule is;
  used = code_is_used lawful reach local profile schedule is;
}
