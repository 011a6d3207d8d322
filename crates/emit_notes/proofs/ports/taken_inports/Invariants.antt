use Rattle.std.proofs.Common.{◌≡◌, take}
use Rattle.std.specs.Prelude.{option_to_list}
use Rattle.std.specs.List.{flat_map}
use Rattle.c_syntax.specs.PlainField.{field_trees}
use Rattle.emit_notes.specs.FunctionNotes.{taken_inport}
use Rattle.emit_notes.proofs.ports.taken_inports.Given as goal

abbrev pub invariant-loop-name : goal.invariant-loop-name
invariant-loop-name l =
    l.rows.items ≡ flat_map (λ q. option_to_list (taken_inport l.labels (field_trees l.fields) q.0)) (take l.name-index l.params)
