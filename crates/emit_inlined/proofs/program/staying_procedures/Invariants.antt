use Rattle.std.proofs.Common.{◌≡◌, map, take}
use Rattle.c_syntax.specs.Plain.{procedure_tree}
use Rattle.emit_pruned.specs.Marks.{flag_at}
use Rattle.emit_inlined.specs.Inlined.{kept_from}
use Rattle.emit_inlined.specs.Steps.{is_kept, place_in, procedure_by}
use Rattle.emit_inlined.proofs.program.staying_procedures.Given as goal

abbrev pub invariant-loop-position : goal.invariant-loop-position
invariant-loop-position l = map procedure_tree l.list.items
    ≡ map (procedure_by (map procedure_tree l.procedures) (flag_at l.helpers) (place_in l.places))
    (kept_from (is_kept l.inlined) 0 (take l.position (map procedure_tree l.procedures)))
