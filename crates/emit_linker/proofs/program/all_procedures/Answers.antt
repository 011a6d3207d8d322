use Rattle.std.proofs.Common.{◌-◌, map, arith}
use Rattle.std.specs.List.{flat_map}
use Rattle.c_syntax.specs.Plain.{procedure_tree}
use Rattle.emit_shape.specs.Assembled.{from_last}
use Rattle.emit_linker.specs.Places.{trees}
use Rattle.emit_linker.proofs.Programs.{code_procedures, procedures-more}
use Rattle.emit_linker.proofs.program.all_procedures.Goals as goal

pub loop-i-preserved : goal.loop-i-preserved
loop-i-preserved c =
    let all = trees c.args.codes.now.list.now in
    let i = c.loop-i.i in
    let some = c.loop-i-test.true in
    procedures-more (code_procedures all) i (i - 1) (map procedure_tree c.loop-i.procedures.items)
    (map procedure_tree c.push_procedures.new.list.items) (flat_map (code_procedures all) (from_last all))
    (omega (arith, some)) c.loop-i.invariant c.in_ok-push_procedures.ensures
