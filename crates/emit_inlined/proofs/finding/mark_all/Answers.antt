use Rattle.std.proofs.Common.{map, arith}
use Rattle.std.specs.List.{flat_map}
use Rattle.c_syntax.specs.declared.program.Procedure.{Procedure}
use Rattle.c_syntax.specs.Plain.{procedure_tree}
use Rattle.c_renaming.proofs.lemmas.OneByOne.{done-more, done-all, procedures-flat}
use Rattle.emit_pruned.specs.Marks.{flag_at, marked}
use Rattle.emit_pruned.proofs.lemmas.Flags.{marked_append}
use Rattle.emit_inlined.specs.Steps.{helpers_of}
use Rattle.emit_inlined.proofs.finding.mark_all.Goals as goal

pub loop-q-preserved : goal.loop-q-preserved
loop-q-preserved c =
    done-more marked marked_append (λ (q : Procedure). helpers_of (flag_at c.args.helpers.now) (procedure_tree q)) c.args.procedures.now
    c.loop-q.q-index c.q-item.result c.args.inlined.now c.loop-q.inlined c.mark_in.new.inlined
    (omega (arith, c.loop-q-test.true)) c.q-item.is c.loop-q.invariant c.in_ok-mark_in.ensures

pub returns : goal.returns
returns c =
    done-all marked marked_append (λ (q : Procedure). helpers_of (flag_at c.args.helpers.now) (procedure_tree q)) c.args.procedures.now
    c.loop-q.q-index c.args.inlined.now c.loop-q.inlined
    (flat_map (helpers_of (flag_at c.args.helpers.now)) (map procedure_tree c.args.procedures.now))
    (omega (arith, c.loop-q-test.false)) (procedures-flat (helpers_of (flag_at c.args.helpers.now)) c.args.procedures.now)
    c.loop-q.invariant
