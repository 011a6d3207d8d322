use Rattle.std.proofs.Common.{◌≡◌, ◌++◌, map}
use Rattle.std.specs.Vec.Iter.{into_iter_items, into_iter_len}
use Rattle.c_syntax.specs.Plain.{procedure_tree}
use Rattle.emit_fused.specs.Fused.{fused_procedure}
use Rattle.emit_fused.proofs.program.fused_procedures.Given as goal

abbrev pub invariant-loop-q : goal.invariant-loop-q
invariant-loop-q l =
    map procedure_tree l.list.items ++ map fused_procedure (map procedure_tree (into_iter_items l.rest))
    ≡ map fused_procedure (map procedure_tree l.fn.procedures.items)

abbrev pub decreases-loop-q : goal.decreases-loop-q
decreases-loop-q l = into_iter_len l.rest
