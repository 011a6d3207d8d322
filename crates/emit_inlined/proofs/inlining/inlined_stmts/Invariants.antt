use Rattle.std.proofs.Common.{◌≡◌, map, take}
use Rattle.c_syntax.specs.Tree.{stmts_of_list}
use Rattle.c_syntax.specs.Plain.{procedure_tree, stmt_tree}
use Rattle.emit_pruned.specs.Marks.{flag_at}
use Rattle.emit_inlined.specs.Steps.{place_in, stmts_by}
use Rattle.emit_inlined.proofs.inlining.inlined_stmts.Given as goal

abbrev pub invariant-loop-s : goal.invariant-loop-s
invariant-loop-s l = stmts_of_list (map stmt_tree l.list.items)
    ≡ stmts_by (map procedure_tree l.procedures) (flag_at l.helpers) (place_in l.places) (stmts_of_list (map stmt_tree (take l.s-index l.ss)))
