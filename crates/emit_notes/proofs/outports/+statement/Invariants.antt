use Rattle.std.proofs.Common.{◌≡◌, ◌++◌, map, take}
use Rattle.std.specs.List.{flat_map}
use Rattle.c_syntax.specs.Plain.{stmt_tree}
use Rattle.c_syntax.specs.PlainField.{field_trees}
use Rattle.emit_notes.specs.Outports.{stmt_outports}
use Rattle.emit_notes.proofs.outports.+statement.Given as goal

abbrev pub invariant-push_stmts-loop-s : goal.invariant-push_stmts-loop-s
invariant-push_stmts-loop-s l =
    l.rows.items ≡ l.initial.rows.items
    ++ flat_map (λ s. stmt_outports l.labels (field_trees l.fields) (map (λ x. x.items) l.earlier) (stmt_tree s)) (take l.s-index l.ss)
