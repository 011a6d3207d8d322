use Rattle.std.proofs.Common.{◌<◌, All, length, subst, sym, ◌∙◌}
use Rattle.diagram_meaning.specs.Nested.{row_of, system_of}
use Rattle.modules_profile.proofs.NestedLists.{agreed-own, rows-inside}
use Rattle.modules_profile.proofs.local.local_of.Goals as goal

pub types_of-requires : goal.types_of-requires
types_of-requires c = subst (All (λ b. b < length c.args.r.now.tree.table.rows)) (sym c.wires.ensures) c.in_ok-control_row.ensures.rows

pub local_rows-requires : goal.local_rows-requires
local_rows-requires c =
    subst (All (λ b. b < length c.args.r.now.tree.table.rows))
    (sym (c.own.ensures ∙ agreed-own c.args.r.now.tree.table.rows (system_of c.args.s.now) c.requires.system))
    (rows-inside c.args.r.now.tree.table.rows (row_of (system_of c.args.s.now)))
