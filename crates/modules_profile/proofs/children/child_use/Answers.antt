use Rattle.std.proofs.Common.{◌<◌, All, length, subst, sym, ◌∙◌}
use Rattle.diagram_meaning.specs.Nested.{row_of, system_of}
use Rattle.modules_profile.proofs.NestedLists.{agreed-own, rows-inside}
use Rattle.modules_profile.proofs.children.child_use.Goals as goal

pub inports-requires : goal.inports-requires
inports-requires c =
    subst (All (λ b. b < length c.args.r.now.tree.table.rows))
    (sym (c.own.ensures ∙ agreed-own c.args.r.now.tree.table.rows (system_of c.args.child.now) c.requires.system))
    (rows-inside c.args.r.now.tree.table.rows (row_of (system_of c.args.child.now)))
