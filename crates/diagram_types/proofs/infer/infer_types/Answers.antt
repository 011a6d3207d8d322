use Rattle.std.proofs.Common.{rules, ◌≡◌, subst, sym}
use Rattle.diagram_types.specs.Inferred.{AreCountable}
use Rattle.diagram_types.proofs.Countable.{countable}
use Rattle.diagram_types.proofs.infer.infer_types.Goals as goal

pub infer-requires : goal.infer-requires
infer-requires c =
    let e : c.as_slice.result.now ≡ c.args.tree.now.table.rows = search rules in
    subst AreCountable (sym e) (countable c.args.tree.now.table c.table.ensures.diagram.table)
