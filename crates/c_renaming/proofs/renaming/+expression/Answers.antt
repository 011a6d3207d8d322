use Rattle.std.proofs.Common.{◌≤◌, length, rules, sym, ap, ap₂, ◌∙◌, map}
use Rattle.c_syntax.specs.Tree.{ExprTree, pure, exprs_of_list}
use Rattle.c_syntax.specs.Plain.{expr_tree}
use Rattle.c_syntax.proofs.lemmas.PlainLaws.{expr_tree-Pure}
use Rattle.c_renaming.specs.Renamed.{renamed_expr, renamed_exprs}
use Rattle.c_renaming.proofs.PartlyMapped.{same-after, mapped-next, all-mapped, exprs-mapped}
use Rattle.c_renaming.proofs.renaming.+expression.Goals as goal

pub rename_expr-returns-in-Pure : goal.rename_expr-returns-in-Pure
rename_expr-returns-in-Pure g t c =
    let i = c.in-Pure in
    let leaf = g.R.Renaming.leaf_of c.args.by.now in
    let function = g.R.Renaming.function_of c.args.by.now in
    let procedure = g.R.Renaming.procedure_of c.args.by.now in
    expr_tree-Pure c.function.result c.rename_values.new.values
    ∙ ap₂ {C = ExprTree} pure (c.function.ensures ∙ ap function i.function-is)
    (c.rename_values.ensures ∙ ap (λ v. renamed_exprs leaf function procedure (exprs_of_list (map expr_tree v.items))) i.values-is)
    ∙ sym (ap (renamed_expr leaf function procedure) (ap expr_tree i.is ∙ expr_tree-Pure i.function i.values))

pub rename_exprs-loop-e-preserved : goal.rename_exprs-loop-e-preserved
rename_exprs-loop-e-preserved g t c =
    let by = c.args.by.now in
    let f = renamed_expr (g.R.Renaming.leaf_of by) (g.R.Renaming.function_of by) (g.R.Renaming.procedure_of by) in
    let l = c.loop-e in (
      same-after l.e-index l.es c.args.es.now c.rename_expr.new.e l.invariant.0,
      mapped-next expr_tree f l.e-index l.es (map expr_tree c.args.es.now) c.rename_expr.new.e c.e-item.result l.invariant.1
          (search rules) c.rename_expr.ensures,
    )

pub rename_exprs-returns : goal.rename_exprs-returns
rename_exprs-returns g t c =
    let leaf = g.R.Renaming.leaf_of c.args.by.now in
    let function = g.R.Renaming.function_of c.args.by.now in
    let procedure = g.R.Renaming.procedure_of c.args.by.now in
    let all : length c.args.es.now ≤ c.loop-e.e-index = search rules in
    ap exprs_of_list (c.loop-e.invariant.1 ∙ all-mapped expr_tree (renamed_expr leaf function procedure) c.loop-e.e-index c.args.es.now all)
    ∙ exprs-mapped leaf function procedure (map expr_tree c.args.es.now)
