use Rattle.std.proofs.Common.{◌≤◌, length, rules, sym, ap, ◌∙◌, map}
use Rattle.c_syntax.specs.Tree.{branch, stmts_of_list}
use Rattle.c_syntax.specs.Plain.{cond_tree, stmt_tree}
use Rattle.c_syntax.proofs.lemmas.PlainLaws.{stmt_tree-If}
use Rattle.c_renaming.specs.Renamed.{renamed_cond, renamed_stmt, renamed_stmts}
use Rattle.c_renaming.proofs.PartlyMapped.{same-after, mapped-next, all-mapped, stmts-mapped}
use Rattle.c_renaming.proofs.renaming.+statement.Goals as goal

pub rename_stmt-returns-in-If : goal.rename_stmt-returns-in-If
rename_stmt-returns-in-If g t c =
    let i = c.in-If in
    let leaf = g.R.Renaming.leaf_of c.args.by.now in
    let function = g.R.Renaming.function_of c.args.by.now in
    let procedure = g.R.Renaming.procedure_of c.args.by.now in
    let test = c.rename_cond.ensures ∙ ap (λ x. renamed_cond leaf function procedure (cond_tree x)) i.test-is in
    let yes = c.rename_body.ensures
    ∙ ap (λ v. renamed_stmts leaf function procedure (stmts_of_list (map stmt_tree v.items))) i.yes-is in
    let no = c.rename_body-in-If.ensures
    ∙ ap (λ v. renamed_stmts leaf function procedure (stmts_of_list (map stmt_tree v.items))) i.no-is in
    stmt_tree-If _ c.rename_cond.new.test c.rename_body.new.body c.rename_body-in-If.new.body
    ∙ (λ k. branch (i.line-is k) (test k) (yes k) (no k))
    ∙ sym (ap (renamed_stmt leaf function procedure) (ap stmt_tree i.is ∙ stmt_tree-If i.line i.test i.yes i.no))

pub rename_stmts-loop-s-preserved : goal.rename_stmts-loop-s-preserved
rename_stmts-loop-s-preserved g t c =
    let by = c.args.by.now in
    let f = renamed_stmt (g.R.Renaming.leaf_of by) (g.R.Renaming.function_of by) (g.R.Renaming.procedure_of by) in
    let l = c.loop-s in (
      same-after l.s-index l.ss c.args.ss.now c.rename_stmt.new.s l.invariant.0,
      mapped-next stmt_tree f l.s-index l.ss (map stmt_tree c.args.ss.now) c.rename_stmt.new.s c.s-item.result l.invariant.1
          (search rules) c.rename_stmt.ensures,
    )

pub rename_stmts-returns : goal.rename_stmts-returns
rename_stmts-returns g t c =
    let leaf = g.R.Renaming.leaf_of c.args.by.now in
    let function = g.R.Renaming.function_of c.args.by.now in
    let procedure = g.R.Renaming.procedure_of c.args.by.now in
    let all : length c.args.ss.now ≤ c.loop-s.s-index = search rules in
    ap stmts_of_list (c.loop-s.invariant.1 ∙ all-mapped stmt_tree (renamed_stmt leaf function procedure) c.loop-s.s-index c.args.ss.now all)
    ∙ stmts-mapped leaf function procedure (map stmt_tree c.args.ss.now)
