use Rattle.std.proofs.Common.{◌≡◌, ◌<◌, length, Some, sym, ◌∙◌, ap, subst, arith, slice_set}
use Rattle.diagram_meaning.specs.declared.table.Row.{Row}
use Rattle.diagram_meaning.specs.Types.{Known, SameAs, rule_of, inherited_rule, type_rule}
use Rattle.diagram_types.specs.declared.marks.Mark.TheVariants.{OnPath}
use Rattle.diagram_types.specs.Marks.{is_new, met_by}
use Rattle.diagram_types.specs.Walks.{AreMarks, IsPath, AllMeet}
use Rattle.diagram_types.proofs.PathLemmas.{new-inside, marks-more, path-more, start-more, path-rule, known-followed, mark-followed, path-mark}
use Rattle.diagram_types.proofs.follow.follow.Goals as goal

pub walk-preserved : goal.walk-preserved
walk-preserved c =
    let rows = c.args.rows.now in
    let new = ap is_new (sym c.mark_at.ensures) ∙ sym c.is_new.ensures ∙ c.walk-test.true in
    let inside = new-inside c.walk.marks c.walk.at new in
    let row_inside : c.walk.at < length rows = omega (arith, inside, c.walk.invariant.marks.one_each) in
    let rule : type_rule rows c.walk.at ≡ SameAs c.in-SameAs.next =
    sym (c.in-SameAs.ensures ∙ ap (λ (row : Row). rule_of row.type_text (inherited_rule row.kind row.inputs)) c.row_at.ensures) in
    record {
      marks = subst (AreMarks rows (slice_set c.walk.marks c.walk.at OnPath)) (sym c.in_ok-push.ensures.items)
          (marks-more rows c.walk.marks c.walk.path.items c.walk.at inside c.walk.invariant.marks);
      path = subst (λ path. IsPath rows path c.in-SameAs.next) (sym c.in_ok-push.ensures.items)
          (path-more rows c.walk.path.items c.walk.at c.in-SameAs.next row_inside rule c.walk.invariant.path);
      same_type = start-more rows c.args.start c.walk.at c.in-SameAs.next rule c.walk.invariant.same_type;
    }

pub returns-in-Known-clause-met : goal.returns-in-Known-clause-met
returns-in-Known-clause-met c =
    let rows = c.args.rows.now in
    let rule : type_rule rows c.walk.at ≡ Known c.in-Known.t =
    sym (c.in-Known.ensures ∙ ap (λ (row : Row). rule_of row.type_text (inherited_rule row.kind row.inputs)) c.row_at.ensures) in
    sym (c.walk.invariant.same_type ∙ known-followed rows c.walk.at c.in-Known.t rule)

pub returns-in-Known-clause-path : goal.returns-in-Known-clause-path
returns-in-Known-clause-path c =
    let rows = c.args.rows.now in
    let new = ap is_new (sym c.mark_at.ensures) ∙ sym c.is_new.ensures ∙ c.walk-test.true in
    let inside = new-inside c.walk.marks c.walk.at new in
    let row_inside : c.walk.at < length rows = omega (arith, inside, c.walk.invariant.marks.one_each) in
    let rule : type_rule rows c.walk.at ≡ Known c.in-Known.t =
    sym (c.in-Known.ensures ∙ ap (λ (row : Row). rule_of row.type_text (inherited_rule row.kind row.inputs)) c.row_at.ensures) in
    subst (λ path. AllMeet rows path (Some c.in-Known.t)) (sym c.in_ok-push.ensures.items)
    (path-rule rows c.walk.path.items c.walk.at (Some c.in-Known.t) row_inside
    (known-followed rows c.walk.at c.in-Known.t rule) c.walk.invariant.path)

pub returns-in-Known-clause-marks : goal.returns-in-Known-clause-marks
returns-in-Known-clause-marks c =
    let new = ap is_new (sym c.mark_at.ensures) ∙ sym c.is_new.ensures ∙ c.walk-test.true in
    subst (AreMarks c.args.rows.now (slice_set c.walk.marks c.walk.at OnPath)) (sym c.in_ok-push.ensures.items)
    (marks-more c.args.rows.now c.walk.marks c.walk.path.items c.walk.at (new-inside c.walk.marks c.walk.at new) c.walk.invariant.marks)

pub returns-in-NoRule-clause-marks : goal.returns-in-NoRule-clause-marks
returns-in-NoRule-clause-marks c =
    let new = ap is_new (sym c.mark_at.ensures) ∙ sym c.is_new.ensures ∙ c.walk-test.true in
    subst (AreMarks c.args.rows.now (slice_set c.walk.marks c.walk.at OnPath)) (sym c.in_ok-push.ensures.items)
    (marks-more c.args.rows.now c.walk.marks c.walk.path.items c.walk.at (new-inside c.walk.marks c.walk.at new) c.walk.invariant.marks)

pub returns-clause-met : goal.returns-clause-met
returns-clause-met c =
    let old = ap is_new (sym c.mark_at.ensures) ∙ sym c.is_new.ensures ∙ c.walk-test.false in
    c.met_by-met.ensures ∙ ap met_by c.mark_at-2.ensures
    ∙ mark-followed c.args.rows.now c.walk.marks c.walk.path.items c.walk.at old c.walk.invariant.marks
    c.walk.invariant.path ∙ sym c.walk.invariant.same_type

pub returns-clause-path : goal.returns-clause-path
returns-clause-path c =
    let old = ap is_new (sym c.mark_at.ensures) ∙ sym c.is_new.ensures ∙ c.walk-test.false in
    path-mark c.args.rows.now c.walk.path.items c.walk.at c.met_by-met.result
    (c.met_by-met.ensures ∙ ap met_by c.mark_at-2.ensures
    ∙ mark-followed c.args.rows.now c.walk.marks c.walk.path.items c.walk.at old c.walk.invariant.marks c.walk.invariant.path)
    c.walk.invariant.path
