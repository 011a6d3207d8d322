use Rattle.std.proofs.Common.{List, [], ◌∷◌, ◌++◌, sym, ap, ◌∙◌}
use Rattle.std.proofs.lemmas.Slice.Eq.{slice_eq-Decides}
use Rattle.modules_profile.specs.declared.Function.{Function}
use Rattle.modules_report.proofs.FunctionLines.{same-front, same-functions}
use Rattle.modules_report.proofs.following.are_first.Goals as goal

pub returns-then-count-functions-clause-first : goal.returns-then-count-functions-clause-first
returns-then-count-functions-clause-first c = λ e. (
  c.in-Some.field-0-0.now,
  c.in-Some.ensures.cases.0 ∙ ap (λ (fs : List Function). fs ++ c.in-Some.field-0-0.now ∷ [])
      ((slice_eq-Decides same-functions c.in-Some.first.now c.args.functions.now c.eq.result c.eq.ensures).0 e),
)

pub returns-then-count-functions-clause-only : goal.returns-then-count-functions-clause-only
returns-then-count-functions-clause-only c = λ some more enough front.
    (slice_eq-Decides same-functions c.in-Some.first.now c.args.functions.now c.eq.result c.eq.ensures).1
    (same-front c.in-Some.first.now c.args.functions.now c.in-Some.field-0-0.now front.0 (sym c.in-Some.ensures.cases.0 ∙ front.1))
