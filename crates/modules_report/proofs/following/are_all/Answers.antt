use Rattle.std.proofs.lemmas.Slice.Eq.{slice_eq-Decides}
use Rattle.modules_report.proofs.FunctionLines.{same-functions}
use Rattle.modules_report.proofs.following.are_all.Goals as goal

pub returns-then-functions-count-clause-all : goal.returns-then-functions-count-clause-all
returns-then-functions-count-clause-all c =
    (slice_eq-Decides same-functions c.args.found.now c.args.functions.now c.eq.result c.eq.ensures).0

pub returns-then-functions-count-clause-only : goal.returns-then-functions-count-clause-only
returns-then-functions-count-clause-only c = λ none number same.
    (slice_eq-Decides same-functions c.args.found.now c.args.functions.now c.eq.result c.eq.ensures).1 same
