use Rattle.tool_stream.proofs.lemmas.Waiting.{if_err, if_ok}
use Rattle.tool_stream.proofs.lemmas.WalkLaws.{line_walked, line_cut, line_stops}
use Rattle.tool_stream.proofs.lines.walk_line.Goals as goal

pub returns-in-Err-clause-walked : goal.returns-in-Err-clause-walked
returns-in-Err-clause-walked g c = λ behind.
    line_stops g.W.LineWalk.steps (λ a. g.W.LineWalk.said a.0) g.W.LineWalk.stops c.in-Err.stop c.args.line.now behind
    (c.args.walk.now, c.args.machine.now) _ (g.S.Sink.bytes c.args.sink.now) c.args.waiting.now c.in-Err.ensures.walked

pub returns-then-is_err-clause-walked : goal.returns-then-is_err-clause-walked
returns-then-is_err-clause-walked g c = λ behind.
    line_cut g.W.LineWalk.steps (λ a. g.W.LineWalk.said a.0) g.W.LineWalk.stops c.args.line.now behind
    (c.args.walk.now, c.args.machine.now) _ (g.S.Sink.bytes c.args.sink.now) _ c.args.waiting.now _
    c.in_default.ensures.walked (if_err c.print.result c.if-is_err.ensures.value c.print.ensures.front)

pub returns-clause-walked : goal.returns-clause-walked
returns-clause-walked g c =
    line_walked g.W.LineWalk.steps (λ a. g.W.LineWalk.said a.0) g.W.LineWalk.stops c.args.line.now
    (c.args.walk.now, c.args.machine.now) _ (g.S.Sink.bytes c.args.sink.now) _ c.args.waiting.now _
    c.in_default.ensures.walked (if_ok c.print.result c.if-is_err.ensures.value c.print.ensures.taken)
