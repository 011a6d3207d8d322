use Rattle.std.proofs.Common.{refl, ap, ◌∙◌, arith}
use Rattle.std.specs.Prelude.{Err}
use Rattle.std.proofs.lemmas.Result.{err_from_is_err_and}
use Rattle.tool_traces.proofs.lemmas.LineWalk.{shows, nothing_whole}
use Rattle.tool_traces.proofs.lemmas.RowWalk.{line_places}
use Rattle.tool_stream.specs.Walks.{place}
use Rattle.tool_stream.proofs.Causes.{cause_handed}
use Rattle.tool_stream.proofs.Texts.{none_up_to, further, line_ends, long_ends, text_handed}
use Rattle.tool_stream.proofs.lines.walk_whole.Goals as goal

pub loop-start-init : goal.loop-start-init
loop-start-init g c = record {
  up_to =
      none_up_to g.W.LineWalk.steps (λ a. g.W.LineWalk.said a.0) g.W.LineWalk.stops c.args.text.now
      (place (c.args.walk.now, c.args.machine.now) (g.S.Sink.bytes c.args.sink.now) c.args.waiting.now);
  within = omega arith;
  ready = c.requires.ready;
  later = omega arith;
  few = c.requires.few;
  none = λ same. refl;
  calm = refl;
}

pub slice_bounds-walk_line-end : goal.slice_bounds-walk_line-end
slice_bounds-walk_line-end g c = (line_places c.args.text.now c.loop-start.at _ _ _ c.in-Line.ensures).1

pub returns-in_err-walk_line-in-Line-clause-walked : goal.returns-in_err-walk_line-in-Line-clause-walked
returns-in_err-walk_line-in-Line-clause-walked g c =
    let p = err_from_is_err_and c.from_residual.result c.from_residual.ensures.1 in
    let s = place (c.args.walk.now, c.args.machine.now) (g.S.Sink.bytes c.args.sink.now) c.args.waiting.now in
    let s' = place (c.loop-start.walk, c.loop-start.machine) (g.S.Sink.bytes c.loop-start.sink) c.loop-start.waiting in
    let s'' =
    place (c.walk_line.new.walk, c.walk_line.new.machine) (g.S.Sink.bytes c.walk_line.new.sink) c.walk_line.new.waiting in
    text_handed g.W.LineWalk.steps (λ a. g.W.LineWalk.said a.0) g.W.LineWalk.stops c.from_residual.result
    c.in_err-walk_line-in-Line.field-0.0
    c.args.text.now s s'' (p.1 ∙ ap (λ f. Err f) p.2)
    (line_ends g.W.LineWalk.steps (λ a. g.W.LineWalk.said a.0) g.W.LineWalk.stops c.in_err-walk_line-in-Line.field-0.0 c.args.text.now
    c.loop-start.at _ _ _ s s' s'' c.loop-start.invariant.up_to (shows c.args.text.now c.loop-start.at _ c.in-Line.ensures)
    c.in_err-walk_line-in-Line.ensures.walked)

pub returns-in_err-walk_line-in-Line-clause-cause : goal.returns-in_err-walk_line-in-Line-clause-cause
returns-in_err-walk_line-in-Line-clause-cause g c =
    let p = err_from_is_err_and c.from_residual.result c.from_residual.ensures.1 in
    cause_handed _ _ _ _ c.from_residual.result c.in_err-walk_line-in-Line.field-0.0 (p.1 ∙ ap (λ f. Err f) p.2)
    c.loop-start.invariant.calm c.in_err-walk_line-in-Line.ensures.cause

pub loop-start-smaller : goal.loop-start-smaller
loop-start-smaller g c =
    let stands = shows c.args.text.now c.loop-start.at _ c.in-Line.ensures in
    let on = stands.goes_on in
    let within = stands.within in
    omega (arith, on, within)

pub loop-start-preserved : goal.loop-start-preserved
loop-start-preserved g c =
    let s = place (c.args.walk.now, c.args.machine.now) (g.S.Sink.bytes c.args.sink.now) c.args.waiting.now in
    let s' = place (c.loop-start.walk, c.loop-start.machine) (g.S.Sink.bytes c.loop-start.sink) c.loop-start.waiting in
    let s'' =
    place (c.walk_line.new.walk, c.walk_line.new.machine) (g.S.Sink.bytes c.walk_line.new.sink) c.walk_line.new.waiting in
    let stands = shows c.args.text.now c.loop-start.at _ c.in-Line.ensures in
    let counted = c.in_ok-walk_line-in-Line.ensures.counted in
    let later = c.loop-start.invariant.later in
    record {
      up_to =
          further g.W.LineWalk.steps (λ a. g.W.LineWalk.said a.0) g.W.LineWalk.stops c.args.text.now c.loop-start.at _ _ _ s s' s''
          c.loop-start.invariant.up_to stands c.in_ok-walk_line-in-Line.ensures.walked;
      within = stands.within;
      ready = c.in_ok-walk_line-in-Line.ensures.ready;
      later = omega (arith, counted, later);
      few = c.in_ok-walk_line-in-Line.ensures.few;
      none = λ same. absurd (omega (arith, same, counted, later));
      calm = c.in_ok-walk_line-in-Line.ensures.cause.calm (λ e. cc) ∙ c.loop-start.invariant.calm;
    }

pub returns-in-Long-clause-walked : goal.returns-in-Long-clause-walked
returns-in-Long-clause-walked g c =
    long_ends g.W.LineWalk.steps (λ a. g.W.LineWalk.said a.0) g.W.LineWalk.stops c.too_long.result c.args.text.now c.loop-start.at
    (place (c.args.walk.now, c.args.machine.now) (g.S.Sink.bytes c.args.sink.now) c.args.waiting.now)
    (c.loop-start.walk, c.loop-start.machine) (g.S.Sink.bytes c.loop-start.sink) c.loop-start.waiting c.loop-start.invariant.up_to
    (shows c.args.text.now c.loop-start.at _ c.in-Long.ensures) (c.too_long.ensures c.loop-start.machine)

pub returns-in-End-clause-walked : goal.returns-in-End-clause-walked
returns-in-End-clause-walked g c = record {
  up_to = c.loop-start.invariant.up_to;
  rest = nothing_whole c.args.text.now c.loop-start.at c.next_line.result c.next_line.ensures c.in-End.is;
}
