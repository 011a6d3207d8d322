use Rattle.std.proofs.Common.{ap, subst, ◌∙◌, refl}
use Rattle.std.specs.Prelude.{Err}
use Rattle.std.specs.Str.Lines.{lines}
use Rattle.std.proofs.lemmas.Result.{err_from_is_err_and}
use Rattle.std.proofs.lemmas.List.{take_rest}
use Rattle.tool_stream.specs.Walks.{place, WalksOver}
use Rattle.tool_stream.proofs.Causes.{cause_handed}
use Rattle.tool_stream.proofs.Texts.{over_handed, text_stops, text_over}
use Rattle.tool_stream.proofs.lines.walk_text.Goals as goal

pub returns-in_err-done-clause-walked : goal.returns-in_err-done-clause-walked
returns-in_err-done-clause-walked g c =
    let p = err_from_is_err_and c.from_residual.result c.from_residual.ensures.1 in
    let s = place (c.args.walk.now, c.args.machine.now) (g.S.Sink.bytes c.args.sink.now) c.args.waiting.now in
    let s' = place (c.walk_lines.new.walk, c.walk_lines.new.machine) (g.S.Sink.bytes c.walk_lines.new.sink) c.walk_lines.new.waiting in
    over_handed g.W.LineWalk.steps (λ a. g.W.LineWalk.said a.0) g.W.LineWalk.stops c.from_residual.result c.in_err-done.field-0.0
    (lines c.args.text.now) s s' (p.1 ∙ ap (λ f. Err f) p.2)
    (text_stops g.W.LineWalk.steps (λ a. g.W.LineWalk.said a.0) g.W.LineWalk.stops c.in_err-done.field-0.0 c.args.text.now s s'
    c.in_err-done.ensures.walked)

pub returns-in_err-done-clause-cause : goal.returns-in_err-done-clause-cause
returns-in_err-done-clause-cause g c =
    let p = err_from_is_err_and c.from_residual.result c.from_residual.ensures.1 in
    cause_handed _ _ _ _ c.from_residual.result c.in_err-done.field-0.0 (p.1 ∙ ap (λ f. Err f) p.2) refl c.in_err-done.ensures.cause

pub returns-clause-walked : goal.returns-clause-walked
returns-clause-walked g c =
    let s = place (c.args.walk.now, c.args.machine.now) (g.S.Sink.bytes c.args.sink.now) c.args.waiting.now in
    let s' = place (c.walk_lines.new.walk, c.walk_lines.new.machine) (g.S.Sink.bytes c.walk_lines.new.sink) c.walk_lines.new.waiting in
    let s'' = place (c.walk_last.new.walk, c.walk_last.new.machine) (g.S.Sink.bytes c.walk_last.new.sink) c.walk_last.new.waiting in
    text_over g.W.LineWalk.steps (λ a. g.W.LineWalk.said a.0) g.W.LineWalk.stops c.walk_last.result c.in_ok-done.done
    c.args.text.now s s' s'' c.in_ok-done.ensures.walked
    (subst (λ t. WalksOver g.W.LineWalk.steps (λ a. g.W.LineWalk.said a.0) g.W.LineWalk.stops c.walk_last.result (lines t) s' s'')
    (take_rest c.args.text.now c.in_ok-done.done) c.walk_last.ensures.walked)
