use Rattle.std.proofs.Common.{◌≢◌, rules}
use Rattle.std.specs.Prelude.{Err}
use Rattle.tool_stream.specs.declared.fault.StreamFault.TheVariants.{Put}
use Rattle.tool_stream.specs.Walks.{place}
use Rattle.tool_stream.proofs.lemmas.Waiting.{if_err, if_ok}
use Rattle.tool_stream.proofs.Texts.{text_printed, text_cut}
use Rattle.tool_stream.proofs.lines.walk_lines.Goals as goal
use Rattle.tool_stream.proofs.lines.walk_lines.Goals.{in-Err+in-Read-1, in-Ok-1}

pub returns-then-is_err-clause-walked : goal.returns-then-is_err-clause-walked
returns-then-is_err-clause-walked g c =
    let other : c.walk_whole-ran.result ≢ Err Put =
    elim c.match-ran.branch [ in-Err+in-Read-1 w ↦ search rules | in-Ok-1 w ↦ search rules ] in
    text_cut g.W.LineWalk.steps (λ a. g.W.LineWalk.said a.0) g.W.LineWalk.stops c.walk_whole-ran.result c.args.text.now
    (place (c.args.walk.now, c.args.machine.now) (g.S.Sink.bytes c.args.sink.now) c.args.waiting.now)
    (place (c.walk_whole-ran.new.walk, c.walk_whole-ran.new.machine) (g.S.Sink.bytes c.walk_whole-ran.new.sink)
    c.walk_whole-ran.new.waiting) (g.S.Sink.bytes c.flush.new.sink) c.flush.new.self
    (if_err c.flush.result c.if-is_err.ensures.value c.flush.ensures.front) other c.walk_whole-ran.ensures.walked

pub returns-clause-walked : goal.returns-clause-walked
returns-clause-walked g c =
    let other : c.walk_whole-ran.result ≢ Err Put =
    elim c.match-ran.branch [ in-Err+in-Read-1 w ↦ search rules | in-Ok-1 w ↦ search rules ] in
    text_printed g.W.LineWalk.steps (λ a. g.W.LineWalk.said a.0) g.W.LineWalk.stops c.walk_whole-ran.result c.args.text.now
    (place (c.args.walk.now, c.args.machine.now) (g.S.Sink.bytes c.args.sink.now) c.args.waiting.now)
    (place (c.walk_whole-ran.new.walk, c.walk_whole-ran.new.machine) (g.S.Sink.bytes c.walk_whole-ran.new.sink)
    c.walk_whole-ran.new.waiting) (g.S.Sink.bytes c.flush.new.sink) c.flush.new.self
    (if_ok c.flush.result c.if-is_err.ensures.value c.flush.ensures.whole) c.flush.ensures.empty other
    c.walk_whole-ran.ensures.walked
