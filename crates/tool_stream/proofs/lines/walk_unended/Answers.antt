use Rattle.std.proofs.Common.{◌≢◌, length, rules}
use Rattle.tool_traces.proofs.lemmas.LineWalk.{last_is}
use Rattle.tool_stream.specs.Walks.{place}
use Rattle.tool_stream.proofs.lemmas.FilePieces.{no_bytes}
use Rattle.tool_stream.proofs.Texts.{nothing_last, line_last}
use Rattle.tool_stream.proofs.lines.walk_unended.Goals as goal

pub returns-then-is_empty-clause-walked : goal.returns-then-is_empty-clause-walked
returns-then-is_empty-clause-walked g c =
    nothing_last g.W.LineWalk.steps (λ a. g.W.LineWalk.said a.0) g.W.LineWalk.stops c.args.text.now
    (place (c.args.walk.now, c.args.machine.now) (g.S.Sink.bytes c.args.sink.now) c.args.waiting.now)
    (no_bytes c.args.text.now (search rules))

pub returns-clause-walked : goal.returns-clause-walked
returns-clause-walked g c =
    let some : length c.args.text.now ≢ 0 = search rules in
    line_last g.W.LineWalk.steps (λ a. g.W.LineWalk.said a.0) g.W.LineWalk.stops c.walk_line.result c.args.text.now
    (place (c.args.walk.now, c.args.machine.now) (g.S.Sink.bytes c.args.sink.now) c.args.waiting.now)
    (place (c.walk_line.new.walk, c.walk_line.new.machine) (g.S.Sink.bytes c.walk_line.new.sink) c.walk_line.new.waiting)
    (last_is c.args.text.now c.requires.unended some) c.walk_line.ensures.walked
