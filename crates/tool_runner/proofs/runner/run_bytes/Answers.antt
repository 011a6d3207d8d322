use Rattle.std.proofs.Common.{◌≡◌, sym, subst}
use Rattle.std.specs.Str.Lines.{lines}
use Rattle.tool_traces.specs.Rows.{rows_of}
use Rattle.tool_stream.specs.declared.fault.StreamFault.TheVariants.{Put}
use Rattle.tool_runner.specs.Runs.{no_totals, StoppedBy}
use Rattle.tool_runner.specs.Ticks.{standing}
use Rattle.tool_runner.proofs.Files.{walks_bytes, stops_bytes}
use Rattle.tool_runner.proofs.runner.run_bytes.Goals as goal

pub returns-in-Ok-clause-ran : goal.returns-in-Ok-clause-ran
returns-in-Ok-clause-ran g c =
    let begun = c.in-Ok-Ok in
    walks_bytes c.args.types.now (begun.run', c.args.machine.now) begun.ensures'.types begun.ensures'.totals
    (g.S.Sink.bytes c.args.sink.now) (g.S.Sink.bytes c.walk_text.new.sink) (lines c.args.trace.now)
    (c.walk_text.new.walk, c.walk_text.new.machine) _ _ begun.ensures (c.in-Ok.ensures.empty (λ e. cc)) c.in-Ok.ensures.walked

pub returns-clause-ran : goal.returns-clause-ran
returns-clause-ran g c =
    let begun = c.in-Ok-Ok in
    let put = g.S.Sink.bytes c.args.sink.now in
    let put' = g.S.Sink.bytes c.walk_text.new.sink in
    subst (λ fault. StoppedBy fault (rows_of c.args.trace.now c.args.types.now) (standing c.args.machine.now no_totals put)
    (standing c.walk_text.new.machine c.walk_text.new.walk.totals put')) (sym c.of_stream.ensures)
    (stops_bytes c.args.types.now (begun.run', c.args.machine.now) begun.ensures'.types begun.ensures'.totals put put'
    c.in-Err.fault (lines c.args.trace.now) (c.walk_text.new.walk, c.walk_text.new.machine) _ _ begun.ensures
    (λ other. c.in-Err.ensures.empty (λ e. other (let one : c.in-Err.fault ≡ Put = cc in one))) c.in-Err.ensures.walked)
