use Rattle.std.proofs.Common.{sym, subst}
use Rattle.std.specs.Prelude.{Err}
use Rattle.base_host.specs.Reading.{source}
use Rattle.tool_runner.specs.declared.outcome.RunFault.TheVariants.{Memory}
use Rattle.tool_runner.specs.Runs.{no_totals, RunsOver}
use Rattle.tool_runner.specs.Ticks.{standing}
use Rattle.tool_runner.proofs.Files.{walks_over, stops_over, nothing_read}
use Rattle.tool_runner.proofs.trace_file.run_trace.Goals as goal

pub returns-in_default-clause-ran : goal.returns-in_default-clause-ran
returns-in_default-clause-ran g c =
    let from = source (g.H.Host.rest c.args.host.now) (g.H.Host.given c.args.host.now) in
    let put = g.S.Sink.bytes c.args.sink.now in
    subst (λ totals. RunsOver (Err Memory) from from c.args.types.now (standing c.args.machine.now no_totals put)
    (standing c.args.machine.now totals put)) (sym c.none.ensures)
    (nothing_read from c.args.types.now (standing c.args.machine.now no_totals put))

pub returns-in-Ok-clause-ran : goal.returns-in-Ok-clause-ran
returns-in-Ok-clause-ran g c =
    let begun = c.in-Ok-Ok in
    walks_over c.args.types.now (begun.run', c.args.machine.now) begun.ensures'.types begun.ensures'.totals
    (g.S.Sink.bytes c.args.sink.now) (g.S.Sink.bytes c.walk_file.new.sink)
    (source (g.H.Host.rest c.args.host.now) (g.H.Host.given c.args.host.now))
    (source (g.H.Host.rest c.walk_file.new.host) (g.H.Host.given c.walk_file.new.host))
    (c.walk_file.new.walk, c.walk_file.new.machine) c.in-Ok.ensures.walked

pub returns-clause-ran : goal.returns-clause-ran
returns-clause-ran g c =
    let begun = c.in-Ok-Ok in
    let from = source (g.H.Host.rest c.args.host.now) (g.H.Host.given c.args.host.now) in
    let to = source (g.H.Host.rest c.walk_file.new.host) (g.H.Host.given c.walk_file.new.host) in
    let put = g.S.Sink.bytes c.args.sink.now in
    let put' = g.S.Sink.bytes c.walk_file.new.sink in
    subst (λ fault. RunsOver (Err fault) from to c.args.types.now (standing c.args.machine.now no_totals put)
    (standing c.walk_file.new.machine c.walk_file.new.walk.totals put')) (sym c.of_stream.ensures)
    (stops_over c.args.types.now (begun.run', c.args.machine.now) begun.ensures'.types begun.ensures'.totals put put'
    c.in-Err.fault from to (c.walk_file.new.walk, c.walk_file.new.machine) c.in-Err.ensures.walked)
