use Rattle.std.proofs.Common.{sym, subst}
use Rattle.std.specs.Prelude.{Err}
use Rattle.base_host.specs.Reading.{source}
use Rattle.lustre_syntax.specs.Plain.{file_tree}
use Rattle.tool_flow_runner.specs.Runs.{RunsOver}
use Rattle.tool_flow_runner.proofs.Files.{first_begins, walks_over, stops_over, nothing_read}
use Rattle.tool_flow_runner.proofs.trace_file.flow_trace.Goals as goal

pub returns-in_default-clause-ran : goal.returns-in_default-clause-ran
returns-in_default-clause-ran g c =
    nothing_read (file_tree c.args.file) (source (g.H.Host.rest c.args.host.now) (g.H.Host.given c.args.host.now))
    (g.S.Sink.bytes c.args.sink.now)

pub returns-in-Ok-clause-ran : goal.returns-in-Ok-clause-ran
returns-in-Ok-clause-ran g c =
    let begun = c.in-Ok-Ok-Ok in
    walks_over (file_tree c.args.file) (begun.walk, begun.flows)
    (first_begins c.args.file (begun.walk, begun.flows) begun.ensures'' begun.ensures'.ticks)
    (g.S.Sink.bytes c.args.sink.now) (g.S.Sink.bytes c.walk_file.new.sink)
    (source (g.H.Host.rest c.args.host.now) (g.H.Host.given c.args.host.now))
    (source (g.H.Host.rest c.walk_file.new.host) (g.H.Host.given c.walk_file.new.host))
    (c.walk_file.new.walk, c.walk_file.new.machine) c.in-Ok.ensures.walked

pub returns-clause-ran : goal.returns-clause-ran
returns-clause-ran g c =
    let begun = c.in-Ok-Ok-Ok in
    let from = source (g.H.Host.rest c.args.host.now) (g.H.Host.given c.args.host.now) in
    let to = source (g.H.Host.rest c.walk_file.new.host) (g.H.Host.given c.walk_file.new.host) in
    let put = g.S.Sink.bytes c.args.sink.now in
    let put' = g.S.Sink.bytes c.walk_file.new.sink in
    subst (λ fault. RunsOver (Err fault) (file_tree c.args.file) from to put put') (sym c.of_stream.ensures)
    (stops_over (file_tree c.args.file) (begun.walk, begun.flows)
    (first_begins c.args.file (begun.walk, begun.flows) begun.ensures'' begun.ensures'.ticks) put put' c.in-Err.fault from to
    (c.walk_file.new.walk, c.walk_file.new.machine) c.in-Err.ensures.walked)
