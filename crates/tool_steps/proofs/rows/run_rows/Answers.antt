use Rattle.std.proofs.Common.{rules}
use Rattle.tool_endings.specs.Told.{SinkTold, sink_told}
use Rattle.tool_endings.specs.Acting.{IsBehindStart}
use Rattle.tool_steps.proofs.RunLaws.{whole_rows, bad_rows, stuck_rows, cut_rows, forget_rows}
use Rattle.tool_steps.proofs.rows.run_rows.Goals as goal

pub returns-in-Ok-clause-ends : goal.returns-in-Ok-clause-ends
returns-in-Ok-clause-ends g c =
    let start : IsBehindStart c.args.machine.now = c.requires.start in
    let put : SinkTold = sink_told g.S.Sink.bytes g.S.Sink.faults c.args.out.now in
    let later : SinkTold = sink_told g.S.Sink.bytes g.S.Sink.faults c.run_bytes-ran.new.sink in
    whole_rows c.args.machine.now c.run_bytes-ran.new.machine c.args.types.now c.run_bytes-ran.result.totals put later start
    c.args.trace.now (search rules)

pub returns-in-Err-Trace-clause-ends : goal.returns-in-Err-Trace-clause-ends
returns-in-Err-Trace-clause-ends g c =
    let start : IsBehindStart c.args.machine.now = c.requires.start in
    let put : SinkTold = sink_told g.S.Sink.bytes g.S.Sink.faults c.args.out.now in
    let later : SinkTold = sink_told g.S.Sink.bytes g.S.Sink.faults c.run_bytes-ran.new.sink in
    bad_rows c.args.machine.now c.run_bytes-ran.new.machine c.args.types.now c.run_bytes-ran.result.totals put later start _
    c.args.trace.now (search rules)

pub returns-in-Err-Stuck-clause-ends : goal.returns-in-Err-Stuck-clause-ends
returns-in-Err-Stuck-clause-ends g c =
    let start : IsBehindStart c.args.machine.now = c.requires.start in
    let put : SinkTold = sink_told g.S.Sink.bytes g.S.Sink.faults c.args.out.now in
    let later : SinkTold = sink_told g.S.Sink.bytes g.S.Sink.faults c.run_bytes-ran.new.sink in
    stuck_rows c.args.machine.now c.run_bytes-ran.new.machine c.args.types.now c.run_bytes-ran.result.totals put later start _
    c.args.trace.now (search rules)

pub returns-in-Err-Out-clause-ends : goal.returns-in-Err-Out-clause-ends
returns-in-Err-Out-clause-ends g c =
    let start : IsBehindStart c.args.machine.now = c.requires.start in
    let put : SinkTold = sink_told g.S.Sink.bytes g.S.Sink.faults c.args.out.now in
    let later : SinkTold = sink_told g.S.Sink.bytes g.S.Sink.faults c.run_bytes-ran.new.sink in
    cut_rows c.args.machine.now c.run_bytes-ran.new.machine c.args.types.now c.run_bytes-ran.result.totals put later start
    c.args.trace.now (search rules)

pub returns-in-Err-Memory-clause-ends : goal.returns-in-Err-Memory-clause-ends
returns-in-Err-Memory-clause-ends g c =
    let start : IsBehindStart c.args.machine.now = c.requires.start in
    let put : SinkTold = sink_told g.S.Sink.bytes g.S.Sink.faults c.args.out.now in
    let later : SinkTold = sink_told g.S.Sink.bytes g.S.Sink.faults c.run_bytes-ran.new.sink in
    forget_rows c.args.machine.now c.run_bytes-ran.new.machine c.args.types.now c.run_bytes-ran.result.totals put later start
    (search rules) (search rules)
