use Rattle.std.proofs.Common.{rules}
use Rattle.tool_endings.specs.Told.{HostTold, SinkTold, told, sink_told}
use Rattle.tool_endings.specs.EndingsOfModels.{LeavesHost}
use Rattle.tool_endings.specs.Acting.{IsBehindStart}
use Rattle.tool_steps.proofs.RunLaws.{whole-file, bad-file, stuck-file, cut-file, lost-file, forget-file}
use Rattle.tool_steps.proofs.tracing.run_file.Goals as goal

pub returns-in-Ok-clause-ends : goal.returns-in-Ok-clause-ends
returns-in-Ok-clause-ends g c =
    let start : IsBehindStart c.args.machine.now = c.requires.start in
    let before : HostTold =
    told g.H.Host.files g.H.Host.rest g.H.Host.given g.H.Host.written g.H.Host.sure g.H.Host.read_faults g.H.Host.write_faults
    c.args.host.now in
    let after : HostTold =
    told g.H.Host.files g.H.Host.rest g.H.Host.given g.H.Host.written g.H.Host.sure g.H.Host.read_faults g.H.Host.write_faults
    c.run_trace-ran.new.host in
    let put : SinkTold = sink_told g.S.Sink.bytes g.S.Sink.faults c.args.out.now in
    let later : SinkTold = sink_told g.S.Sink.bytes g.S.Sink.faults c.run_trace-ran.new.sink in
    let left : LeavesHost before after =
    record { written = search rules; no_fault = record { read = search rules; write = search rules } } in
    whole-file c.args.machine.now c.run_trace-ran.new.machine c.args.types.now c.run_trace-ran.result.totals
    (g.H.Host.rest c.open_read.new.self) (g.H.Host.given c.open_read.new.self) c.args.trace.now before after put later start (search rules) (search rules) left
    (search rules) (search rules)

pub returns-in-Err-Trace-clause-ends : goal.returns-in-Err-Trace-clause-ends
returns-in-Err-Trace-clause-ends g c =
    let start : IsBehindStart c.args.machine.now = c.requires.start in
    let before : HostTold =
    told g.H.Host.files g.H.Host.rest g.H.Host.given g.H.Host.written g.H.Host.sure g.H.Host.read_faults g.H.Host.write_faults
    c.args.host.now in
    let after : HostTold =
    told g.H.Host.files g.H.Host.rest g.H.Host.given g.H.Host.written g.H.Host.sure g.H.Host.read_faults g.H.Host.write_faults
    c.run_trace-ran.new.host in
    let put : SinkTold = sink_told g.S.Sink.bytes g.S.Sink.faults c.args.out.now in
    let later : SinkTold = sink_told g.S.Sink.bytes g.S.Sink.faults c.run_trace-ran.new.sink in
    let left : LeavesHost before after =
    record { written = search rules; no_fault = record { read = search rules; write = search rules } } in
    bad-file c.args.machine.now c.run_trace-ran.new.machine c.args.types.now c.run_trace-ran.result.totals
    (g.H.Host.rest c.open_read.new.self) (g.H.Host.given c.open_read.new.self) c.args.trace.now before after put later start (search rules) (search rules) _ left
    (search rules)

pub returns-in-Err-Stuck-clause-ends : goal.returns-in-Err-Stuck-clause-ends
returns-in-Err-Stuck-clause-ends g c =
    let start : IsBehindStart c.args.machine.now = c.requires.start in
    let before : HostTold =
    told g.H.Host.files g.H.Host.rest g.H.Host.given g.H.Host.written g.H.Host.sure g.H.Host.read_faults g.H.Host.write_faults
    c.args.host.now in
    let after : HostTold =
    told g.H.Host.files g.H.Host.rest g.H.Host.given g.H.Host.written g.H.Host.sure g.H.Host.read_faults g.H.Host.write_faults
    c.run_trace-ran.new.host in
    let put : SinkTold = sink_told g.S.Sink.bytes g.S.Sink.faults c.args.out.now in
    let later : SinkTold = sink_told g.S.Sink.bytes g.S.Sink.faults c.run_trace-ran.new.sink in
    let left : LeavesHost before after =
    record { written = search rules; no_fault = record { read = search rules; write = search rules } } in
    stuck-file c.args.machine.now c.run_trace-ran.new.machine c.args.types.now c.run_trace-ran.result.totals
    (g.H.Host.rest c.open_read.new.self) (g.H.Host.given c.open_read.new.self) c.args.trace.now before after put later start (search rules) (search rules) _ left
    (search rules)

pub returns-in-Err-Out-clause-ends : goal.returns-in-Err-Out-clause-ends
returns-in-Err-Out-clause-ends g c =
    let start : IsBehindStart c.args.machine.now = c.requires.start in
    let before : HostTold =
    told g.H.Host.files g.H.Host.rest g.H.Host.given g.H.Host.written g.H.Host.sure g.H.Host.read_faults g.H.Host.write_faults
    c.args.host.now in
    let after : HostTold =
    told g.H.Host.files g.H.Host.rest g.H.Host.given g.H.Host.written g.H.Host.sure g.H.Host.read_faults g.H.Host.write_faults
    c.run_trace-ran.new.host in
    let put : SinkTold = sink_told g.S.Sink.bytes g.S.Sink.faults c.args.out.now in
    let later : SinkTold = sink_told g.S.Sink.bytes g.S.Sink.faults c.run_trace-ran.new.sink in
    let left : LeavesHost before after =
    record { written = search rules; no_fault = record { read = search rules; write = search rules } } in
    cut-file c.args.machine.now c.run_trace-ran.new.machine c.args.types.now c.run_trace-ran.result.totals
    (g.H.Host.rest c.open_read.new.self) (g.H.Host.given c.open_read.new.self) c.args.trace.now before after put later start (search rules) (search rules) left
    (search rules)

pub returns-in-Err-Read-clause-ends : goal.returns-in-Err-Read-clause-ends
returns-in-Err-Read-clause-ends g c =
    let start : IsBehindStart c.args.machine.now = c.requires.start in
    let before : HostTold =
    told g.H.Host.files g.H.Host.rest g.H.Host.given g.H.Host.written g.H.Host.sure g.H.Host.read_faults g.H.Host.write_faults
    c.args.host.now in
    let after : HostTold =
    told g.H.Host.files g.H.Host.rest g.H.Host.given g.H.Host.written g.H.Host.sure g.H.Host.read_faults g.H.Host.write_faults
    c.run_trace-ran.new.host in
    let put : SinkTold = sink_told g.S.Sink.bytes g.S.Sink.faults c.args.out.now in
    let later : SinkTold = sink_told g.S.Sink.bytes g.S.Sink.faults c.run_trace-ran.new.sink in
    lost-file c.args.machine.now c.run_trace-ran.new.machine c.args.types.now c.run_trace-ran.result.totals
    (g.H.Host.rest c.open_read.new.self) (g.H.Host.given c.open_read.new.self) c.args.trace.now before after put later start (search rules) (search rules) (search rules)
    (search rules) (search rules)

pub returns-in-Err-Memory-clause-ends : goal.returns-in-Err-Memory-clause-ends
returns-in-Err-Memory-clause-ends g c =
    let start : IsBehindStart c.args.machine.now = c.requires.start in
    let before : HostTold =
    told g.H.Host.files g.H.Host.rest g.H.Host.given g.H.Host.written g.H.Host.sure g.H.Host.read_faults g.H.Host.write_faults
    c.args.host.now in
    let after : HostTold =
    told g.H.Host.files g.H.Host.rest g.H.Host.given g.H.Host.written g.H.Host.sure g.H.Host.read_faults g.H.Host.write_faults
    c.run_trace-ran.new.host in
    let put : SinkTold = sink_told g.S.Sink.bytes g.S.Sink.faults c.args.out.now in
    let later : SinkTold = sink_told g.S.Sink.bytes g.S.Sink.faults c.run_trace-ran.new.sink in
    let left : LeavesHost before after =
    record { written = search rules; no_fault = record { read = search rules; write = search rules } } in
    forget-file c.args.machine.now c.run_trace-ran.new.machine c.args.types.now c.run_trace-ran.result.totals
    (g.H.Host.rest c.open_read.new.self) (g.H.Host.given c.open_read.new.self) c.args.trace.now before after put later start (search rules) (search rules) left
    (search rules) (search rules)
