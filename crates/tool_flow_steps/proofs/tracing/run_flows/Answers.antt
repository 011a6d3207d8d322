use Rattle.std.proofs.Common.{rules}
use Rattle.lustre_syntax.specs.Plain.{file_tree}
use Rattle.tool_endings.specs.Told.{HostTold, SinkTold, told, sink_told}
use Rattle.tool_endings.specs.EndingsOfModels.{LeavesHost}
use Rattle.tool_flow_steps.proofs.TraceLaws.{whole-flows, bad-flows, stuck-flows, cut-flows, lost-flows, forgot-flows}
use Rattle.tool_flow_steps.proofs.tracing.run_flows.Goals as goal

pub returns-in-Ok-clause-ends : goal.returns-in-Ok-clause-ends
returns-in-Ok-clause-ends g c =
    let before : HostTold =
    told g.H.Host.files g.H.Host.rest g.H.Host.given g.H.Host.written g.H.Host.sure g.H.Host.read_faults g.H.Host.write_faults
    c.args.host.now in
    let after : HostTold =
    told g.H.Host.files g.H.Host.rest g.H.Host.given g.H.Host.written g.H.Host.sure g.H.Host.read_faults g.H.Host.write_faults
    c.flow_trace.new.host in
    let put : SinkTold = sink_told g.S.Sink.bytes g.S.Sink.faults c.args.out.now in
    let later : SinkTold = sink_told g.S.Sink.bytes g.S.Sink.faults c.flow_trace.new.sink in
    let left : LeavesHost before after =
    record { written = search rules; no_fault = record { read = search rules; write = search rules } } in
    whole-flows (file_tree c.args.file) (g.H.Host.rest c.open_read.new.self) (g.H.Host.given c.open_read.new.self) c.args.trace.now
    before after put later (search rules) (search rules) _ left (search rules) (search rules)

pub returns-in-Err-Bad-clause-ends : goal.returns-in-Err-Bad-clause-ends
returns-in-Err-Bad-clause-ends g c =
    let before : HostTold =
    told g.H.Host.files g.H.Host.rest g.H.Host.given g.H.Host.written g.H.Host.sure g.H.Host.read_faults g.H.Host.write_faults
    c.args.host.now in
    let after : HostTold =
    told g.H.Host.files g.H.Host.rest g.H.Host.given g.H.Host.written g.H.Host.sure g.H.Host.read_faults g.H.Host.write_faults
    c.flow_trace.new.host in
    let put : SinkTold = sink_told g.S.Sink.bytes g.S.Sink.faults c.args.out.now in
    let later : SinkTold = sink_told g.S.Sink.bytes g.S.Sink.faults c.flow_trace.new.sink in
    let left : LeavesHost before after =
    record { written = search rules; no_fault = record { read = search rules; write = search rules } } in
    bad-flows (file_tree c.args.file) (g.H.Host.rest c.open_read.new.self) (g.H.Host.given c.open_read.new.self) c.args.trace.now
    before after put later (search rules) (search rules) _ left (search rules)

pub returns-in-Err-Stuck-clause-ends : goal.returns-in-Err-Stuck-clause-ends
returns-in-Err-Stuck-clause-ends g c =
    let before : HostTold =
    told g.H.Host.files g.H.Host.rest g.H.Host.given g.H.Host.written g.H.Host.sure g.H.Host.read_faults g.H.Host.write_faults
    c.args.host.now in
    let after : HostTold =
    told g.H.Host.files g.H.Host.rest g.H.Host.given g.H.Host.written g.H.Host.sure g.H.Host.read_faults g.H.Host.write_faults
    c.flow_trace.new.host in
    let put : SinkTold = sink_told g.S.Sink.bytes g.S.Sink.faults c.args.out.now in
    let later : SinkTold = sink_told g.S.Sink.bytes g.S.Sink.faults c.flow_trace.new.sink in
    let left : LeavesHost before after =
    record { written = search rules; no_fault = record { read = search rules; write = search rules } } in
    stuck-flows (file_tree c.args.file) (g.H.Host.rest c.open_read.new.self) (g.H.Host.given c.open_read.new.self) c.args.trace.now
    before after put later (search rules) (search rules) _ left (search rules)

pub returns-in-Err-Put-clause-ends : goal.returns-in-Err-Put-clause-ends
returns-in-Err-Put-clause-ends g c =
    let before : HostTold =
    told g.H.Host.files g.H.Host.rest g.H.Host.given g.H.Host.written g.H.Host.sure g.H.Host.read_faults g.H.Host.write_faults
    c.args.host.now in
    let after : HostTold =
    told g.H.Host.files g.H.Host.rest g.H.Host.given g.H.Host.written g.H.Host.sure g.H.Host.read_faults g.H.Host.write_faults
    c.flow_trace.new.host in
    let put : SinkTold = sink_told g.S.Sink.bytes g.S.Sink.faults c.args.out.now in
    let later : SinkTold = sink_told g.S.Sink.bytes g.S.Sink.faults c.flow_trace.new.sink in
    let left : LeavesHost before after =
    record { written = search rules; no_fault = record { read = search rules; write = search rules } } in
    cut-flows (file_tree c.args.file) (g.H.Host.rest c.open_read.new.self) (g.H.Host.given c.open_read.new.self) c.args.trace.now
    before after put later (search rules) (search rules) left (search rules)

pub returns-in-Err-Read-clause-ends : goal.returns-in-Err-Read-clause-ends
returns-in-Err-Read-clause-ends g c =
    let before : HostTold =
    told g.H.Host.files g.H.Host.rest g.H.Host.given g.H.Host.written g.H.Host.sure g.H.Host.read_faults g.H.Host.write_faults
    c.args.host.now in
    let after : HostTold =
    told g.H.Host.files g.H.Host.rest g.H.Host.given g.H.Host.written g.H.Host.sure g.H.Host.read_faults g.H.Host.write_faults
    c.flow_trace.new.host in
    let put : SinkTold = sink_told g.S.Sink.bytes g.S.Sink.faults c.args.out.now in
    let later : SinkTold = sink_told g.S.Sink.bytes g.S.Sink.faults c.flow_trace.new.sink in
    lost-flows (file_tree c.args.file) (g.H.Host.rest c.open_read.new.self) (g.H.Host.given c.open_read.new.self) c.args.trace.now
    before after put later (search rules) (search rules) (search rules) (search rules) (search rules)

pub returns-in-Err-Memory-clause-ends : goal.returns-in-Err-Memory-clause-ends
returns-in-Err-Memory-clause-ends g c =
    let before : HostTold =
    told g.H.Host.files g.H.Host.rest g.H.Host.given g.H.Host.written g.H.Host.sure g.H.Host.read_faults g.H.Host.write_faults
    c.args.host.now in
    let after : HostTold =
    told g.H.Host.files g.H.Host.rest g.H.Host.given g.H.Host.written g.H.Host.sure g.H.Host.read_faults g.H.Host.write_faults
    c.flow_trace.new.host in
    let put : SinkTold = sink_told g.S.Sink.bytes g.S.Sink.faults c.args.out.now in
    let later : SinkTold = sink_told g.S.Sink.bytes g.S.Sink.faults c.flow_trace.new.sink in
    let left : LeavesHost before after =
    record { written = search rules; no_fault = record { read = search rules; write = search rules } } in
    forgot-flows (file_tree c.args.file) (g.H.Host.rest c.open_read.new.self) (g.H.Host.given c.open_read.new.self) c.args.trace.now
    before after put later (search rules) (search rules) left (search rules) (search rules)
