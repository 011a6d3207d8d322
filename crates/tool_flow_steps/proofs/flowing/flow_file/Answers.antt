use Rattle.std.proofs.Common.{rules, refl}
use Rattle.lustre_syntax.specs.Plain.{file_tree}
use Rattle.tool_words.specs.Words.{Flow}
use Rattle.tool_endings.specs.Told.{HostTold, SinkTold, told, sink_told}
use Rattle.tool_steps.proofs.lemmas.Unsure.{unsure_second}
use Rattle.tool_flow_steps.proofs.FlowLaws.{flow_ends, flow_unread}
use Rattle.tool_flow_steps.proofs.flowing.flow_file.Goals as goal

pub returns-in-Ok-clause-ends : goal.returns-in-Ok-clause-ends
returns-in-Ok-clause-ends g c =
    let before : HostTold =
    told g.H.Host.files g.H.Host.rest g.H.Host.given g.H.Host.written g.H.Host.sure g.H.Host.read_faults g.H.Host.write_faults
    c.args.host.now in
    let between : HostTold =
    told g.H.Host.files g.H.Host.rest g.H.Host.given g.H.Host.written g.H.Host.sure g.H.Host.read_faults g.H.Host.write_faults
    c.read_file.new.host in
    let after : HostTold =
    told g.H.Host.files g.H.Host.rest g.H.Host.given g.H.Host.written g.H.Host.sure g.H.Host.read_faults g.H.Host.write_faults
    c.run_flows.new.host in
    let put : SinkTold = sink_told g.S.Sink.bytes g.S.Sink.faults c.args.out.now in
    let later : SinkTold = sink_told g.S.Sink.bytes g.S.Sink.faults c.run_flows.new.out in
    flow_ends (file_tree c.in-Ok.checked) c.args.file.now c.args.trace.now before between after put later c.in-Ok.ensures.read
    c.run_flows.result c.run_flows.ensures.ends c.run_flows.ensures.counts

pub returns-in-Ok-clause-unsure : goal.returns-in-Ok-clause-unsure
returns-in-Ok-clause-unsure g c =
    unsure_second g.H.Host.files g.H.Host.sure c.args.host.now c.read_file.new.host c.run_flows.result
    (Flow c.args.file.now c.args.trace.now) c.args.trace.now refl (search rules) c.run_flows.ensures.unsure

pub returns-in-Err-clause-ends : goal.returns-in-Err-clause-ends
returns-in-Err-clause-ends g c =
    flow_unread c.args.file.now c.args.trace.now _ _ _ c.in-Err.ending c.in-Err.ensures.ended
