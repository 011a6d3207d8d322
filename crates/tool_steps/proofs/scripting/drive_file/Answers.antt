use Rattle.std.proofs.Common.{rules}
use Rattle.tool_endings.specs.Told.{HostTold, SinkTold, told, sink_told}
use Rattle.tool_endings.specs.EndingsOfModels.{LeavesHost}
use Rattle.tool_steps.proofs.ScriptLaws.{whole-script, line-script, call-script, cut-script, lost-script}
use Rattle.tool_steps.proofs.scripting.drive_file.Goals as goal

pub returns-in-Ok-clause-ends : goal.returns-in-Ok-clause-ends
returns-in-Ok-clause-ends g c =
    let before : HostTold =
    told g.H.Host.files g.H.Host.rest g.H.Host.given g.H.Host.written g.H.Host.sure g.H.Host.read_faults g.H.Host.write_faults c.args.host.now in
    let after : HostTold =
    told g.H.Host.files g.H.Host.rest g.H.Host.given g.H.Host.written g.H.Host.sure g.H.Host.read_faults g.H.Host.write_faults c.run_script.new.host in
    let put : SinkTold = sink_told g.S.Sink.bytes g.S.Sink.faults c.args.out.now in
    let later : SinkTold = sink_told g.S.Sink.bytes g.S.Sink.faults c.run_script.new.sink in
    let left : LeavesHost before after =
    record { written = search rules; no_fault = record { read = search rules; write = search rules } } in
    λ w stands.
    whole-script c.scripts_are_driven.ensures w c.args.driver.now c.run_script.new.driver c.run_script.new.totals
    (g.H.Host.rest c.open_read.new.self) (g.H.Host.given c.open_read.new.self) c.args.script.now before after put later stands
    (search rules) (search rules) left (search rules) (search rules)

pub returns-in-Err-Line-clause-ends : goal.returns-in-Err-Line-clause-ends
returns-in-Err-Line-clause-ends g c =
    let before : HostTold =
    told g.H.Host.files g.H.Host.rest g.H.Host.given g.H.Host.written g.H.Host.sure g.H.Host.read_faults g.H.Host.write_faults c.args.host.now in
    let after : HostTold =
    told g.H.Host.files g.H.Host.rest g.H.Host.given g.H.Host.written g.H.Host.sure g.H.Host.read_faults g.H.Host.write_faults c.run_script.new.host in
    let put : SinkTold = sink_told g.S.Sink.bytes g.S.Sink.faults c.args.out.now in
    let later : SinkTold = sink_told g.S.Sink.bytes g.S.Sink.faults c.run_script.new.sink in
    let left : LeavesHost before after =
    record { written = search rules; no_fault = record { read = search rules; write = search rules } } in
    λ w stands.
    line-script c.scripts_are_driven.ensures w c.args.driver.now c.run_script.new.driver c.run_script.new.totals
    (g.H.Host.rest c.open_read.new.self) (g.H.Host.given c.open_read.new.self) c.args.script.now before after put later stands
    (search rules) (search rules) _ left (search rules)

pub returns-in-Err-Call-clause-ends : goal.returns-in-Err-Call-clause-ends
returns-in-Err-Call-clause-ends g c =
    let before : HostTold =
    told g.H.Host.files g.H.Host.rest g.H.Host.given g.H.Host.written g.H.Host.sure g.H.Host.read_faults g.H.Host.write_faults c.args.host.now in
    let after : HostTold =
    told g.H.Host.files g.H.Host.rest g.H.Host.given g.H.Host.written g.H.Host.sure g.H.Host.read_faults g.H.Host.write_faults c.run_script.new.host in
    let put : SinkTold = sink_told g.S.Sink.bytes g.S.Sink.faults c.args.out.now in
    let later : SinkTold = sink_told g.S.Sink.bytes g.S.Sink.faults c.run_script.new.sink in
    let left : LeavesHost before after =
    record { written = search rules; no_fault = record { read = search rules; write = search rules } } in
    λ w stands.
    call-script c.scripts_are_driven.ensures w c.args.driver.now c.run_script.new.driver c.run_script.new.totals
    (g.H.Host.rest c.open_read.new.self) (g.H.Host.given c.open_read.new.self) c.args.script.now before after put later stands
    (search rules) (search rules) _ left (search rules)

pub returns-in-Err-Out-clause-ends : goal.returns-in-Err-Out-clause-ends
returns-in-Err-Out-clause-ends g c =
    let before : HostTold =
    told g.H.Host.files g.H.Host.rest g.H.Host.given g.H.Host.written g.H.Host.sure g.H.Host.read_faults g.H.Host.write_faults c.args.host.now in
    let after : HostTold =
    told g.H.Host.files g.H.Host.rest g.H.Host.given g.H.Host.written g.H.Host.sure g.H.Host.read_faults g.H.Host.write_faults c.run_script.new.host in
    let put : SinkTold = sink_told g.S.Sink.bytes g.S.Sink.faults c.args.out.now in
    let later : SinkTold = sink_told g.S.Sink.bytes g.S.Sink.faults c.run_script.new.sink in
    let left : LeavesHost before after =
    record { written = search rules; no_fault = record { read = search rules; write = search rules } } in
    λ w stands.
    cut-script c.scripts_are_driven.ensures w c.args.driver.now c.run_script.new.driver c.run_script.new.totals
    (g.H.Host.rest c.open_read.new.self) (g.H.Host.given c.open_read.new.self) c.args.script.now before after put later stands
    (search rules) (search rules) left (search rules)

pub returns-in-Err-Read-clause-ends : goal.returns-in-Err-Read-clause-ends
returns-in-Err-Read-clause-ends g c =
    let before : HostTold =
    told g.H.Host.files g.H.Host.rest g.H.Host.given g.H.Host.written g.H.Host.sure g.H.Host.read_faults g.H.Host.write_faults c.args.host.now in
    let after : HostTold =
    told g.H.Host.files g.H.Host.rest g.H.Host.given g.H.Host.written g.H.Host.sure g.H.Host.read_faults g.H.Host.write_faults c.run_script.new.host in
    let put : SinkTold = sink_told g.S.Sink.bytes g.S.Sink.faults c.args.out.now in
    let later : SinkTold = sink_told g.S.Sink.bytes g.S.Sink.faults c.run_script.new.sink in
    λ w stands.
    lost-script c.scripts_are_driven.ensures w c.args.driver.now c.run_script.new.driver c.run_script.new.totals
    (g.H.Host.rest c.open_read.new.self) (g.H.Host.given c.open_read.new.self) c.args.script.now before after put later stands
    (search rules) (search rules) (search rules) (search rules) (search rules)
