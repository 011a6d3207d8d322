use Rattle.std.proofs.Common.{rules, refl, ◌≡◌, ℕ, sym, subst}
use Rattle.std.specs.Prelude.{Contains, Option, Some}
use Rattle.diagram_meaning.specs.ResolvedTable.{ResolvedTable, table_of_tree}
use Rattle.modules_profile.specs.Systems.{systems}
use Rattle.tool_system_driver.specs.Words.{system_named}
use Rattle.tool_words.specs.Words.{Asked, Drive}
use Rattle.tool_endings.specs.declared.ending.Ending.{Ending}
use Rattle.tool_endings.specs.Told.{HostTold, SinkTold, told, sink_told}
use Rattle.tool_endings.specs.Endings.{Ends}
use Rattle.tool_commands.proofs.DriveLaws.{drive_unwritten, drive_ends, drive_forgets}
use Rattle.tool_steps.proofs.lemmas.Unsure.{unsure_second}
use Rattle.tool_commands.proofs.driving.drive_model.Goals as goal

pub returns-in-Err-write_code-clause-ends : goal.returns-in-Err-write_code-clause-ends
returns-in-Err-write_code-clause-ends g c =
    drive_unwritten (table_of_tree c.in-Ok.accepted.resolved) c.in-Ok.accepted.labels c.args.model.now c.args.code.now c.args.subsystem.now c.args.script.now _ _ _
    c.in-Ok.ensures.accepted _ c.in-Err-write_code.ending c.in-Err-write_code.ensures.ended

pub returns-in-Ok-driver_in-clause-ends : goal.returns-in-Ok-driver_in-clause-ends
returns-in-Ok-driver_in-clause-ends g c =
    let before : HostTold =
    told g.H.Host.files g.H.Host.rest g.H.Host.given g.H.Host.written g.H.Host.sure g.H.Host.read_faults g.H.Host.write_faults c.args.host.now in
    let between : HostTold =
    told g.H.Host.files g.H.Host.rest g.H.Host.given g.H.Host.written g.H.Host.sure g.H.Host.read_faults g.H.Host.write_faults c.accept_file.new.host in
    let later : HostTold =
    told g.H.Host.files g.H.Host.rest g.H.Host.given g.H.Host.written g.H.Host.sure g.H.Host.read_faults g.H.Host.write_faults c.write_code.new.host in
    let after : HostTold =
    told g.H.Host.files g.H.Host.rest g.H.Host.given g.H.Host.written g.H.Host.sure g.H.Host.read_faults g.H.Host.write_faults c.drive_file.new.host in
    let put : SinkTold = sink_told g.S.Sink.bytes g.S.Sink.faults c.args.out.now in
    let puts : SinkTold = sink_told g.S.Sink.bytes g.S.Sink.faults c.drive_file.new.out in
    let r : ResolvedTable = table_of_tree c.in-Ok.accepted.resolved in
    let s : Option ℕ = c.in-Some.system.row in
    let named : system_named r.table.rows c.args.subsystem.now ≡ Some s = search rules in
    let there : Contains (systems r.table.rows) s = search rules in
    drive_ends r c.in-Ok.accepted.labels c.in-Ok-write_code.compiled s c.args.model.now c.args.code.now c.args.subsystem.now c.args.script.now before between later
    c.in-Ok.ensures.accepted named there c.in-Ok-write_code.ensures.written c.in-Ok-driver_in.driver c.drive_file.result after put puts
    c.in-Ok-driver_in.ensures.stands c.drive_file.ensures.ends c.drive_file.ensures.counts

pub returns-in-Ok-driver_in-clause-unsure : goal.returns-in-Ok-driver_in-clause-unsure
returns-in-Ok-driver_in-clause-unsure g c =
    unsure_second g.H.Host.files g.H.Host.sure c.args.host.now c.write_code.new.host c.drive_file.result
    (Drive c.args.model.now c.args.code.now c.args.subsystem.now c.args.script.now) c.args.script.now refl (search rules)
    c.drive_file.ensures.unsure

pub returns-clause-ends : goal.returns-clause-ends
returns-clause-ends g c =
    let before : HostTold =
    told g.H.Host.files g.H.Host.rest g.H.Host.given g.H.Host.written g.H.Host.sure g.H.Host.read_faults g.H.Host.write_faults c.args.host.now in
    let between : HostTold =
    told g.H.Host.files g.H.Host.rest g.H.Host.given g.H.Host.written g.H.Host.sure g.H.Host.read_faults g.H.Host.write_faults c.accept_file.new.host in
    let later : HostTold =
    told g.H.Host.files g.H.Host.rest g.H.Host.given g.H.Host.written g.H.Host.sure g.H.Host.read_faults g.H.Host.write_faults c.write_code.new.host in
    let put : SinkTold = sink_told g.S.Sink.bytes g.S.Sink.faults c.args.out.now in
    let r : ResolvedTable = table_of_tree c.in-Ok.accepted.resolved in
    let s : Option ℕ = c.in-Some.system.row in
    let named : system_named r.table.rows c.args.subsystem.now ≡ Some s = search rules in
    let there : Contains (systems r.table.rows) s = search rules in
    let asked : Asked = Drive c.args.model.now c.args.code.now c.args.subsystem.now c.args.script.now in
    subst (λ (e : Ending). Ends e (Some asked) before later put put)
    (sym c.in-Err-driver_in.ensures.ended)
    (drive_forgets r c.in-Ok.accepted.labels c.in-Ok-write_code.compiled s c.args.model.now c.args.code.now c.args.subsystem.now c.args.script.now before between
    later c.in-Ok.ensures.accepted named there c.in-Ok-write_code.ensures.written put)
