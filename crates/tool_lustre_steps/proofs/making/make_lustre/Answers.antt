use Rattle.std.proofs.Common.{rules}
use Rattle.diagram_meaning.specs.ResolvedTable.{ResolvedTable, table_of_tree}
use Rattle.emit_notes.specs.declared.labels.Labels.{Labels}
use Rattle.tool_endings.specs.Told.{HostTold, ReadsNone, told}
use Rattle.tool_lustre_steps.proofs.LustreLaws.{lustre_written, lustre_cut}
use Rattle.tool_lustre_steps.proofs.making.make_lustre.Goals as goal

pub returns-in-Ok-write_all-clause-ends : goal.returns-in-Ok-write_all-clause-ends
returns-in-Ok-write_all-clause-ends g c =
    let before : HostTold =
    told g.H.Host.files g.H.Host.rest g.H.Host.given g.H.Host.written g.H.Host.sure g.H.Host.read_faults g.H.Host.write_faults
    c.args.host.now in
    let between : HostTold =
    told g.H.Host.files g.H.Host.rest g.H.Host.given g.H.Host.written g.H.Host.sure g.H.Host.read_faults g.H.Host.write_faults
    c.accept_file.new.host in
    let after : HostTold =
    told g.H.Host.files g.H.Host.rest g.H.Host.given g.H.Host.written g.H.Host.sure g.H.Host.read_faults g.H.Host.write_faults
    c.write_all.new.host in
    let r : ResolvedTable = table_of_tree c.in-Ok.accepted.resolved in
    let labels : Labels = c.in-Ok.accepted.labels in
    let made = c.in-Ok-lustre_text.ensures in
    let none : ReadsNone between after = search rules in
    lustre_written r labels c.args.model.now c.args.file.now before between c.in-Ok.ensures.accepted c.in-Ok-lustre_text.made.0.items
    c.in-Ok-lustre_text.made.1 made.short made.right
    (made.nodes made.right.file made.right.reads) after none (search rules) (search rules) (search rules)

pub returns-clause-ends : goal.returns-clause-ends
returns-clause-ends g c =
    let before : HostTold =
    told g.H.Host.files g.H.Host.rest g.H.Host.given g.H.Host.written g.H.Host.sure g.H.Host.read_faults g.H.Host.write_faults
    c.args.host.now in
    let between : HostTold =
    told g.H.Host.files g.H.Host.rest g.H.Host.given g.H.Host.written g.H.Host.sure g.H.Host.read_faults g.H.Host.write_faults
    c.accept_file.new.host in
    let after : HostTold =
    told g.H.Host.files g.H.Host.rest g.H.Host.given g.H.Host.written g.H.Host.sure g.H.Host.read_faults g.H.Host.write_faults
    c.write_all.new.host in
    let r : ResolvedTable = table_of_tree c.in-Ok.accepted.resolved in
    let labels : Labels = c.in-Ok.accepted.labels in
    let made = c.in-Ok-lustre_text.ensures in
    let none : ReadsNone between after = search rules in
    lustre_cut r labels c.args.model.now c.args.file.now before between c.in-Ok.ensures.accepted c.in-Ok-lustre_text.made.0.items
    c.in-Ok-lustre_text.made.1 made.short made.right
    (made.nodes made.right.file made.right.reads) after none (search rules) (search rules)
