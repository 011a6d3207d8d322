use Rattle.std.proofs.lemmas.Result.{IfOk-weaker, IfErr-weaker}
use Rattle.diagram_meaning.specs.ResolvedTable.{ResolvedTable, table_of_tree}
use Rattle.emit_notes.specs.declared.labels.Labels.{Labels}
use Rattle.tool_compiled.specs.Compilation.{Compilation}
use Rattle.tool_endings.specs.declared.ending.Ending.{Ending}
use Rattle.tool_endings.specs.Told.{HostTold, told}
use Rattle.tool_endings.specs.Acting.{WritesCompiled, NotCompiled, WritesCodeOf, NotWritten}
use Rattle.tool_commands.proofs.CompileLaws.{compiled-file, not-written}
use Rattle.tool_commands.proofs.compiling.compile_into.Goals as goal

pub returns-clause-compiled : goal.returns-clause-compiled
returns-clause-compiled g c =
    let before : HostTold =
    told g.H.Host.files g.H.Host.rest g.H.Host.given g.H.Host.written g.H.Host.sure g.H.Host.read_faults g.H.Host.write_faults c.args.host.now in
    let between : HostTold =
    told g.H.Host.files g.H.Host.rest g.H.Host.given g.H.Host.written g.H.Host.sure g.H.Host.read_faults g.H.Host.write_faults c.accept_file.new.host in
    let after : HostTold =
    told g.H.Host.files g.H.Host.rest g.H.Host.given g.H.Host.written g.H.Host.sure g.H.Host.read_faults g.H.Host.write_faults c.write_code.new.host in
    let r : ResolvedTable = table_of_tree c.in-Ok.accepted.resolved in
    let labels : Labels = c.in-Ok.accepted.labels in
    IfOk-weaker c.write_code.result
    (λ (x : Compilation). WritesCodeOf r labels x c.args.code.now between after)
    (λ (x : Compilation). WritesCompiled x c.args.model.now c.args.code.now before after)
    (λ x writes. compiled-file r labels c.args.model.now c.args.code.now before between after c.in-Ok.ensures.accepted x writes)
    c.write_code.ensures.written

pub returns-clause-ended : goal.returns-clause-ended
returns-clause-ended g c =
    let before : HostTold =
    told g.H.Host.files g.H.Host.rest g.H.Host.given g.H.Host.written g.H.Host.sure g.H.Host.read_faults g.H.Host.write_faults c.args.host.now in
    let between : HostTold =
    told g.H.Host.files g.H.Host.rest g.H.Host.given g.H.Host.written g.H.Host.sure g.H.Host.read_faults g.H.Host.write_faults c.accept_file.new.host in
    let after : HostTold =
    told g.H.Host.files g.H.Host.rest g.H.Host.given g.H.Host.written g.H.Host.sure g.H.Host.read_faults g.H.Host.write_faults c.write_code.new.host in
    let r : ResolvedTable = table_of_tree c.in-Ok.accepted.resolved in
    let labels : Labels = c.in-Ok.accepted.labels in
    IfErr-weaker c.write_code.result
    (λ (e : Ending). NotWritten e r labels c.args.code.now between after)
    (λ (e : Ending). NotCompiled e c.args.model.now c.args.code.now before after)
    (λ e ends. not-written r labels c.args.model.now c.args.code.now before between after c.in-Ok.ensures.accepted e ends)
    c.write_code.ensures.ended
