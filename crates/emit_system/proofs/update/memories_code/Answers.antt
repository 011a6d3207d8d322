use Rattle.std.proofs.Common.{◌∙◌, ap, cond, map, subst, sym, arith}
use Rattle.std.proofs.lemmas.List.{take_all}
use Rattle.diagram_blocks.specs.Kinds.{is_delay}
use Rattle.modules_profile.specs.declared.local.LocalRow.{LocalRow}
use Rattle.c_syntax.specs.Tree.{StmtTrees, no_stmts}
use Rattle.emit_system_spec.specs.Emittable.{IsWritableRow}
use Rattle.emit_system_spec.specs.EmittedCode.{joined}
use Rattle.emit_system_spec.specs.NodeCode.{memory_code}
use Rattle.emit_nodes.specs.Code.{code_of}
use Rattle.emit_nodes.proofs.lemmas.Joined.{joined_next}
use Rattle.emit_system.proofs.Pieces.{joined_filter}
use Rattle.emit_system.proofs.update.memories_code.Goals as goal

pub delay_code-requires : goal.delay_code-requires
delay_code-requires c =
    subst (IsWritableRow c.args.layout.now.local) (sym c.row-item.is)
    (c.requires c.loop-row.row-index c.row-item.result c.loop-row-test.true)

pub loop-row-preserved : goal.loop-row-preserved
loop-row-preserved c =
    let local = c.args.layout.now.local in
    let f : LocalRow → StmtTrees = λ r. cond (is_delay r.op) (memory_code local c.args.params.now r) no_stmts in
    let k = c.loop-row.row-index in
    joined_next f c.args.rows.now k c.row-item.result (code_of c.loop-row.code.items) (code_of c.in_ok-delay_code.field-0.items)
    (code_of c.push_code.new.code.items)
    c.loop-row-test.true c.row-item.is c.in_ok-delay_code.ensures c.loop-row.invariant c.in_ok-push_code.ensures

pub returns : goal.returns
returns c =
    let local = c.args.layout.now.local in
    let f : LocalRow → StmtTrees = λ r. cond (is_delay r.op) (memory_code local c.args.params.now r) no_stmts in
    c.loop-row.invariant ∙ ap (λ rows. joined (map f rows)) (take_all _ c.args.rows.now (omega arith))
    ∙ joined_filter (λ (r : LocalRow). is_delay r.op) (memory_code local c.args.params.now) c.args.rows.now
