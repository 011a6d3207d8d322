use Rattle.std.proofs.Common.{map, ap, ◌∙◌, []}
use Rattle.c_syntax.specs.Plain.{stmt_tree, param_trees}
use Rattle.emit_shape.specs.Assembled.{call_top}
use Rattle.emit_row_facts.proofs.lemmas.Steps.{mapped-next}
use Rattle.emit_linker.specs.Places.{trees}
use Rattle.emit_linker.proofs.Steps.{seen-push}
use Rattle.emit_linker.proofs.calls.calls_of_top.Goals as goal

pub loop-name-preserved : goal.loop-name-preserved
loop-name-preserved c =
    let x = c.name-item.result in
    let call = call_top (trees c.args.codes.now.list.now) (param_trees c.args.params.now) c.args.outputs in
    let calls = c.loop-name.calls.items in
    mapped-next call c.args.names.now c.loop-name.name-index x [] (map stmt_tree calls) (map stmt_tree c.push.new.self.items)
    c.loop-name-test.true c.name-item.is c.loop-name.invariant
    (seen-push stmt_tree calls c.push.new.self.items c.in_ok-call_top.field-0 (call x) c.in_ok-push.ensures.items
    (c.in_ok-call_top.ensures ∙ ap call c.bytes.ensures))
