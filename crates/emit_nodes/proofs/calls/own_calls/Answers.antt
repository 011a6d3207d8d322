use Rattle.std.proofs.Common.{◌∙◌, ℕ, List, [], ap, get_or, slice_index_or}
use Rattle.std.proofs.lemmas.List.{get_or_default, get_or_read}
use Rattle.c_syntax.specs.Tree.{StmtTree, ParamTree}
use Rattle.c_syntax.specs.Plain.{stmt_tree}
use Rattle.emit_system_spec.specs.EmittedCode.{own_call}
use Rattle.emit_nodes.proofs.lemmas.Loops.{mapped_more}
use Rattle.emit_nodes.proofs.calls.own_calls.Goals as goal

pub loop-group-preserved : goal.loop-group-preserved
loop-group-preserved c =
    let params = c.args.params.now in
    let wanted = c.args.wanted.now in
    let called = c.args.called.now in
    let k = c.loop-group.group-index in
    let g : ℕ = get_or called k 0 in
    let call : ℕ → StmtTree = λ n. own_call params n (slice_index_or wanted n []) in
    let below = c.requires k 0 c.loop-group-test.true in
    mapped_more stmt_tree call [] c.loop-group.calls.items c.push.new.self.items c.in_ok-own_call.field-0 called k g
    c.loop-group-test.true (get_or_default called k 0 g c.loop-group-test.true)
    (c.in_ok-own_call.ensures ∙ ap (λ (ps : List ParamTree). own_call params g ps)
    (get_or_read wanted g c.index-wanted-group.result below c.index-wanted-group.is []))
    c.loop-group.invariant c.in_ok-push.ensures.items
