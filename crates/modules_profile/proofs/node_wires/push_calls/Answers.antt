use Rattle.std.proofs.Common.{sym, subst, ◌∙◌, All, get_or}
use Rattle.std.proofs.lemmas.List.{get_or_default}
use Rattle.modules_profile.specs.declared.profile.Function.{Function}
use Rattle.modules_profile.proofs.EntrySteps.{IsLow, entries-low, call-more}
use Rattle.modules_profile.proofs.node_wires.push_calls.Goals as goal

pub taken-requires : goal.taken-requires
taken-requires c = subst (All IsLow) (sym (c.deref.ensures.value ∙ c.in_ok-entries.ensures)) (entries-low c.args.child.now c.requires)

pub loop-function-preserved : goal.loop-function-preserved
loop-function-preserved c =
    let fs = c.functions-functions.result.now in
    let i = c.loop-function.function-index in
    let f : Function = get_or fs i (record { inputs = 0; outputs = 0 }) in
    c.in_ok-push.ensures.items
    ∙ call-more c.args.child.now fs i f c.in_ok-taken.field-0 c.in_ok-given.field-0 c.deref.result.now
    c.outputs-outputs.result.now c.args.nodes.now.items c.loop-function.nodes.items
    c.loop-function-test.true (get_or_default fs i (record { inputs = 0; outputs = 0 }) f c.loop-function-test.true)
    c.in_ok-taken.ensures (c.deref.ensures.value ∙ c.in_ok-entries.ensures)
    c.in_ok-given.ensures c.outputs-outputs.ensures c.functions-functions.ensures c.loop-function.invariant
