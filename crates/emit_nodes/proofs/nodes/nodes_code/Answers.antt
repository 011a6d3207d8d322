use Rattle.std.proofs.Common.{ℕ, get_or}
use Rattle.std.proofs.lemmas.List.{get_or_default}
use Rattle.emit_system_spec.specs.Groups.{own_count}
use Rattle.emit_system_spec.specs.NodeCode.{code_at}
use Rattle.emit_nodes.specs.Code.{code_of}
use Rattle.emit_nodes.proofs.lemmas.Joined.{joined_next}
use Rattle.emit_nodes.proofs.nodes.nodes_code.Goals as goal

pub loop-n-preserved : goal.loop-n-preserved
loop-n-preserved c =
    let of = c.args.layout.now in
    let nodes = c.args.nodes.now in
    let k = c.loop-n.n-index in
    let n : ℕ = get_or nodes k 0 in
    joined_next (code_at of.local (own_count of.schedule) c.args.params.now) nodes k n (code_of c.loop-n.code.items)
    (code_of c.in_ok-code_at.field-0.items) (code_of c.push_code.new.code.items)
    c.loop-n-test.true (get_or_default nodes k 0 n c.loop-n-test.true) c.in_ok-code_at.ensures c.loop-n.invariant c.in_ok-push_code.ensures
