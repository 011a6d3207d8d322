use Rattle.std.proofs.Common.{map}
use Rattle.c_syntax.specs.Plain.{stmt_tree}
use Rattle.emit_system_spec.specs.Groups.{own_count}
use Rattle.emit_system_spec.specs.Renewing.{call_behind}
use Rattle.emit_starts.proofs.Pushed.{one-more, placed-next}
use Rattle.emit_starts.proofs.renewal.push_child_calls.Goals as goal

pub loop-place-preserved : goal.loop-place-preserved
loop-place-preserved c =
    let of = c.args.layout.now in
    let k = c.loop-place.place in
    let x = c.index-children-place.result in
    placed-next (call_behind of.local (own_count of.schedule) c.args.behind) c.as_slice-children.result.now k x
    (map stmt_tree c.args.body.now.items) (map stmt_tree c.loop-place.body.items) (map stmt_tree c.push.new.self.items)
    c.loop-place-test.true c.index-children-place.is c.loop-place.invariant
    (one-more c.loop-place.body.items c.push.new.self.items c.call_behind.result
    (call_behind of.local (own_count of.schedule) c.args.behind (k, x)) c.in_ok-push.ensures.items c.call_behind.ensures)
