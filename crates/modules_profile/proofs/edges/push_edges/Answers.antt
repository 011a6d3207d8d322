use Rattle.std.proofs.Common.{Some, None, nat_eq, sym, ap, ◌∙◌}
use Rattle.std.specs.Option.{option_copied}
use Rattle.std.proofs.lemmas.List.{append-nil}
use Rattle.indexmap.specs.IndexMap.{get}
use Rattle.modules_profile.proofs.Found.{none-from}
use Rattle.modules_profile.proofs.EdgeSteps.{edge-pushed}
use Rattle.modules_profile.proofs.edges.push_edges.Goals as goal
use Rattle.modules_profile.proofs.edges.push_edges.Goals.{in-Some+in_ok-push, in_default}

pub loop-wire-preserved : goal.loop-wire-preserved
loop-wire-preserved c = elim c.match-get.branch [
  | in-Some+in_ok-push w ↦ ap (λ v. v.items) w.edges-is ∙ w.in_ok-push.ensures.items
      ∙ edge-pushed (get nat_eq c.args.givers.now) c.args.b c.args.needs.now c.loop-wire.wire-index
      c.args.edges.now.items c.loop-wire.edges.items (Some w.in-Some.a.now) c.loop-wire-test.true
      (sym c.get.ensures.value ∙ ap option_copied w.in-Some.is) c.loop-wire.invariant
  | in_default w ↦ ap (λ v. v.items) w.edges-is ∙ sym (append-nil c.loop-wire.edges.items)
      ∙ edge-pushed (get nat_eq c.args.givers.now) c.args.b c.args.needs.now c.loop-wire.wire-index
      c.args.edges.now.items c.loop-wire.edges.items None c.loop-wire-test.true
      (sym c.get.ensures.value ∙ ap option_copied (none-from c.get.result w.in_default.not-Some)) c.loop-wire.invariant
]
