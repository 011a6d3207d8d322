use Rattle.std.proofs.Common.{ℕ, ◌++◌, List, Option, slice_get, take, sym, ap, ◌∙◌}
use Rattle.std.specs.List.{filter_map}
use Rattle.std.specs.Option.{option_to_list, option_and_then}
use Rattle.std.proofs.lemmas.List.{append-nil}
use Rattle.emit_system_spec.specs.Heads.{inport_at}
use Rattle.emit_row_facts.proofs.lemmas.Steps.{kept-more}
use Rattle.emit_signatures.proofs.inports.inports_among.Goals as goal
use Rattle.emit_signatures.proofs.inports.inports_among.Goals.{in-Some+in_ok-push, in_default}

pub loop-node-preserved : goal.loop-node-preserved
loop-node-preserved c =
    let nodes = c.args.nodes.now in
    let i = c.loop-node.node-index in
    let port : ℕ → Option ℕ = λ n. option_and_then (inport_at c.args.local.now) (slice_get c.args.places.now n) in
    let step =
    ap (λ (l : List ℕ). l ++ option_to_list c.inport_at.result) c.loop-node.invariant
    ∙ ap (λ (o : Option ℕ). filter_map port (take i nodes) ++ option_to_list o) c.inport_at.ensures
    ∙ sym (kept-more port nodes i 0 c.loop-node-test.true) in
    elim c.match-inport_at.branch [
      | in-Some+in_ok-push w ↦ ap (λ v. v.items) w.ports-is ∙ w.in_ok-push.ensures.items
          ∙ ap (λ (o : Option ℕ). c.loop-node.ports.items ++ option_to_list o) (sym w.in-Some.is) ∙ step
      | in_default w ↦ ap (λ v. v.items) w.ports-is ∙ sym (append-nil c.loop-node.ports.items)
          ∙ ap (λ (o : Option ℕ). c.loop-node.ports.items ++ option_to_list o) (sym w.in_default.is) ∙ step
    ]
