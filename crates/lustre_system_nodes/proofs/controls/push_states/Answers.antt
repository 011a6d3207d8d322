use Rattle.std.proofs.Common.{List, ◌∷◌, [], map, ap, ◌∙◌}
use Rattle.std.proofs.lemmas.List.{map-append}
use Rattle.lustre_syntax.specs.declared.code.LusEq.{LusEq}
use Rattle.lustre_syntax.specs.Plain.{equation_tree}
use Rattle.lustre_syntax.specs.Tree.{set}
use Rattle.lustre_system_nodes.proofs.StateLaws.{states-are}
use Rattle.lustre_system_nodes.proofs.controls.push_states.Goals as goal

pub returns : goal.returns
returns c d s are =
    let trees : List LusEq → List _ = λ es. map equation_tree es in
    states-are c.args.names.now d s are (trees c.args.equations.now.items) (trees c.push_trigger.new.equations.items)
    (trees c.push.new.self.items) (trees c.push-2.new.self.items) (equation_tree c.set.result) (equation_tree c.set-2.result)
    (c.in_ok-push_trigger.ensures d s are)
    (ap trees c.in_ok-push.ensures.items ∙ map-append equation_tree c.push_trigger.new.equations.items (c.set.result ∷ []))
    (ap trees c.in_ok-push-2.ensures.items ∙ map-append equation_tree c.push.new.self.items (c.set-2.result ∷ []))
    (c.set.ensures ∙ (λ i. set 0 (c.place-active.ensures i) (c.in_ok-active_value.ensures d s are i)))
    (c.set-2.ensures ∙ (λ i. set 0 (c.place-reset.ensures i) (c.in_ok-reset_value.ensures d s are i)))
