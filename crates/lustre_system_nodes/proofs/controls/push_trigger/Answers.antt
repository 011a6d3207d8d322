use Rattle.std.proofs.Common.{List, ◌∷◌, [], map, sym, ap, ◌∙◌}
use Rattle.std.proofs.lemmas.List.{map-append}
use Rattle.lustre_syntax.specs.declared.code.LusEq.{LusEq}
use Rattle.lustre_syntax.specs.Plain.{equation_tree}
use Rattle.lustre_syntax.specs.Tree.{set}
use Rattle.lustre_system_nodes.proofs.StateLaws.{with-trigger, no-trigger}
use Rattle.lustre_system_nodes.proofs.controls.push_trigger.Goals as goal

pub returns-in_ok-push : goal.returns-in_ok-push
returns-in_ok-push c d s are =
    let before = c.args.equations.now.items in
    ap (λ (es : List LusEq). map equation_tree es) c.in_ok-push.ensures.items
    ∙ map-append equation_tree before (c.set.result ∷ [])
    ∙ with-trigger c.args.names.now d s are (map equation_tree before) (equation_tree c.set.result)
    (sym c.is_triggered.ensures ∙ c.if-is_triggered.true)
    (c.set.ensures ∙ (λ i. set 0 (c.place-place.ensures i) (c.in_ok-trigger_memory.ensures d s are i)))

pub returns-else-is_triggered : goal.returns-else-is_triggered
returns-else-is_triggered c d s are =
    no-trigger c.args.names.now d s are (map equation_tree c.args.equations.now.items)
    (sym c.is_triggered.ensures ∙ c.if-is_triggered.false)
