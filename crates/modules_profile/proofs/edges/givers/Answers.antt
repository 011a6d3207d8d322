use Rattle.std.proofs.Common.{nat_eq, subst, sym, ap, ◌∙◌, ◌++◌, ◌∷◌, [], take, arith, Some, cond, eqb}
use Rattle.std.specs.List.{list_any}
use Rattle.std.proofs.lemmas.List.{take_more, length-take-le}
use Rattle.indexmap.specs.IndexMap.{get}
use Rattle.modules_profile.specs.NodeWires.{AreGivers}
use Rattle.modules_profile.proofs.EdgeSteps.{givers-more}
use Rattle.modules_profile.proofs.edges.givers.Goals as goal

pub loop-a-preserved : goal.loop-a-preserved
loop-a-preserved c =
    let nodes = c.args.nodes.now in
    let x = c.index-nodes-a.result in
    let inside = c.loop-a-test.true in
    subst (λ xs. AreGivers xs (get nat_eq c.insert_all.new.givers))
    (sym (take_more nodes c.loop-a.a x inside ∙ ap (λ y. take c.loop-a.a nodes ++ y ∷ []) (sym c.index-nodes-a.is)))
    (givers-more (take c.loop-a.a nodes) x c.loop-a.a (get nat_eq c.loop-a.givers) (get nat_eq c.insert_all.new.givers)
    (sym (length-take-le c.loop-a.a nodes (omega arith)))
    (λ d. c.in_ok-insert_all.ensures d
    ∙ ap (λ ws. cond (list_any (λ w. eqb w d) ws) (Some c.loop-a.a) (get nat_eq c.loop-a.givers d)) c.wires.ensures)
    c.loop-a.invariant)
