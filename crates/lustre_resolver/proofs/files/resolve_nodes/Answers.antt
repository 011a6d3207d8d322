use Rattle.std.proofs.Common.{◌≤◌, sym, ◌∙◌, ap, subst, map, length, drop, ◌++◌, ◌∷◌, [], ◌+◌, List, Bool, arith}
use Rattle.c_rules.specs.Gives.{Fails}
use Rattle.c_rules.proofs.lemmas.Each.{bind_ok}
use Rattle.c_rules.proofs.lemmas.Fails.{gives-same, fails-bind}
use Rattle.c_rules.proofs.lemmas.ParamLaws.{from_place}
use Rattle.lustre_syntax.specs.Plain.{node_tree}
use Rattle.lustre_syntax.specs.Tree.{NodeTree}
use Rattle.lustre_grammar.specs.WrittenTrees.{node_of}
use Rattle.lustre_rules.specs.Resolve.{is_end, resolve_node, resolve_nodes}
use Rattle.lustre_resolver.specs.Scopes.{nodes_of}
use Rattle.lustre_resolver.proofs.Views.{end-at}
use Rattle.lustre_resolver.proofs.files.resolve_nodes.Goals as goal

pub returns-in_err-node : goal.returns-in_err-node
returns-in_err-node c =
    let known = nodes_of c.loop-i.known in
    let nodes = c.args.nodes.now in
    let i = c.loop-i.i in
    let n = c.index-nodes-i.result in
    let e = c.in_err-node.field-0.0 in
    let rest = map node_of (drop (i + 1) nodes) in
    let within : i + 1 ≤ length nodes = omega (arith, c.loop-i-test.true) in
    let whole = resolve_nodes (nodes_of c.args.known.now) (map node_of nodes) in
    gives-same (λ _. known) c.from_residual.result e whole c.from_residual.ensures.1
    (fails-bind e (resolve_node known (is_end rest) (node_of n)) (λ (x : NodeTree). resolve_nodes (known ++ x ∷ []) rest) whole
    (c.loop-i.invariant ∙ ap (resolve_nodes known) (from_place node_of nodes i n c.loop-i-test.true c.index-nodes-i.is))
    (subst (λ (b : Bool). Fails e (resolve_node known b (node_of n))) (sym (end-at nodes (i + 1) within))
    c.in_err-node.ensures.resolved))

pub loop-i-preserved : goal.loop-i-preserved
loop-i-preserved c =
    let known = nodes_of c.loop-i.known in
    let nodes = c.args.nodes.now in
    let i = c.loop-i.i in
    let n = c.index-nodes-i.result in
    let rest = map node_of (drop (i + 1) nodes) in
    let within : i + 1 ≤ length nodes = omega (arith, c.loop-i-test.true) in
    let x = node_tree c.in_ok-node.node in
    c.loop-i.invariant ∙ ap (resolve_nodes known) (from_place node_of nodes i n c.loop-i-test.true c.index-nodes-i.is)
    ∙ bind_ok (resolve_node known (is_end rest) (node_of n)) (λ (y : NodeTree). resolve_nodes (known ++ y ∷ []) rest) x
    (ap (λ (b : Bool). resolve_node known b (node_of n)) (end-at nodes (i + 1) within) ∙ c.in_ok-node.ensures.resolved)
    ∙ ap (λ (ns : List NodeTree). resolve_nodes ns rest) (sym c.in_ok-push.ensures)
