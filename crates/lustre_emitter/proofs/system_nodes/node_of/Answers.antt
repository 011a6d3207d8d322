use Rattle.std.proofs.Common.{◌≡◌, ℕ, List, map, sym, ap, subst, ◌∙◌, Option}
use Rattle.std.proofs.lemmas.Result.{IfOk-weaker}
use Rattle.diagram_meaning.specs.Diagram.{Diagram}
use Rattle.diagram_meaning.specs.Nested.{row_of, system_of}
use Rattle.diagram_meaning.specs.ResolvedTree.{diagram_of}
use Rattle.lustre_syntax.specs.Plain.{equation_tree, node_tree}
use Rattle.lustre_system.specs.SystemNodes.{system_node}
use Rattle.lustre_expressions.specs.Found.{place_in}
use Rattle.lustre_expressions.specs.Placed.{placed_by}
use Rattle.lustre_system_nodes.specs.Named.{IsNamed, placed_system}
use Rattle.lustre_emitter.proofs.system_nodes.node_of.Goals as goal

pub system_equations-requires : goal.system_equations-requires
system_equations-requires c =
    let is = c.in_ok-named.ensures in
    subst (λ o. IsNamed (diagram_of c.args.r.now) o c.in_ok-named.named) (sym is.row) is

pub returns : goal.returns
returns c =
    let d = diagram_of c.args.r.now in
    let s = row_of (system_of c.args.system.now) in
    let callee = place_in c.args.callees.now.places.now in
    let is = c.in_ok-named.ensures in
    let named = c.in_ok-named.named in
    let equations = c.in_ok-equations.equations in
    IfOk-weaker c.system_node.result
    (λ n. (at : List ℕ → ℕ) (e : Diagram) (o : Option ℕ) → IsNamed e o named → map equation_tree equations.items ≡ placed_system at e o →
    node_tree n ≡ placed_by at (system_node e o))
    (λ n. node_tree n ≡ placed_by callee (system_node d s))
    (λ n made. made callee d s is (c.in_ok-equations.ensures ∙ ap (placed_system callee d) is.row)) c.system_node.ensures
