-- What is read is lawful.
use Rattle.std.proofs.Common.{◌≡◌, ◌↔◌, refl, sym, ◌∙◌, subst, List, [], ◌∷◌, ◌++◌, Ok, true, append_assoc}
use Rattle.std.specs.Bool.{⊤}
use Rattle.std.specs.List.{AllByRecursion, list_all}
use Rattle.c_grammar.specs.Tokens.{Token}
use Rattle.c_rules.proofs.lemmas.Resolved.{ok-same, bind-parts}
use Rattle.lustre_syntax.specs.Tree.{NodeTree, FileTree}
use Rattle.lustre_syntax.specs.Lawful.{AreNodes, EndsWithInts, IsLawful}
use Rattle.lustre_grammar.specs.Written.{WrittenNode, WrittenFile}
use Rattle.lustre_grammar.specs.Grammar.{Spells}
use Rattle.lustre_rules.specs.Resolve.{is_end, resolve_node, resolve_nodes, resolve_file}
use Rattle.lustre_rules.specs.Reading.{IsShallow, IsWithinLimit}
use Rattle.lustre_reading_laws.proofs.Depths.{node_within, file_within, both-hold}
use Rattle.lustre_reading_laws.proofs.WellWritten.{WellNode, file-well}
use Rattle.lustre_reading_laws.proofs.LawfulNodes.{HasInts, ResolvedNode, node-resolved}

abbrev AreShallow : List NodeTree → Type 0
AreShallow nodes = AllByRecursion (λ n. AllByRecursion IsShallow n.equations) nodes

-- nodes that are resolved after these ones, of which the last has `int` inputs and outputs alone
record ResolvedNodes (earlier : List NodeTree) (ws : List WrittenNode) (nodes : List NodeTree) : Type 0 where
  new : List NodeTree
  is : nodes ≡ earlier ++ new
  lawful : AreShallow new → AreNodes earlier new
  last : EndsWithInts new
  shallow : (list_all node_within ws ≡ true) ↔ AreShallow new

ends-more : (n : NodeTree) (ns : List NodeTree) → EndsWithInts ns → EndsWithInts (n ∷ ns)
ends-more n [] h = absurd h
ends-more n (m ∷ ns) h = h

nodes-resolved : (earlier : List NodeTree) (w : WrittenNode) (ws : List WrittenNode) (nodes : List NodeTree) →
    AllByRecursion WellNode (w ∷ ws) → resolve_nodes earlier (w ∷ ws) ≡ Ok nodes → ResolvedNodes earlier (w ∷ ws) nodes
nodes-resolved earlier w [] nodes well e =
    let p : _ = bind-parts (resolve_node earlier true w) (λ x. resolve_nodes (earlier ++ x ∷ []) []) nodes e in
    let done : ResolvedNode earlier true w p.0 = node-resolved earlier true w p.0 well.0 p.1 in
    let ints : HasInts p.0 = done.ints refl in
    record {
      new = p.0 ∷ [];
      is = sym (ok-same (earlier ++ p.0 ∷ []) nodes p.2);
      lawful = λ shallow. (done.lawful shallow.0, tt);
      last = (ints.inputs, ints.outputs);
      shallow = both-hold (node_within w) true (AllByRecursion IsShallow p.0.equations) ⊤ done.shallow (λ h. tt, λ h. refl);
    }
nodes-resolved earlier w (v ∷ ws) nodes well e =
    let p : _ =
    bind-parts (resolve_node earlier (is_end (v ∷ ws)) w) (λ x. resolve_nodes (earlier ++ x ∷ []) (v ∷ ws)) nodes e in
    let done : ResolvedNode earlier (is_end (v ∷ ws)) w p.0 = node-resolved earlier (is_end (v ∷ ws)) w p.0 well.0 p.1 in
    let later : ResolvedNodes (earlier ++ p.0 ∷ []) (v ∷ ws) nodes = nodes-resolved (earlier ++ p.0 ∷ []) v ws nodes well.1 p.2 in
    record {
      new = p.0 ∷ later.new;
      is = later.is ∙ append_assoc earlier (p.0 ∷ []) later.new;
      lawful = λ shallow. (done.lawful shallow.0, later.lawful shallow.1);
      last = ends-more p.0 later.new later.last;
      shallow = both-hold (node_within w) (list_all node_within (v ∷ ws)) (AllByRecursion IsShallow p.0.equations)
          (AreShallow later.new) done.shallow later.shallow;
    }

-- a file that is resolved
pub record ResolvedFile (w : WrittenFile) (f : FileTree) : Type 0 where
  pub lawful : IsWithinLimit f → IsLawful f
  pub limit : (file_within w ≡ true) ↔ IsWithinLimit f

pub file-resolved : (w : WrittenFile) (tokens : List Token) (f : FileTree) → Spells tokens w → resolve_file w ≡ Ok f →
    ResolvedFile w f
file-resolved w tokens f spelled e =
    let p : _ = bind-parts (resolve_nodes [] w.nodes) (λ nodes. Ok (record { nodes = nodes })) f e in
    let well : _ = file-well w tokens spelled in
    let done : ResolvedNodes [] (well.0 ∷ well.1) p.0 =
    nodes-resolved [] well.0 well.1 p.0 (subst (AllByRecursion WellNode) well.2 well.3)
    (subst (λ ns. resolve_nodes [] ns ≡ Ok p.0) well.2 p.1) in
    let limit : (list_all node_within w.nodes ≡ true) ↔ AreShallow p.0 =
    subst (λ ns. (list_all node_within ns ≡ true) ↔ AreShallow p.0) (sym well.2)
    (subst (λ ns. (list_all node_within (well.0 ∷ well.1) ≡ true) ↔ AreShallow ns) (sym done.is) done.shallow) in
    subst (ResolvedFile w) (ok-same (record { nodes = p.0 }) f p.2)
    (record {
      lawful = λ within. record {
        nodes = subst (AreNodes []) (sym done.is) (done.lawful (subst AreShallow done.is within));
        last = subst EndsWithInts (sym done.is) done.last;
      };
      limit = limit;
    })
