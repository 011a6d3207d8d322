-- Nodes on other lines: their names, ports and callees stay.
use Rattle.std.proofs.Common.{◌≡◌, ℕ, zero, suc, List, [], ◌∷◌, ◌++◌, map, length, take, refl, sym, ap, ◌∙◌}
use Rattle.std.specs.Prelude.{flat_map}
use Rattle.lustre_syntax.specs.Tree.{EquationTree, set, call, NodeTree, node_at, FileTree, node_texts, equation_without_lines, node_without_lines, without_lines}
use Rattle.lustre_flows.specs.Instances.{by_node}
use Rattle.lustre_right.specs.Paths.{callee_of, callees}

-- what each node comes to is the same, where that of a node is
pub by-node-aside : {A : Type 0} (of on : List A → NodeTree → A) →
    ((earlier : List A) (n : NodeTree) → on earlier (node_without_lines n) ≡ of earlier n) → (earlier : List A) (ns : List NodeTree) →
    by_node on earlier (map node_without_lines ns) ≡ by_node of earlier ns
by-node-aside of on same earlier [] = refl
by-node-aside of on same earlier (n ∷ ns) =
    ap (λ x. by_node on (earlier ++ x ∷ []) (map node_without_lines ns)) (same earlier n)
    ∙ by-node-aside of on same (earlier ++ of earlier n ∷ []) ns

pub node-at-aside : (ns : List NodeTree) (k : ℕ) → node_at (map node_without_lines ns) k ≡ node_without_lines (node_at ns k)
node-at-aside [] k = refl
node-at-aside (n ∷ ns) zero = refl
node-at-aside (n ∷ ns) (suc k) = node-at-aside ns k

pub texts-aside : (ns : List NodeTree) → node_texts (map node_without_lines ns) ≡ node_texts ns
texts-aside [] = refl
texts-aside (n ∷ ns) = ap (λ ts. n.text ∷ ts) (texts-aside ns)

pub length-aside : (ns : List NodeTree) → length (map node_without_lines ns) ≡ length ns
length-aside [] = refl
length-aside (n ∷ ns) = ap suc (length-aside ns)

-- one for each of the first nodes
pub each-aside : {A : Type 0} (of : NodeTree → A) → ((n : NodeTree) → of (node_without_lines n) ≡ of n) → (k : ℕ) (ns : List NodeTree) →
    map of (take k (map node_without_lines ns)) ≡ map of (take k ns)
each-aside of same zero ns = refl
each-aside of same (suc k) [] = refl
each-aside of same (suc k) (n ∷ ns) = λ i. same n i ∷ each-aside of same k ns i

callee-aside : (e : EquationTree) → callee_of (equation_without_lines e) ≡ callee_of e
callee-aside (set line given value) = refl
callee-aside (call line given callee values) = refl

flat-aside : (es : List EquationTree) → flat_map callee_of (map equation_without_lines es) ≡ flat_map callee_of es
flat-aside [] = refl
flat-aside (e ∷ es) = λ i. callee-aside e i ++ flat-aside es i

pub callees-aside : (n : NodeTree) → callees (node_without_lines n) ≡ callees n
callees-aside n = flat-aside n.equations

-- two files that differ in lines alone
module _ (f g : FileTree) (same : without_lines f ≡ without_lines g) where
  pub nodes-alike : map node_without_lines f.nodes ≡ map node_without_lines g.nodes
  nodes-alike = ap (λ (h : FileTree). h.nodes) same

  -- what lines don't change
  pub alike : {A : Type 0} (of : List NodeTree → A) → ((ns : List NodeTree) → of (map node_without_lines ns) ≡ of ns) →
      of f.nodes ≡ of g.nodes
  alike of aside = sym (aside f.nodes) ∙ ap of nodes-alike ∙ aside g.nodes

  -- the same of a node at a place
  pub alike-at : {A : Type 0} (of : NodeTree → A) → ((n : NodeTree) → of (node_without_lines n) ≡ of n) → (k : ℕ) →
      of (node_at f.nodes k) ≡ of (node_at g.nodes k)
  alike-at of aside k = alike (λ ns. of (node_at ns k)) (λ ns. ap of (node-at-aside ns k) ∙ aside (node_at ns k))
