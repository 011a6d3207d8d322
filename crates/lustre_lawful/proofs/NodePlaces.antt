-- Nodes of a file by their names: those before a node are where their names say.
use Rattle.std.specs.Prelude.{◌≡◌, ℕ, zero, suc, ◌<◌, List, [], ◌∷◌, ◌++◌, map, Contains, Some, slice_get, slice_index_or}
use Rattle.std.proofs.Common.{refl, sym, ◌∙◌, ap, subst, arith, inl, inr}
use Rattle.std.proofs.lemmas.List.{append_assoc, append-nil}
use Rattle.std.proofs.lemmas.List.Elements.{Contains-append_left}
use Rattle.lustre_syntax.specs.Tree.{NodeTree, node_texts}
use Rattle.lustre_syntax.specs.Named.{NamedNode, place_of, placed_node}
use Rattle.lustre_syntax.specs.Lawful.{AreNodes}
use Rattle.emit_prelude.specs.Bodies.{function_with, zero_body}
use Rattle.lustre_system.specs.Functions.{function_name, function_node, function_nodes}
use Rattle.lustre_right.specs.NodeLaws.{IsFunctionNode}
use Rattle.modules_profile.proofs.lemmas.Members.{in-none, in-map, in-cases}
use Rattle.lustre_lawful.proofs.Counts.{Once, once-new, once-rest}
use Rattle.lustre_lawful.proofs.Places.{place-here, place-later}

abbrev pub names_of : List NamedNode → List (List ℕ)
names_of nodes = map (λ n. n.text) nodes

found : {B : Type 0} (f : NamedNode → B) (ns : List NamedNode) (rest : List (List ℕ)) (m : NamedNode) → Once (names_of ns) → Contains ns m →
    slice_get (map f ns) (place_of (names_of ns ++ rest) m.text) ≡ Some (f m)
found f [] rest m once there = absurd (in-none m there)
found f (n ∷ ns) rest m once there = elim (in-cases n m ns there) [
  | inl same ↦
      ap (λ (x : NamedNode). slice_get (map f (n ∷ ns)) (place_of (names_of (n ∷ ns) ++ rest) x.text)) (sym same)
      ∙ ap (slice_get (map f (n ∷ ns))) (place-here n.text (names_of ns ++ rest)) ∙ ap (λ x. Some (f x)) same
  | inr later ↦
      let other = λ (is : m.text ≡ n.text).
      once-new n.text (names_of ns) once (subst (Contains (names_of ns)) is (in-map (λ (x : NamedNode). x.text) ns m later)) in
      ap (slice_get (map f (n ∷ ns))) (place-later n.text (names_of ns ++ rest) m.text other)
      ∙ found f ns rest m (once-rest n.text (names_of ns) once) later
]

-- where callees begin with the names of different nodes, each of these is at the place of its name
pub found-node : (callees : List (List ℕ)) (before : List NamedNode) (rest : List (List ℕ)) (m : NamedNode) →
    callees ≡ names_of before ++ rest →
    Once (names_of before) → Contains before m →
    slice_get (map (placed_node callees) before) (place_of callees m.text) ≡ Some (placed_node callees m)
found-node callees before rest m are once there =
    ap (λ cs. slice_get (map (placed_node callees) before) (place_of cs m.text)) are
    ∙ found (placed_node callees) before rest m once there

-- ---- Lawful nodes one after another

pub nodes-append : (earlier xs ys : List NodeTree) → AreNodes earlier xs → AreNodes (earlier ++ xs) ys → AreNodes earlier (xs ++ ys)
nodes-append earlier [] ys first second = subst (λ ns. AreNodes ns ys) (append-nil earlier) second
nodes-append earlier (x ∷ xs) ys first second = (
  first.0,
  nodes-append (earlier ++ x ∷ []) xs ys first.1 (subst (λ ns. AreNodes ns ys) (sym (append_assoc earlier (x ∷ []) xs)) second),
)

pub placed-texts : (callees : List (List ℕ)) (ns : List NamedNode) → node_texts (map (placed_node callees) ns) ≡ names_of ns
placed-texts callees [] = refl
placed-texts callees (n ∷ ns) = ap (λ ts. n.text ∷ ts) (placed-texts callees ns)

-- ---- The functions among them

abbrev Function : List (List ℕ) → (more : List NamedNode) → ℕ → Type 0
Function callees more k =
    (n : NodeTree) × (slice_get (map (placed_node callees) (function_nodes ++ more)) (place_of callees (function_name k)) ≡ Some n)
    × IsFunctionNode n k

module _ (callees : List (List ℕ)) (more : List NamedNode) (rest : List (List ℕ))
    (are : callees ≡ names_of (function_nodes ++ more) ++ rest) (once : Once (names_of (function_nodes ++ more))) where
  -- the node at a place
  abbrev nth : ℕ → NamedNode
  nth k = slice_index_or function_nodes k (function_node (function_with [] [] zero_body))

  member : (m : NamedNode) → Contains function_nodes m →
      slice_get (map (placed_node callees) (function_nodes ++ more)) (place_of callees m.text) ≡ Some (placed_node callees m)
  member m there =
      found-node callees (function_nodes ++ more) rest m are once (Contains-append_left function_nodes more m there)

  pub function-there : (k : ℕ) → k < 8 → Function callees more k
  function-there zero below = let m = nth 0 in (placed_node callees m, member m (0, omega arith, refl), record { inputs = refl; outputs = refl })
  function-there (suc zero) below =
      let m = nth 1 in (placed_node callees m, member m (1, omega arith, refl), record { inputs = refl; outputs = refl })
  function-there (suc (suc zero)) below =
      let m = nth 2 in (placed_node callees m, member m (2, omega arith, refl), record { inputs = refl; outputs = refl })
  function-there (suc (suc (suc zero))) below =
      let m = nth 3 in (placed_node callees m, member m (3, omega arith, refl), record { inputs = refl; outputs = refl })
  function-there (suc (suc (suc (suc zero)))) below =
      let m = nth 4 in (placed_node callees m, member m (4, omega arith, refl), record { inputs = refl; outputs = refl })
  function-there (suc (suc (suc (suc (suc zero))))) below =
      let m = nth 5 in (placed_node callees m, member m (5, omega arith, refl), record { inputs = refl; outputs = refl })
  function-there (suc (suc (suc (suc (suc (suc zero)))))) below =
      let m = nth 6 in (placed_node callees m, member m (6, omega arith, refl), record { inputs = refl; outputs = refl })
  function-there (suc (suc (suc (suc (suc (suc (suc zero))))))) below =
      let m = nth 7 in (placed_node callees m, member m (7, omega arith, refl), record { inputs = refl; outputs = refl })
  function-there (suc (suc (suc (suc (suc (suc (suc (suc k)))))))) below = absurd (omega (arith, below))
