-- Walks along the graph of the nodes are walks of the nodes.
use Rattle.std.specs.Prelude.{◌≡◌, ℕ, zero, suc, ◌<◌, List, [], ◌∷◌, eqb, true, map, flat_map, length, slice_get, Contains, Option, Some, None, refl}
use Rattle.std.specs.Option.{option_map_or}
use Rattle.std.specs.List.{range_with_len}
use Rattle.std.proofs.Common.{sym, subst, arith, inl, inr}
use Rattle.std.proofs.lemmas.Bool.{eqb-true, cases_lt}
use Rattle.std.proofs.lemmas.List.{get_or_past}
use Rattle.std.proofs.lemmas.List.Elements.{Contains-append_left, Contains-append_right, All-from_recursion, All-contains}
use Rattle.base_graph.specs.NeedsGraph.{Needs}
use Rattle.base_graph.specs.Reaching as graph
use Rattle.diagram_meaning.specs.Rows.{is_system}
use Rattle.modules_profile.specs.declared.local.ChildUse.{ChildUse}
use Rattle.modules_profile.specs.declared.local.LocalRow.{LocalRow}
use Rattle.modules_profile.specs.declared.nodes.Node.{Node}
use Rattle.modules_profile.specs.declared.nodes.Node.TheVariants.{Row, Call}
use Rattle.modules_profile.specs.declared.profile.Function.{Function}
use Rattle.modules_profile.specs.LocalSystem.{LocalSystem}
use Rattle.modules_profile.specs.SystemNodes.{SystemNodes}
use Rattle.modules_profile.specs.Headers.{header_functions, idle_function, given_by_function, given_rows}
use Rattle.modules_profile.specs.Locals.{row_of, child_of}
use Rattle.modules_profile.specs.LocalNodes.{calls_of, call_nodes, node_list, node_gives, node_needs, NodeNeeds, NodeWalk, AreNodesOf, HasNoNodeLoop}
use Rattle.modules_profile.proofs.lemmas.Members.{in-none, in-cases, in-map, found-in, in-range, at-in, below-at}
use Rattle.modules_profile.proofs.FunctionRows.{nothing-given}
use Rattle.modules_profile.proofs.ChildNumbers.{system-is}

in-flat : {A B : Type 0} (f : A → List B) (xs : List A) (x : A) (y : B) → Contains xs x → Contains (f x) y → Contains (flat_map f xs) y
in-flat f [] x y h m = absurd (in-none x h)
in-flat f (z ∷ xs) x y h m = elim (in-cases z x xs h) [
  | inl same ↦ Contains-append_left (f z) (flat_map f xs) y (subst (λ w. Contains (f w) y) (sym same) m)
  | inr more ↦ Contains-append_right (f z) (flat_map f xs) y (in-flat f xs x y more m)
]

module _ (local : LocalSystem) where
  -- a node of the list that needs and gives the same
  pub record Stands (z : Node) : Type 0 where
    pub place : ℕ
    pub node : Node
    pub at : slice_get (node_list local) place ≡ Some node
    pub needs : node_needs local node ≡ node_needs local z
    pub gives : node_gives local node ≡ node_gives local z

  stands-in : (z : Node) → Contains (node_list local) z → Stands z
  stands-in z h = let a = at-in (node_list local) z h in record { place = a.0; node = z; at = a.1; needs = refl; gives = refl }

  row-stands : (b c : ℕ) (o : Option LocalRow) → row_of local b ≡ o →
      Contains (option_map_or (λ (r : LocalRow). r.row ∷ []) o []) c → Stands (Row b)
  row-stands b c None e h = absurd (in-none c h)
  row-stands b c (Some r) e h =
      let found = found-in (λ (q : LocalRow). eqb q.row b) local.rows r e in
      let same : r.row ≡ b = eqb-true r.row b found.1 in
      stands-in (Row b) (Contains-append_left (map (λ (q : LocalRow). Row q.row) local.rows) (flat_map call_nodes local.children) (Row b)
      (subst (λ k. Contains (map (λ (q : LocalRow). Row q.row) local.rows) (Row k)) same
      (in-map (λ (q : LocalRow). Row q.row) local.rows r found.0)))

  -- past the end a function gives nothing
  inside-functions : (u : ChildUse) (k c : ℕ) → Contains (given_rows u.header (suc k)) c → k < length (header_functions u.header)
  inside-functions u k c h = elim (cases_lt k (length (header_functions u.header))) [
    | inl below ↦ below
    | inr past ↦ absurd (nothing-given (map (λ o. o.0) u.header.outputs) c
        (subst (λ (f : Function). Contains (given_by_function f (map (λ o. o.0) u.header.outputs)) c)
        (get_or_past (header_functions u.header) k idle_function past) h))
  ]

  call-stands : (e j c : ℕ) (o : Option ChildUse) → child_of local e ≡ o →
      Contains (option_map_or (λ (u : ChildUse). given_rows u.header j) o []) c → Stands (Call e j)
  call-stands e j c None is h = absurd (in-none c h)
  call-stands e zero c (Some u) is h = absurd (nothing-given (map (λ o. o.0) u.header.outputs) c h)
  call-stands e (suc k) c (Some u) is h =
      stands-in (Call e (suc k))
      (Contains-append_right (map (λ (q : LocalRow). Row q.row) local.rows) (flat_map call_nodes local.children) (Call e (suc k))
      (in-flat call_nodes local.children u (Call e (suc k)) found.0 listed))
    where
      found : Contains local.children u × (is_system u.header.row e ≡ true)
      found = found-in (λ (v : ChildUse). is_system v.header.row e) local.children u is

      listed : Contains (call_nodes u) (Call e (suc k))
      listed =
          subst (λ o. Contains (calls_of o (length (header_functions u.header))) (Call e (suc k)))
          (sym (system-is u.header.row e found.1))
          (in-map (Call e) (range_with_len 1 (length (header_functions u.header))) (suc k)
          (in-range 1 (length (header_functions u.header)) (suc k) (omega arith)
          (let low = inside-functions u k c h in omega (arith, low))))

  -- a node that gives a wire is in the list
  pub stands : (z : Node) (c : ℕ) → Contains (node_gives local z) c → Stands z
  stands (Row b) c h = row-stands b c (row_of local b) refl h
  stands (Call e j) c h = call-stands e j c (child_of local e) refl h

  module _ (nodes : SystemNodes) (are : AreNodesOf local nodes) where
    -- ---- From nodes to places

    edge-to : (a b : ℕ) (x y z : Node) → slice_get (node_list local) a ≡ Some x →
        slice_get (node_list local) b ≡ Some y → node_needs local y ≡ node_needs local z → NodeNeeds local z x →
        Needs nodes.graph b a
    edge-to a b x y z from to same n = (are.edges a b x y from to).1 (n.0, subst (λ ws. Contains ws n.0) (sym same) n.1, n.2)

    pub walk-to-places : (a b : ℕ) (x y z : Node) (path : List Node) → slice_get (node_list local) a ≡ Some x →
        slice_get (node_list local) b ≡ Some y → node_needs local y ≡ node_needs local z →
        NodeWalk local z path x → (places : List ℕ) × graph.Walk nodes.graph b places a
    walk-to-places a b x y z [] from to same n = ([], edge-to a b x y z from to same n)
    walk-to-places a b x y z (w ∷ path) from to same (n, rest) =
        let s = stands w n.0 n.2 in
        let more = walk-to-places a s.place x s.node w path from s.at s.needs rest in
        (s.place ∷ more.0, (edge-to s.place b s.node y z s.at to same (n.0, n.1, subst (λ ws. Contains ws n.0) (sym s.gives) n.2), more.1))

    -- ---- From places to nodes

    pub node-at : (a b : ℕ) → Needs nodes.graph b a → (x : Node) × (slice_get (node_list local) a ≡ Some x)
    node-at a b e =
        let low = (All-contains (λ (edge : ℕ × ℕ). (edge.0 < nodes.graph.n) × (edge.1 < nodes.graph.n)) nodes.graph.edges (a, b)
        (All-from_recursion (λ (edge : ℕ × ℕ). (edge.0 < nodes.graph.n) × (edge.1 < nodes.graph.n)) nodes.graph.edges are.inside) e).0 in
        below-at (node_list local) a (let c = are.count in omega (arith, low, c))

    pub walk-to-nodes : (a b : ℕ) (x y : Node) (path : List ℕ) → slice_get (node_list local) a ≡ Some x →
        slice_get (node_list local) b ≡ Some y → graph.Walk nodes.graph b path a →
        (between : List Node) × NodeWalk local y between x
    walk-to-nodes a b x y [] from to e = ([], (are.edges a b x y from to).0 e)
    walk-to-nodes a b x y (c ∷ path) from to (e, rest) =
        let z = node-at c b e in
        let more = walk-to-nodes a c x z.0 path from z.1 rest in
        (z.0 ∷ more.0, ((are.edges c b z.0 y z.1 to).0 e, more.1))

    -- where nodes form no loop the graph has no cycle
    pub no-cycle : HasNoNodeLoop local → graph.HasNoCycle nodes.graph
    no-cycle none [] cycle = cycle
    no-cycle none (a ∷ path) cycle =
        let x = first a path a cycle in
        let walk = walk-to-nodes a a x.0 x.0 path x.1 x.1 cycle in
        none x.0 walk.0 walk.1
      where
        first : (a : ℕ) (path : List ℕ) (c : ℕ) → graph.Walk nodes.graph a path c → (x : Node) × (slice_get (node_list local) c ≡ Some x)
        first a [] c e = node-at c a e
        first a (b ∷ path) c (e, rest) = first b path c rest
