-- The masks of the nodes of a system say which inputs reach its outputs.
use Rattle.std.specs.Prelude.{◌≡◌, ℕ, suc, ◌^◌, ◌<◌, ◌↔◌, List, [], ◌∷◌, map, slice_get, get_or, All, Contains, Some, IsBitSet, unwrap_or, refl}
use Rattle.std.specs.List.{AllZip, flat_map, position_from}
use Rattle.std.proofs.Common.{arith, sym, ap, ap₂, subst, ◌∙◌, inl, inr}
use Rattle.std.proofs.lemmas.List.Elements.{All-map, All-weaker, All-contains_itself}
use Rattle.std.proofs.lemmas.Option.{same_Some}
use Rattle.diagram_blocks.specs.Kinds.{is_outport}
use Rattle.diagram_meaning.specs.Needs.{IsMaskOf}
use Rattle.base_graph.specs.Masks.{AreMasks}
use Rattle.base_graph.specs.Reaching as graph
use Rattle.modules_profile.specs.declared.local.LocalRow.{LocalRow}
use Rattle.modules_profile.specs.declared.nodes.Node.{Node}
use Rattle.modules_profile.specs.declared.nodes.Node.TheVariants.{Row}
use Rattle.modules_profile.specs.LocalSystem.{LocalSystem}
use Rattle.modules_profile.specs.SystemNodes.{SystemNodes}
use Rattle.base_core.specs.Ports.{control_ports, ports_mask}
use Rattle.modules_profile.specs.Locals.{outports}
use Rattle.modules_profile.specs.LocalNodes.{same_node, call_nodes, node_list, NodeReaches, AreNodesOf}
use Rattle.modules_profile.specs.LawfulLocals.{IsLocal}
use Rattle.modules_profile.specs.NodeInputs.{InputReaches, inputs_of, AreNodeInputs, AreInputBits}
use Rattle.modules_profile.proofs.lemmas.Members.{in-first, in-rest, in-at, at-in, at-below, at-map, at-left}
use Rattle.modules_profile.proofs.lemmas.InputMasks.{mask-with, AreMasksAt}
use Rattle.modules_profile.proofs.lemmas.NodeReach.{walk-to-places, walk-to-nodes}
use Rattle.modules_profile.proofs.lemmas.PlaceSteps.{place, own-place, stands-at, places-stand}

same-somes : (xs ys : List ℕ) → map Some xs ≡ map Some ys → xs ≡ ys
same-somes [] [] e = refl
same-somes [] (y ∷ ys) e = absurd (let wrong : ⊥ = cc e in wrong)
same-somes (x ∷ xs) [] e = absurd (let wrong : ⊥ = cc e in wrong)
same-somes (x ∷ xs) (y ∷ ys) e =
    let first : x ≡ y = cc e in
    let rest : map Some xs ≡ map Some ys = cc e in
    ap₂ (λ z zs. z ∷ zs) first (same-somes xs ys rest)

module _ (local : LocalSystem) (is : IsLocal local) (nodes : SystemNodes) (are : AreNodesOf local nodes) where
  abbrev place_of : LocalRow → ℕ
  place_of o = place local is is_outport o

  own-node : (i : ℕ) (r : LocalRow) → slice_get local.rows i ≡ Some r → slice_get (node_list local) i ≡ Some (Row r.row)
  own-node i r at =
      at-left (map (λ (q : LocalRow). Row q.row) local.rows) (flat_map call_nodes local.children) i (Row r.row)
      (at-map (λ (q : LocalRow). Row q.row) local.rows i r at)

  own-place-is : (i : ℕ) (r : LocalRow) → slice_get local.rows i ≡ Some r → place_of r ≡ i
  own-place-is i r at = own-place local is is_outport i r at

  -- an own Outport is at its place
  own-outport : (o : LocalRow) → Contains (outports local) o → slice_get local.rows (place_of o) ≡ Some o
  own-outport o h = stands-at local is is_outport o h

  places-of-outputs : nodes.outputs ≡ map place_of (outports local)
  places-of-outputs = same-somes nodes.outputs (map place_of (outports local)) (are.outputs ∙ sym (places-stand local is is_outport))

  place-below : (o : LocalRow) → Contains (outports local) o → place_of o < nodes.graph.n
  place-below o h = let low =
      at-below (node_list local) (place_of o) (Row o.row) (own-node (place_of o) o (own-outport o h)) in let many =
      are.count in omega (arith, low, many)

  pub outputs-below : All (λ b. b < nodes.graph.n) nodes.outputs
  outputs-below =
      subst (All (λ b. b < nodes.graph.n)) (sym places-of-outputs)
      (All-map (λ b. b < nodes.graph.n) place_of (outports local)
      (All-weaker (Contains (outports local)) (λ o. place_of o < nodes.graph.n) place-below (outports local)
      (All-contains_itself (outports local))))

  module _ (i j : ℕ) (r o : LocalRow) (from : slice_get local.rows i ≡ Some r) (to : slice_get local.rows j ≡ Some o) where
    reach-nodes : graph.Reaches nodes.graph i j → NodeReaches local (Row r.row) (Row o.row)
    reach-nodes (inl same) = inl (ap (λ (q : LocalRow). Row q.row) (same_Some r o (sym from ∙ ap (slice_get local.rows) same ∙ to)))
    reach-nodes (inr walk) =
        inr (walk-to-nodes local nodes are i j (Row r.row) (Row o.row) walk.0 (own-node i r from)
        (own-node j o to) walk.1)

    reach-places : NodeReaches local (Row r.row) (Row o.row) → graph.Reaches nodes.graph i j
    reach-places (inl same) =
        inl (sym (own-place-is i r from)
        ∙ ap (λ (x : Node). unwrap_or (position_from (same_node x) 0 (node_list local)) 0) same ∙ own-place-is j o to)
    reach-places (inr walk) =
        inr (walk-to-places local nodes are i j (Row r.row) (Row o.row) (Row o.row) walk.0 (own-node i r from)
        (own-node j o to) refl walk.1)

  module _ (source masks : List ℕ) (own : AreInputBits local.rows nodes.graph.n source) (reached : AreMasks nodes.graph source masks) where
    reached-bits : (o : LocalRow) → Contains (outports local) o → (k : ℕ) →
        IsBitSet (get_or masks (place_of o) 0) k ↔ ((k < 32) × InputReaches local o (suc k))
    reached-bits o h k = (to, from)
      where
        to : IsBitSet (get_or masks (place_of o) 0) k → (k < 32) × InputReaches local o (suc k)
        to set =
            let r = (reached.bits (place_of o) k (place-below o h)).0 set in
            let b = (own.bits r.0 k r.1).0 r.3 in (
              b.0,
              record {
                inport = b.1.row;
                is_own = in-at local.rows r.0 b.1.row b.1.at;
                is_inport = b.1.is_inport;
                reaches = reach-nodes r.0 (place_of o) b.1.row o b.1.at (own-outport o h) r.2;
              },
            )

        from : (k < 32) × InputReaches local o (suc k) → IsBitSet (get_or masks (place_of o) 0) k
        from (few, t) =
            let at = at-in local.rows t.inport t.is_own in
            let low = at-below (node_list local) at.0 (Row t.inport.row) (own-node at.0 t.inport at.1) in
            let below : at.0 < nodes.graph.n = (let many = are.count in omega (arith, low, many)) in
            (reached.bits (place_of o) k (place-below o h)).1 (
              at.0,
              below,
              reach-places at.0 (place_of o) t.inport o at.1 (own-outport o h) t.reaches,
              (own.bits at.0 k below).1 (few, record { row = t.inport; at = at.1; is_inport = t.is_inport }),
            )

    masks-of : (os : List LocalRow) (ms : List ℕ) → ((o : LocalRow) → Contains os o → Contains (outports local) o) →
        AreMasksAt masks (ports_mask (control_ports local.control)) (map place_of os) ms →
        AllZip (λ o mask. IsMaskOf (inputs_of (InputReaches local o) local.control) mask) os ms
    masks-of [] [] each h = tt
    masks-of [] (m ∷ ms) each h = h
    masks-of (o ∷ os) [] each h = h
    masks-of (o ∷ os) (m ∷ ms) each h = (
      subst (IsMaskOf (inputs_of (InputReaches local o) local.control)) (sym h.0.0)
          (mask-with (InputReaches local o) local.control (get_or masks (place_of o) 0)
          (reached-bits o (each o (in-first o os))) (subst (λ q. q < 2 ^ 64) h.0.0 h.0.1)),
      masks-of os ms (λ p m. each p (in-rest o p os m)) h.1,
    )

    pub inputs-are : (ms : List ℕ) → AreMasksAt masks (ports_mask (control_ports local.control)) nodes.outputs ms → AreNodeInputs local ms
    inputs-are ms h =
        masks-of (outports local) ms (λ o m. m)
        (subst (λ os. AreMasksAt masks (ports_mask (control_ports local.control)) os ms) places-of-outputs h)
