-- Rows and nodes agree: an own row reaches an Outport by rows exactly where its node does by nodes, and a model without a loop
-- of rows has no loop of nodes.
use Rattle.std.specs.Prelude.{◌≡◌, ◌↔◌, ℕ, ◌<◌, Bool, true, List, [], ◌∷◌, ◌++◌, map, length, slice_index_or, Contains, Option, refl}
use Rattle.std.proofs.Common.{sym, ap, subst, ◌∙◌, inl, inr, true≢false}
use Rattle.base_fixed_point.specs.declared.FixType.{FixType}
use Rattle.diagram_blocks.specs.declared.Kind.{Kind}
use Rattle.diagram_blocks.specs.declared.Kind.TheVariants.{Inport}
use Rattle.diagram_blocks.specs.declared.Op.{Op}
use Rattle.diagram_blocks.specs.declared.Op.TheVariants.{Nothing}
use Rattle.diagram_blocks.specs.Meaning.{op_of}
use Rattle.diagram_blocks.specs.Value.{feeds_through}
use Rattle.diagram_meaning.specs.Rows.{row_at, rows_of, outports_of}
use Rattle.diagram_blocks.specs.Kinds.{is_inport, is_outport}
use Rattle.diagram_meaning.specs.Diagram.{Diagram, op_at, op_in}
use Rattle.diagram_meaning.specs.Needs.{needs_of, needs_inside, Walk, Reaches, HasNoLoop}
use Rattle.diagram_meaning.specs.ResolvedTree.{ResolvedTree, IsResolvedTree, diagram_of}
use Rattle.diagram_meaning.proofs.lemmas.ByRow.{by_row-at}
use Rattle.diagram_meaning.proofs.lemmas.Inside.{HasNoLoop-inside}
use Rattle.modules_profile.specs.declared.local.LocalRow.{LocalRow}
use Rattle.modules_profile.specs.declared.nodes.Node.{Node}
use Rattle.modules_profile.specs.declared.nodes.Node.TheVariants.{Row}
use Rattle.modules_profile.specs.LocalSystem.{LocalSystem}
use Rattle.modules_profile.specs.SystemHeader.{SystemHeader}
use Rattle.modules_profile.specs.Locals.{local_row, local_of}
use Rattle.modules_profile.specs.LocalNodes.{node_gives, NodeNeeds, NodeWalk, NodeReaches, HasNoNodeLoop}
use Rattle.modules_profile.specs.NodeFacts.{AreHeaders, NodesReachAsRows, NodesHaveNoLoop}
use Rattle.modules_profile.proofs.lemmas.Members.{of-map}
use Rattle.modules_profile.proofs.lemmas.PortRows.{in-rows, of-ports}
use Rattle.modules_profile.proofs.OwnNodes.{row-gives, of-row-gives}
use Rattle.modules_profile.proofs.NodeSteps.{HasLaws, node-step}
use Rattle.modules_profile.proofs.RowSteps.{At, row-step, at-own}

-- one walk after another
join : (needs : ℕ → List ℕ) (a : ℕ) (path : List ℕ) (b : ℕ) (rest : List ℕ) (c : ℕ) → Walk needs a path b → Walk needs b rest c →
    Walk needs a (path ++ b ∷ rest) c
join needs a [] b rest c step walk = (step, walk)
join needs a (z ∷ path) b rest c (step, more) walk = (step, join needs z path b rest c more walk)

module _ (d : Diagram) (delays : List Bool) (s : Option ℕ) (headers : List SystemHeader) (laws : HasLaws d s headers) where
  abbrev local : LocalSystem
  local = local_of d delays s headers

  -- one node before a walk
  needs-then : (x y z : Node) → NodeNeeds local x y → NodeReaches local z y → NodeReaches local z x
  needs-then x y z step (inl same) = inr ([], subst (NodeNeeds local x) (sym same) step)
  needs-then x y z step (inr (path, walk)) = inr (y ∷ path, (step, walk))

  -- a walk of rows to an own row is one of nodes
  to-nodes : (a : ℕ) (path : List ℕ) (b : ℕ) (x : Node) → At d delays s headers laws x a → Contains (rows_of d.rows s) b →
      Walk (needs_inside d s) a path b → NodeReaches local (Row b) x
  to-nodes a [] b x at own step = elim (row-step d delays s headers laws x a b at step) [
    | inl here ↦ inl (sym (at-own d delays s headers laws x b here own))
    | inr on ↦ needs-then x on.0 (Row b) on.1 (inl (sym (at-own d delays s headers laws on.0 b on.2 own)))
  ]
  to-nodes a (z ∷ path) b x at own walk = elim (row-step d delays s headers laws x a z at walk.0) [
    | inl here ↦ to-nodes z path b x here own walk.1
    | inr on ↦ needs-then x on.0 (Row b) on.1 (to-nodes z path b on.0 on.2 own walk.1)
  ]

  -- A walk of nodes is one of rows: each row that the first node gives reaches one that the last node gives.
  record IsWalked (y x : Node) : Type 0 where
    c : ℕ
    gives : Contains (node_gives local x) c
    walks : (g : ℕ) → Contains (node_gives local y) g → (path : List ℕ) × Walk (needs_inside d s) g path c

  to-rows : (y : Node) (path : List Node) (x : Node) → NodeWalk local y path x → IsWalked y x
  to-rows y [] x (c, needs, gives) = record { c = c; gives = gives; walks = λ g m. node-step d delays s headers laws y c g needs m }
  to-rows y (z ∷ path) x ((b, needs, gives), walk) =
      let rest = to-rows z path x walk in
      record {
        c = rest.c;
        gives = rest.gives;
        walks = λ g m.
            let first = node-step d delays s headers laws y b g needs m in
            let then = rest.walks b gives in
            (first.0 ++ b ∷ then.0, join (needs_inside d s) g first.0 b then.0 rest.c first.1 then.1);
      }

  own-outport : (o : ℕ) → Contains (outports_of d.rows s) o → Contains (rows_of d.rows s) o
  own-outport o h = let p = of-ports d.rows s is_outport o h in in-rows d.rows s o p.0 p.1

  pub reach-as-rows : (o b : ℕ) → Contains (outports_of d.rows s) o → Contains (rows_of d.rows s) b →
      Reaches (needs_inside d s) o b ↔ NodeReaches local (Row b) (Row o)
  reach-as-rows o b out own = (to, from)
    where
      to : Reaches (needs_inside d s) o b → NodeReaches local (Row b) (Row o)
      to (inl same) = inl (ap Row (sym same))
      to (inr (path, walk)) = to-nodes o path b (Row o) (refl, own-outport o out) own walk

      from : NodeReaches local (Row b) (Row o) → Reaches (needs_inside d s) o b
      from (inl same) = inl (let e : o ≡ b = cc same in e)
      from (inr (path, walk)) =
          let w = to-rows (Row o) path (Row b) walk in
          let rows = w.walks o (row-gives d delays s headers o (own-outport o out)) in
          inr (rows.0, subst (Walk (needs_inside d s) o rows.0) (sym (of-row-gives d delays s headers b w.c w.gives)) rows.1)

  pub no-node-loop : HasNoLoop (needs_of d) → HasNoNodeLoop local
  no-node-loop none x path walk =
      let w = to-rows x path x walk in
      let rows = w.walks w.c w.gives in
      HasNoLoop-inside d s none (w.c ∷ rows.0) rows.1

-- ---- Of a resolved model

inport-copies : (kind : Kind) (types : List FixType) (out : FixType) (delays : Bool) → is_inport kind ≡ true →
    feeds_through (op_of kind types out delays) ≡ true
inport-copies (Inport port) types out delays h = refl
inport-copies _ types out delays h = absurd (true≢false (sym h))

laws-of : (r : ResolvedTree) (s : Option ℕ) (headers : List SystemHeader) → IsResolvedTree r → AreHeaders (diagram_of r) s headers →
    HasLaws (diagram_of r) s headers
laws-of r s headers resolved are = record {
  nested = resolved.tree.table.nested;
  wired = resolved.tree.table.wired;
  inports = resolved.tree.table.inports;
  outports = resolved.tree.table.outports;
  copies = copies;
  are_headers = are;
}
  where
    copies : (b : ℕ) → b < length (diagram_of r).rows → is_inport (row_at (diagram_of r).rows b).kind ≡ true →
        feeds_through (op_at (diagram_of r) b) ≡ true
    copies b below is =
        let rows = r.tree.table.rows in
        ap (λ (ops : List Op). feeds_through (slice_index_or ops b Nothing)) resolved.resolved.are_ops
        ∙ ap feeds_through (by_row-at rows (op_in rows r.types r.times.delays) b Nothing below)
        ∙ inport-copies (row_at rows b).kind _ _ _ is

pub nodes_reach_as_rows : NodesReachAsRows
nodes_reach_as_rows r s _ o b resolved is out own =
    subst (λ (l : LocalSystem). Reaches (needs_inside (diagram_of r) s) o b ↔ NodeReaches l (Row b) (Row o)) (sym is.is_local)
    (reach-as-rows (diagram_of r) r.times.delays s is.headers (laws-of r s is.headers resolved is.are_headers) o b out listed)
  where
    listed : Contains (rows_of (diagram_of r).rows s) b
    listed =
        let m = of-map (λ (own : LocalRow). own.row) (map (local_row (diagram_of r) r.times.delays) (rows_of (diagram_of r).rows s)) b
        (subst (λ (l : LocalSystem). Contains (map (λ (own : LocalRow). own.row) l.rows) b) is.is_local own) in
        let a = of-map (local_row (diagram_of r) r.times.delays) (rows_of (diagram_of r).rows s) m.0 m.1 in
        subst (Contains (rows_of (diagram_of r).rows s)) (ap (λ (own : LocalRow). own.row) a.2 ∙ m.2) a.1

pub nodes_have_no_loop : NodesHaveNoLoop
nodes_have_no_loop r s _ resolved is none =
    subst HasNoNodeLoop (sym is.is_local)
    (no-node-loop (diagram_of r) r.times.delays s is.headers (laws-of r s is.headers resolved is.are_headers) none)
