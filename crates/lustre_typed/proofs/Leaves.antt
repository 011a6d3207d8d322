-- What the rows of a system read has the type `int`.
use Rattle.std.proofs.Common.{◌≡◌, refl, sym, ap, ◌∙◌, subst, ℕ, ◌-◌, ◌<◌, Bool, true, false, ◌&&◌, if◌then◌else◌, List, [], ◌∷◌, length, map, replicate, slice_index_or, Option, arith}
use Rattle.std.specs.List.{AllByRecursion}
use Rattle.diagram_blocks.specs.declared.Kind.{Kind}
use Rattle.diagram_blocks.specs.Kinds.{is_inport, is_delay, port_of}
use Rattle.diagram_meaning.specs.Rows.{row_at, same_system}
use Rattle.diagram_meaning.specs.WellFormed.{IsWireIn}
use Rattle.diagram_meaning.specs.Diagram.{Diagram, op_at, type_at}
use Rattle.diagram_meaning.specs.ResolvedTree.{ResolvedTree, IsResolvedTree, diagram_of}
use Rattle.diagram_meaning.specs.SystemRuns.{IsRowOf}
use Rattle.diagram_meaning.proofs.lemmas.EnteringWires.{single}
use Rattle.diagram_typed_runs.proofs.lemmas.Evaluable.{op-is}
use Rattle.modules_profile.proofs.lemmas.PortRows.{same-self, port-range}
use Rattle.c_syntax.specs.declared.CType.TheVariants.{I64}
use Rattle.c_syntax.specs.declared.FieldKind.TheVariants.{Number}
use Rattle.c_syntax.specs.declared.Leaf.{Leaf}
use Rattle.c_syntax.specs.declared.Leaf.TheVariants.{Param, Own}
use Rattle.c_syntax.specs.Tree.{FieldTree}
use Rattle.c_syntax.specs.Lawful.{Reach, IsLawfulLeaf}
use Rattle.emit_prelude.specs.Bodies.{function_trees}
use Rattle.emit_shape.specs.Names.{value_name}
use Rattle.lustre_syntax.specs.Tree.{int}
use Rattle.lustre_syntax.specs.Lawful.{AreDistinct}
use Rattle.lustre_system.specs.Names.{leaf_name, leaves_of, port_count}
use Rattle.lustre_system.specs.RowEquations.{delayed_name}
use Rattle.lustre_rows.proofs.lemmas.Lists.{all-map, all-mapped}
use Rattle.lustre_rows.proofs.lemmas.Wires.{own-reading, delay-wires}
use Rattle.lustre_right.specs.Systems.{system_texts}
use Rattle.lustre_typed.proofs.Lists.{at-same}
use Rattle.lustre_typed.proofs.Names.{Holds, wire-holds, param-holds}
use Rattle.lustre_typed.proofs.Tests.{many-ports}

-- ---- Rows

-- what an expression of C may read here: the inputs and the rows' values
abbrev pub number_field : FieldTree
number_field = record { name = []; kind = Number I64 }

abbrev pub reach_of : Diagram → Option ℕ → Reach
reach_of d s = record {
  pures = function_trees;
  structs = [];
  procedures = [];
  fields = replicate (length d.rows) number_field;
  params = port_count d.rows s;
  of = 0;
}

module _ (r : ResolvedTree) (resolved : IsResolvedTree r) (s : Option ℕ) (distinct : AreDistinct (system_texts (diagram_of r) s)) where
  abbrev d : Diagram
  d = diagram_of r

  -- a leaf that has a name of type `int`
  abbrev pub IsLeaf : Leaf → Type 0
  IsLeaf l = Holds d s (leaf_name d.rows s l) int × IsLawfulLeaf (reach_of d s) l

  pub wire-is : (c : ℕ) → IsWireIn d.rows s c → Holds d s (value_name c) int
  wire-is c wire = wire-holds d s distinct resolved.tree.table.nested resolved.tree.table.outports c wire

  wire-leaf : (c : ℕ) → IsWireIn d.rows s c → IsLeaf (Own c)
  wire-leaf c wire = (wire-is c wire, (number_field, at-same (length d.rows) number_field c wire.0, refl))

  module _ (b : ℕ) (row : IsRowOf d.rows s b) where
    abbrev kind : Kind
    kind = (row_at d.rows b).kind

    abbrev wires : List ℕ
    wires = (row_at d.rows b).inputs

    own-wires : is_inport kind ≡ false → AllByRecursion (IsWireIn d.rows s) wires
    own-wires is =
        subst (λ (o : Option ℕ). AllByRecursion (IsWireIn d.rows o) wires)
        (own-reading d.rows kind (row_at d.rows b).owner is ∙ row.own) (resolved.tree.table.wired.wires b row.in_table)

    input-leaf : is_inport kind ≡ true → IsLeaf (Param (port_of kind - 1))
    input-leaf is =
        let (low, high) = port-range d.rows s is_inport (resolved.tree.table.inports s) b row.in_table row.own is in
        let many = many-ports d s distinct in
        let below : port_of kind - 1 < port_count d.rows s = omega (arith, low, high, many) in
        (param-holds d s distinct (port_of kind - 1) below, below)

    pub all-leaves : AllByRecursion IsLeaf (leaves_of d.rows s b)
    all-leaves = by (is_inport kind) refl
      where
        inner : (t : Bool) → is_inport kind ≡ true → same_system (row_at d.rows b).owner s ≡ t →
            AllByRecursion IsLeaf (if t then Param (port_of kind - 1) ∷ [] else map Own wires)
        inner true is same = (input-leaf is, tt)
        inner false is same =
            let here = ap (λ (o : Option ℕ). same_system o s) row.own ∙ same-self s in absurd (let wrong : ⊥ = cc in wrong)

        by : (i : Bool) → is_inport kind ≡ i →
            AllByRecursion IsLeaf
            (if i && same_system (row_at d.rows b).owner s then Param (port_of kind - 1) ∷ [] else map Own wires)
        by true is = inner (same_system (row_at d.rows b).owner s) is refl
        by false is = all-mapped IsLeaf Own wires (all-map (IsWireIn d.rows s) (λ c. IsLeaf (Own c)) wire-leaf wires (own-wires is))

    -- what a delay reads
    pub delayed-holds : is_delay (op_at d b) ≡ true → Holds d s (delayed_name d s b) int
    delayed-holds is =
        let o = (row_at d.rows b).owner in
        let ts = map (type_at d.types) wires in
        let delays = slice_index_or r.times.delays b false in
        let (plain, one) = delay-wires kind o ts (type_at r.types b) delays (ap is_delay (sym (op-is r resolved b row.in_table)) ∙ is) in
        let (c, found) = single wires (resolved.tree.table.wired.counts b row.in_table ∙ one) in
        let wire = subst (λ (ws : List ℕ). AllByRecursion (IsWireIn d.rows s) ws) found (own-wires plain) in
        subst (λ (ws : List ℕ). Holds d s (value_name (slice_index_or ws 0 0)) int) (sym found) (wire-is c wire.0)
