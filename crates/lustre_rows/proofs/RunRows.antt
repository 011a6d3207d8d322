-- In a run of a model without a loop rows are timed, and can be computed from what they read.
use Rattle.std.proofs.Common.{◌≡◌, refl, sym, ◌∙◌, subst, ℕ, zero, suc, ◌-◌, ◌<◌, Bool, true, false, if◌then◌else◌, List, [], ◌∷◌, length, map, slice_index_or, Option, Some, None, ℤ, inl, inr}
use Rattle.std.specs.List.{AllByRecursion}
use Rattle.base_core.specs.Numbers.{int_at}
use Rattle.base_fixed_point.specs.declared.FixType.{FixType}
use Rattle.base_fixed_point.specs.Conversion.{InType}
use Rattle.diagram_blocks.specs.declared.Kind.{Kind}
use Rattle.diagram_blocks.specs.declared.Kind.TheVariants.{Inport}
use Rattle.diagram_blocks.specs.declared.Op.{Op}
use Rattle.diagram_blocks.specs.declared.Op.TheVariants as op
use Rattle.diagram_blocks.specs.Kinds.{is_inport, port_of}
use Rattle.diagram_blocks.specs.Meaning.{op_of}
use Rattle.diagram_meaning.specs.declared.table.Row.{Row}
use Rattle.diagram_meaning.specs.Rows.{row_at}
use Rattle.diagram_meaning.specs.Diagram.{Diagram, type_at, op_at}
use Rattle.diagram_meaning.specs.ResolvedLaws.{HitsRepeat}
use Rattle.diagram_meaning.specs.ResolvedTree.{ResolvedTree, diagram_of}
use Rattle.diagram_meaning.specs.Laws.{Run}
use Rattle.diagram_meaning.specs.SystemRuns.{SystemTick, own_inputs, system_tick}
use Rattle.diagram_meaning.specs.WellFormed.{IsOwner, IsWireIn}
use Rattle.diagram_typed_runs.specs.TypedRuns.{IsSystem, IsTypedTick, TicksAreTyped}
use Rattle.diagram_typed_runs.proofs.lemmas.Evaluable.{op-is}
use Rattle.emit_row_code.specs.KnownTypes.{IsOfType, AreTypesOf}
use Rattle.lustre_rows.specs.RunLaws.{IsRunRow, RowsOfRunsAreTimed, RowsOfRunsAreComputed}
use Rattle.lustre_rows.proofs.lemmas.RowFacts.{remembers, start-small}
use Rattle.lustre_rows.proofs.lemmas.Wires.{own-reading, within-root}

-- ---- By kinds

copied-typed : (k : Kind) (ts : List FixType) (out : FixType) (delays : Bool) (types : List FixType) (vs : List ℤ) → is_inport k ≡ true →
    AreTypesOf (op_of k ts out delays) types vs
copied-typed (Inport port) ts out delays types vs is = tt
copied-typed _ ts out delays types vs is = absurd (cc)

all-typed : (o : Op) (types : List FixType) (vs : List ℤ) → ((i : ℕ) → IsOfType types vs i) → AreTypesOf o types vs
all-typed (op.Gain m frac to how) types vs all = all 0
all-typed (op.Sum count minus fracs to how) types vs all = all
all-typed (op.Product count frac to how) types vs all = all
all-typed (op.Switch criterion threshold fracs to how) types vs all = all
all-typed (op.Convert frac to how) types vs all = all 0
all-typed _ types vs all = tt

-- ---- Rows of a run

module _ (typed_law : TicksAreTyped) (r : ResolvedTree) (xs : List (List ℤ)) (run : Run) (n : Option ℕ)
    (t b : ℕ) (at : IsRunRow r xs run n t b) where
  abbrev rows : List Row
  rows = r.tree.table.rows

  abbrev d : Diagram
  d = diagram_of r

  typed : (k : Option ℕ) → IsSystem rows k → (u : ℕ) → u < length xs → IsTypedTick d k (system_tick d None xs run k u)
  typed k system u within =
      typed_law r None k xs run u at.tick.resolved system (within-root rows k) at.tick.is_run at.tick.trace at.tick.no_loop within

  abbrev tick : SystemTick
  tick = system_tick d None xs run n t

  wire-typed : (c : ℕ) → IsWireIn rows n c → InType (type_at d.types c) (tick.value c)
  wire-typed c (below, inl own) = (typed n at.tick.system t at.tick.within).values c (record { in_table = below; own = own.0 })
  wire-typed c (below, inr (outport, (e, inside, parent))) =
      let owner : IsOwner rows c (Some e) = subst (λ (o : Option ℕ). IsOwner rows c o) inside
      (at.tick.resolved.tree.table.nested.owned c below) in
      (typed (Some e) owner.1 t at.tick.within).values c (record { in_table = below; own = inside })

  inputs-typed : (cs : List ℕ) → AllByRecursion (IsWireIn rows n) cs → (i : ℕ) → IsOfType (map (type_at d.types) cs) (map tick.value cs) i
  inputs-typed [] all i type there = absurd (cc)
  inputs-typed (c ∷ cs) all zero type there =
      let same : type_at d.types c ≡ type = cc in subst (λ (u : FixType). InType u (tick.value c)) same (wire-typed c all.0)
  inputs-typed (c ∷ cs) all (suc i) type there = inputs-typed cs all.1 i type there

  abbrev own_kind : Kind
  own_kind = (row_at rows b).kind

  abbrev own_wires : List ℕ
  own_wires = (row_at rows b).inputs

  abbrev own_types : List FixType
  own_types = map (type_at d.types) own_wires

  is-op : op_at d b ≡ op_of own_kind own_types (type_at r.types b) (slice_index_or r.times.delays b false)
  is-op = op-is r at.tick.resolved b at.row.in_table

  own-typed : AreTypesOf (op_at d b) own_types (own_inputs d n tick b)
  own-typed = by (is_inport own_kind) refl
    where
      by : (i : Bool) → is_inport own_kind ≡ i →
          AreTypesOf (op_at d b) own_types (if i then int_at tick.inputs (port_of own_kind - 1) ∷ [] else map tick.value own_wires)
      by true is =
          let vs = int_at tick.inputs (port_of own_kind - 1) ∷ [] in
          subst (λ (o : Op). AreTypesOf o own_types vs) (sym is-op)
          (copied-typed own_kind own_types (type_at r.types b) (slice_index_or r.times.delays b false) own_types vs is)
      by false is =
          let wires = subst (λ (o : Option ℕ). AllByRecursion (IsWireIn rows o) own_wires)
          (own-reading rows own_kind (row_at rows b).owner is ∙ at.row.own)
          (at.tick.resolved.tree.table.wired.wires b at.row.in_table) in
          all-typed (op_at d b) own_types (map tick.value own_wires) (inputs-typed own_wires wires)

pub rows_of_runs_are_timed : HitsRepeat → RowsOfRunsAreTimed
rows_of_runs_are_timed repeat r xs run n t b at = record {
  row = at.row;
  hits = repeat r.tree.table r.times b t at.tick.resolved.resolved.are_times at.row.in_table;
  start = start-small r at.tick.resolved b at.row.in_table;
}

pub rows_of_runs_are_computed : TicksAreTyped → RowsOfRunsAreComputed
rows_of_runs_are_computed typed_law r xs run n t b at valued = record {
  valued = valued;
  evaluable = (typed typed_law r xs run n t b at n at.tick.system t at.tick.within).evaluable b at.row;
  typed = own-typed typed_law r xs run n t b at;
  remembers = remembers r at.tick.resolved b at.row.in_table;
}
