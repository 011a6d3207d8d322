-- Rows of resolved trees: their operations, their starts and their sample times.
use Rattle.std.proofs.Common.{◌≡◌, sym, ap, ◌∙◌, subst, ℕ, ◌^◌, ◌<◌, Bool, true, false, List, map, length, slice_index_or, None, pos, unsigned_abs, arith}
use Rattle.std.proofs.lemmas.Nat.Gcd.{le_of_dvd}
use Rattle.base_fixed_point.specs.Conversion.{InType}
use Rattle.diagram_blocks.specs.declared.Kind.{Kind}
use Rattle.diagram_blocks.specs.declared.Kind.TheVariants.{UnitDelay, Delay, RateTransition}
use Rattle.base_fixed_point.specs.declared.FixType.{FixType}
use Rattle.diagram_blocks.specs.declared.Op.{Op}
use Rattle.diagram_blocks.specs.Kinds.{is_delay}
use Rattle.diagram_blocks.specs.Meaning.{op_of, delay_length}
use Rattle.diagram_meaning.specs.Rows.{row_at, no_row}
use Rattle.diagram_meaning.specs.Diagram.{Diagram, type_at, op_at, time_at}
use Rattle.diagram_meaning.specs.ResolvedLaws.{ResolvedRowsAreNarrow, ResolvedCyclesAreShort, CyclesHaveTicks, PeriodsDivideCycle}
use Rattle.diagram_meaning.specs.ResolvedTree.{ResolvedTree, IsResolvedTree, diagram_of}
use Rattle.diagram_meaning.specs.Run.{start_of}
use Rattle.diagram_meaning.specs.WellFormed.{IsKind, IsRow}
use Rattle.diagram_meaning.proofs.lemmas.ByRow.{by_row-at}
use Rattle.diagram_meaning.proofs.lemmas.Resolving.{all-at, has_types, within_limits}
use Rattle.diagram_typed_runs.proofs.lemmas.Evaluable.{op-is}
use Rattle.diagram_typed_runs.proofs.lemmas.Kept.{first-fit}
use Rattle.emit_row_code.specs.Resolved.{IsRowOp}
use Rattle.emit_row_code.proofs.lemmas.Conversions.{in_type_small}

-- a delay remembers a sample
remembers-by : (k : Kind) (ts : List FixType) (out : FixType) (delays : Bool) → IsKind k → is_delay (op_of k ts out delays) ≡ true →
    0 < delay_length (op_of k ts out delays)
remembers-by (UnitDelay initial) ts out delays limits is = omega arith
remembers-by (Delay samples initial) ts out delays limits is = limits.0
remembers-by (RateTransition initial time) ts out true limits is = omega arith
remembers-by (RateTransition initial time) ts out false limits is = absurd (cc)
remembers-by _ ts out delays limits is = absurd (cc)

module _ (r : ResolvedTree) (resolved : IsResolvedTree r) (b : ℕ) (inside : b < length r.tree.table.rows) where
  abbrev d : Diagram
  d = diagram_of r

  pub remembers : is_delay (op_at d b) ≡ true → 0 < delay_length (op_at d b)
  remembers is =
      let kind = (row_at d.rows b).kind in
      let ts = map (type_at d.types) (row_at d.rows b).inputs in
      let delays = slice_index_or r.times.delays b false in
      let limits : IsKind kind = (all-at IsRow d.rows b no_row resolved.tree.table.each inside).kind in
      let same : op_at d b ≡ op_of kind ts (type_at r.types b) delays = op-is r resolved b inside in
      subst (λ (o : Op). 0 < delay_length o) (sym same)
      (remembers-by kind ts (type_at r.types b) delays limits (ap is_delay (sym same) ∙ is))

  pub start-small : unsigned_abs (start_of d b) < 2 ^ 63
  start-small =
      let fits = ((first-fit r resolved None).values.each b).in_type in
      in_type_small (type_at d.types b) (start_of d b)
      (subst (λ v. InType (type_at d.types b) v) (by_row-at d.rows (start_of d) b (pos 0) inside) fits)

  pub row-op : ResolvedRowsAreNarrow → IsRowOp (op_at d b)
  row-op narrow = record {
    kind = (row_at d.rows b).kind;
    types = map (type_at r.types) (row_at d.rows b).inputs;
    out = type_at r.types b;
    delays = slice_index_or r.times.delays b false;
    is_op = op-is r resolved b inside;
    within_limits = within_limits r.tree.table b resolved.tree.table inside;
    has_types = has_types r.tree.table r.types b resolved.tree.table inside;
    narrow = narrow r.tree.table r.types r.ops r.times b resolved.resolved inside;
  }

  pub period-short : ResolvedCyclesAreShort → CyclesHaveTicks → PeriodsDivideCycle → (time_at d b).period < 2 ^ 63
  period-short short some divide =
      let few = short r.tree.table r.types r.ops r.times resolved.resolved in
      let low = le_of_dvd (some r.tree.table r.types r.ops r.times resolved.resolved)
      (divide r.tree.table r.times b resolved.resolved.are_times inside) in
      omega (arith, few, low)
