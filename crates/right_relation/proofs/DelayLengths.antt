-- A delay of a resolved model has from 1 to 65,535 samples.
use Rattle.std.specs.Prelude.{◌≡◌, ℕ, ◌^◌, ◌<◌, Bool, true, false, List, map, length, slice_index_or}
use Rattle.std.proofs.Common.{sym, ap, ◌∙◌, subst, arith, true≢false}
use Rattle.base_fixed_point.specs.declared.FixType.{FixType}
use Rattle.diagram_blocks.specs.declared.Kind.{Kind}
use Rattle.diagram_blocks.specs.declared.Kind.TheVariants.{UnitDelay, Delay, RateTransition}
use Rattle.diagram_blocks.specs.declared.Op.{Op}
use Rattle.diagram_blocks.specs.declared.Op.TheVariants.{Nothing}
use Rattle.diagram_blocks.specs.Meaning.{op_of, delay_length}
use Rattle.diagram_meaning.specs.Rows.{row_at, no_row}
use Rattle.diagram_meaning.specs.Diagram.{op_at, op_in, type_at}
use Rattle.diagram_meaning.specs.ResolvedTree.{ResolvedTree, IsResolvedTree, diagram_of}
use Rattle.diagram_blocks.specs.Kinds.{is_delay}
use Rattle.diagram_meaning.specs.WellFormed.{IsKind, IsRow}
use Rattle.diagram_meaning.proofs.lemmas.ByRow.{by_row-at}
use Rattle.diagram_meaning.proofs.lemmas.Resolving.{all-at}

-- a length that a delay may have
abbrev IsLength : ℕ → Type 0
IsLength n = (0 < n) × (n < 2 ^ 16)

of-kind : (kind : Kind) (ts : List FixType) (out : FixType) (delays : Bool) → IsKind kind →
    is_delay (op_of kind ts out delays) ≡ true → IsLength (delay_length (op_of kind ts out delays))
of-kind (UnitDelay initial) ts out delays k h = (omega arith, omega arith)
of-kind (Delay length initial) ts out delays k h = (k.0, let short = k.1 in omega arith)
of-kind (RateTransition initial out_time) ts out true k h = (omega arith, omega arith)
of-kind (RateTransition initial out_time) ts out false k h = absurd (true≢false (sym h))
of-kind _ ts out delays k h = absurd (true≢false (sym h))

pub delays-are-some : (r : ResolvedTree) (b : ℕ) → IsResolvedTree r → b < length (diagram_of r).rows →
    is_delay (op_at (diagram_of r) b) ≡ true →
    IsLength (delay_length (op_at (diagram_of r) b))
delays-are-some r b resolved inside delay =
    let d = diagram_of r in
    let row : IsRow (row_at d.rows b) = all-at IsRow d.rows b no_row resolved.tree.table.each inside in
    let ts = map (type_at r.types) (row_at d.rows b).inputs in
    let delays = slice_index_or r.times.delays b false in
    let op_is : op_at d b ≡ op_of (row_at d.rows b).kind ts (type_at r.types b) delays =
    ap (λ (ops : List Op). slice_index_or ops b Nothing) resolved.resolved.are_ops
    ∙ by_row-at d.rows (op_in d.rows r.types r.times.delays) b Nothing inside in
    subst (λ op. IsLength (delay_length op)) (sym op_is)
    (of-kind (row_at d.rows b).kind ts (type_at r.types b) delays row.kind (ap is_delay (sym op_is) ∙ delay))
