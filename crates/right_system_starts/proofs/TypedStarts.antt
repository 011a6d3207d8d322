-- What a row is before the first tick lies in the row's type, and so in the C type of its field; and there it can be written.
use Rattle.std.specs.Prelude.{◌≡◌, ℕ, ◌-◌, ◌^◌, ◌<◌, Bool, true, false, nat_le, if◌then◌else◌, List, [], map, slice_index_or, Contains, Option, ◌&&◌, ℤ, pos, neg_ℤ, ◌≤ℤ◌, int_lt, int_le, unsigned_abs, refl}
use Rattle.std.proofs.Common.{sym, ap, subst, ◌∙◌, arith}
use Rattle.std.proofs.lemmas.Bool.{and_parts, and_from}
use Rattle.std.proofs.lemmas.Int.{ints}
use Rattle.base_core.specs.declared.Control.{Control}
use Rattle.base_core.specs.declared.Control.TheVariants.{Plain, Enabled, Triggered, Both}
use Rattle.base_core.specs.declared.Decimal.{Decimal}
use Rattle.base_fixed_point.specs.declared.FixType.{FixType}
use Rattle.base_fixed_point.specs.Conversion.{InType, quantize}
use Rattle.diagram_blocks.specs.declared.Kind.{Kind}
use Rattle.diagram_blocks.specs.declared.Kind.TheVariants.{Outport, Constant, Ground, UnitDelay, Delay, RateTransition}
use Rattle.diagram_blocks.specs.declared.Op.{Op}
use Rattle.diagram_blocks.specs.declared.Op.TheVariants.{Nothing}
use Rattle.diagram_blocks.specs.Meaning.{op_of}
use Rattle.diagram_blocks.proofs.lemmas.InType.{values_stay_in_type}
use Rattle.diagram_meaning.specs.Rows.{row_at, rows_of, system_control}
use Rattle.diagram_meaning.specs.ResolvedTree.{ResolvedTree, IsResolvedTree, diagram_of}
use Rattle.diagram_meaning.specs.Diagram.{type_at, op_at, op_in}
use Rattle.diagram_meaning.specs.Run.{start_by}
use Rattle.diagram_meaning.proofs.lemmas.ByRow.{by_row-at}
use Rattle.modules_profile.specs.declared.LocalRow.{LocalRow}
use Rattle.modules_profile.specs.LocalSystem.{LocalSystem}
use Rattle.modules_profile.specs.Locals.{local_row, local_of}
use Rattle.modules_profile.specs.NodeFacts.{IsLocalOf}
use Rattle.modules_profile.proofs.lemmas.Members.{of-map}
use Rattle.modules_profile.proofs.lemmas.OwnRows.{of-rows}
use Rattle.c_syntax.specs.declared.CType.TheVariants.{I8, U8, I16, U16, I32, U32, I64}
use Rattle.c_syntax.specs.Tree.{neg, literal}
use Rattle.c_semantics.specs.Values.{gives, eval, Function, Reads, is_in_type, least_of, greatest_of}
use Rattle.emit_row_code.specs.RowCode.{written}
use Rattle.emit_shape.specs.Names.{container}
use Rattle.emit_shape.specs.RowStarts.{row_start}

zero-in : (type : FixType) → InType type (pos 0)
zero-in type = values_stay_in_type Ground [] type false [] (pos 0) tt

quantized : (value : Decimal) (out : FixType) → InType out (quantize value out)
quantized value out = values_stay_in_type (Constant value) [] out false [] (pos 0) tt

start-in : (kind : Kind) (ts : List FixType) (out : FixType) (delays : Bool) (around_it : Control) →
    InType out (start_by (op_of kind ts out delays) kind around_it out)
start-in (Outport port reset initial) ts out delays Plain = zero-in out
start-in (Outport port reset initial) ts out delays (Enabled resets) = quantized initial out
start-in (Outport port reset initial) ts out delays (Triggered edge) = quantized initial out
start-in (Outport port reset initial) ts out delays (Both resets edge) = quantized initial out
start-in (UnitDelay initial) ts out delays around_it = quantized initial out
start-in (Delay long initial) ts out delays around_it = quantized initial out
start-in (RateTransition initial out_time) ts out true around_it = quantized initial out
start-in (RateTransition initial out_time) ts out false around_it = zero-in out
start-in _ ts out delays around_it = zero-in out

-- each row of a system of a resolved model
pub starts-in : (r : ResolvedTree) (local : LocalSystem) → IsResolvedTree r → IsLocalOf r local.row local → (q : LocalRow) →
    Contains local.rows q →
    InType q.out (row_start local q)
starts-in r local resolved is q own =
    subst (λ (l : LocalSystem). Contains l.rows q → InType q.out (row_start l q)) (sym is.is_local) (by local.row) own
  where
    by : (s : Option ℕ) → Contains (local_of (diagram_of r) r.times.delays s is.headers).rows q →
        InType q.out (row_start (local_of (diagram_of r) r.times.delays s is.headers) q)
    by s h =
        let rows = r.tree.table.rows in
        let m = of-map (local_row (diagram_of r) r.times.delays) (rows_of rows s) q h in
        let below = (of-rows rows s m.0 m.1).0 in
        let op : op_at (diagram_of r) m.0 ≡ op_in rows r.types r.times.delays m.0 =
        ap (λ (ops : List Op). slice_index_or ops m.0 Nothing) resolved.resolved.are_ops
        ∙ by_row-at rows (op_in rows r.types r.times.delays) m.0 Nothing below in
        let row = row_at rows m.0 in
        subst (λ (x : LocalRow). InType x.out (start_by x.op x.kind (system_control rows s) x.out)) m.2
        (subst (λ o. InType (type_at r.types m.0) (start_by o row.kind (system_control rows s) (type_at r.types m.0))) (sym op)
        (start-in row.kind (map (type_at r.types) row.inputs) (type_at r.types m.0) (slice_index_or r.times.delays m.0 false)
        (system_control rows s)))

bounded : (least greatest v : ℤ) → neg_ℤ (pos (2 ^ 31)) ≤ℤ least → greatest ≤ℤ pos (2 ^ 32) →
    (int_le least v && int_le v greatest) ≡ true → unsigned_abs v < 2 ^ 63
bounded least greatest v low high h =
    let p : (int_le least v ≡ true) × (int_le v greatest ≡ true) = and_parts (int_le least v) (int_le v greatest) h in
    omega (arith, ints, low, high, p.0, p.1)

-- a number of the C type of a row's field can be written
pub small : (t : FixType) (v : ℤ) → is_in_type (container t) v ≡ true → unsigned_abs v < 2 ^ 63
small t v = by (nat_le t.bits 8) (nat_le t.bits 16) t.signed
  where
    by : (b8 b16 s : Bool) →
        is_in_type (if b8 then (if s then I8 else U8) else (if b16 then (if s then I16 else U16) else (if s then I32 else U32))) v
        ≡ true → unsigned_abs v < 2 ^ 63
    by true b16 true h = bounded (least_of I8) (greatest_of I8) v (omega (arith, ints)) (omega (arith, ints)) h
    by true b16 false h = bounded (least_of U8) (greatest_of U8) v (omega (arith, ints)) (omega (arith, ints)) h
    by false true true h = bounded (least_of I16) (greatest_of I16) v (omega (arith, ints)) (omega (arith, ints)) h
    by false true false h = bounded (least_of U16) (greatest_of U16) v (omega (arith, ints)) (omega (arith, ints)) h
    by false false true h = bounded (least_of I32) (greatest_of I32) v (omega (arith, ints)) (omega (arith, ints)) h
    by false false false h = bounded (least_of U32) (greatest_of U32) v (omega (arith, ints)) (omega (arith, ints)) h

-- a number as it is written
int-le : (a b : ℤ) → a ≤ℤ b → int_le a b ≡ true
int-le a b h = by (int_le a b) refl
  where
    by : (t : Bool) → int_le a b ≡ t → t ≡ true
    by true e = refl
    by false e = absurd (omega (arith, ints, h, e))

fits-64 : (v : ℤ) → unsigned_abs v < 2 ^ 63 → is_in_type I64 v ≡ true
fits-64 v h = and_from _ _ (int-le (neg_ℤ (pos (2 ^ 63))) v (omega (arith, ints, h))) (int-le v (pos (2 ^ 63 - 1)) (omega (arith, ints, h)))

pub written-gives : (functions : List Function) (reads : Reads) (line : ℕ) (v : ℤ) → unsigned_abs v < 2 ^ 63 → (steps : ℕ) →
    eval functions reads line (written v) steps ≡ gives v steps
written-gives functions reads line v h steps = by (int_lt v (pos 0))
  where
    twice : neg_ℤ (neg_ℤ v) ≡ v
    twice = omega (arith, ints)

    by : (t : Bool) → eval functions reads line (if t then neg (literal (neg_ℤ v)) else literal v) steps ≡ gives v steps
    by true = rw (twice, fits-64 v h) refl
    by false = refl
