-- Values, memories and triggers fit before the first tick, and after each tick where they did before it.
use Rattle.std.specs.Prelude.{◌≡◌, ℕ, zero, suc, ◌<◌, Bool, true, false, not, ◌&&◌, if◌then◌else◌, List, [], ◌∷◌, ◌++◌, map, replicate, length, slice_index_or, Option, None, ℤ, pos}
use Rattle.std.specs.List.{AllByRecursion}
use Rattle.std.proofs.Common.{refl, sym, ◌∙◌, ap, subst, arith}
use Rattle.std.proofs.lemmas.List.{get_or_past}
use native.Mathlib.Decide.{dec_lt}
use Rattle.base_core.specs.declared.Control.{Control}
use Rattle.base_core.specs.declared.Control.TheVariants.{Plain, Enabled, Triggered, Both}
use Rattle.base_core.specs.declared.Decimal.{Decimal}
use Rattle.diagram_activity.specs.declared.TrigMem.{TrigMem}
use Rattle.diagram_activity.specs.declared.TrigMem.TheVariants.{NotYet}
use Rattle.base_fixed_point.specs.declared.FixType.{FixType}
use Rattle.base_fixed_point.specs.Conversion.{InType, quantize}
use Rattle.diagram_blocks.specs.declared.Kind.{Kind}
use Rattle.diagram_blocks.specs.declared.Kind.TheVariants.{Outport, Constant, UnitDelay, Delay, RateTransition}
use Rattle.diagram_blocks.specs.declared.Op.{Op}
use Rattle.diagram_blocks.specs.declared.Op.TheVariants as op
use Rattle.diagram_blocks.specs.Meaning.{op_of, has_value, delay_length}
use Rattle.diagram_blocks.proofs.lemmas.InType.{values_stay_in_type}
use Rattle.diagram_meaning.specs.Rows.{row_at, by_row, system_control, around, is_inside}
use Rattle.diagram_meaning.specs.ResolvedTree.{ResolvedTree, IsResolvedTree, diagram_of}
use Rattle.diagram_meaning.specs.Diagram.{Diagram, type_at, op_at}
use Rattle.diagram_meaning.specs.Run.{memory_at, first_of, moved_on, start_by, start_of, initial_memory, any_off, runs, is_disabled, row_value, row_memory, has_memory, values_by, memories_by, triggers_by}
use Rattle.diagram_blocks.specs.Kinds.{is_delay, is_reset_outport}
use Rattle.diagram_meaning.proofs.lemmas.ByRow.{by_row-at, length-by_row}
use Rattle.diagram_meaning.proofs.lemmas.Tests.{and-left, and-right}
use Rattle.diagram_typed_runs.specs.Traces.{HasInputs}
use Rattle.diagram_typed_runs.specs.Fitting.{FitsRow, EachFits, AreFit, AreInTypes, IsFit}
use Rattle.diagram_typed_runs.proofs.lemmas.Copied.{zero-in}
use Rattle.diagram_typed_runs.proofs.lemmas.Evaluable.{op-is, computed-fits, taken-fits}

-- ---- Lists by row

pub zero-fits : (d : Diagram) (b : ℕ) → FitsRow d b (pos 0)
zero-fits d b = record { in_type = zero-in (type_at d.types b); ground = λ e. refl }

-- what holds of what is past the end and of what each row is given holds along the list
along : {X : Type 0} (d : Diagram) (f : ℕ → X) (nothing : X) (P : ℕ → X → Type 0) → ((b : ℕ) → P b nothing) →
    ((b : ℕ) → b < length d.rows → P b (f b)) →
    (b : ℕ) → P b (slice_index_or (by_row d.rows f) b nothing)
along d f nothing P none each b = elim (dec_lt b (length d.rows)) [
  | yes inside ↦ subst (P b) (sym (by_row-at d.rows f b nothing inside)) (each b inside)
  | no past ↦ subst (P b) (sym (get_or_past (by_row d.rows f) b nothing (omega (arith, length-by_row d.rows f)))) (none b)
]

are-fit : (d : Diagram) (f : ℕ → ℤ) → ((b : ℕ) → b < length d.rows → FitsRow d b (f b)) → AreFit d (by_row d.rows f)
are-fit d f each = record { one_each = length-by_row d.rows f; each = along d f (pos 0) (FitsRow d) (zero-fits d) each }

are-in : (d : Diagram) (f : ℕ → List ℤ) →
    ((b : ℕ) → b < length d.rows → AllByRecursion (InType (type_at d.types b)) (f b)) → AreInTypes d (by_row d.rows f)
are-in d f each = record {
  one_each = length-by_row d.rows f;
  each = along d f [] (λ b. AllByRecursion (InType (type_at d.types b))) (λ b. tt) each;
}

-- what holds of nothing, and of what is where a test passes
guarded : {X : Type 0} (P : X → Type 0) (test : Bool) (y nothing : X) → P nothing → (test ≡ true → P y) → P (if test then y else nothing)
guarded P true y nothing none some = some refl
guarded P false y nothing none some = none

-- a value for each row of a system
inside-fit : (d : Diagram) (s : Option ℕ) (f : ℕ → ℤ) →
    ((b : ℕ) → b < length d.rows → is_inside d.rows s b ≡ true → FitsRow d b (f b)) → AreFit d (values_by d s f)
inside-fit d s f each = are-fit d (λ b. if is_inside d.rows s b then f b else pos 0)
    (λ b inside. guarded (FitsRow d b) (is_inside d.rows s b) (f b) (pos 0) (zero-fits d b) (each b inside))

-- a memory for each delay of a system
inside-in : (d : Diagram) (s : Option ℕ) (f : ℕ → List ℤ) →
    ((b : ℕ) → b < length d.rows → is_inside d.rows s b ≡ true → is_delay (op_at d b) ≡ true →
    AllByRecursion (InType (type_at d.types b)) (f b)) → AreInTypes d (memories_by d s f)
inside-in d s f each = are-in d (λ b. if has_memory d s b then f b else [])
    (λ b inside. guarded (AllByRecursion (InType (type_at d.types b))) (has_memory d s b) (f b) [] tt
    (λ has. each b inside (and-left (is_inside d.rows s b) (is_delay (op_at d b)) has)
    (and-right (is_inside d.rows s b) (is_delay (op_at d b)) has)))

-- ---- What a row remembers

-- the first of some numbers of a type, or 0
pub oldest-in : (type : FixType) (memory : List ℤ) → AllByRecursion (InType type) memory → InType type (first_of memory)
oldest-in type [] all = zero-in type
oldest-in type (v ∷ memory) all = all.0

all-repeated : (P : ℤ → Type 0) (n : ℕ) (v : ℤ) → P v → AllByRecursion P (replicate n v)
all-repeated P zero v p = tt
all-repeated P (suc n) v p = (p, all-repeated P n v p)

all-pushed : (P : ℤ → Type 0) (vs : List ℤ) (v : ℤ) → AllByRecursion P vs → P v → AllByRecursion P (vs ++ v ∷ [])
all-pushed P [] v all p = (p, tt)
all-pushed P (w ∷ vs) v all p = (all.0, all-pushed P vs v all.1 p)

all-moved : (P : ℤ → Type 0) (memory : List ℤ) (v : ℤ) → AllByRecursion P memory → P v → AllByRecursion P (moved_on memory v)
all-moved P [] v all p = (p, tt)
all-moved P (w ∷ memory) v all p = all-pushed P memory v all.1 p

no-delay-none : (op : Op) (v : ℤ) → (if is_delay op then replicate (delay_length op) v else []) ≡ replicate (delay_length op) v
no-delay-none op.Copy v = refl
no-delay-none _ v = refl

-- a row that is no delay remembers nothing at first
pub first-or-none : (d : Diagram) (b : ℕ) → (if has_memory d None b then initial_memory d b else []) ≡ initial_memory d b
first-or-none d b = no-delay-none (op_at d b) (start_of d b)

-- ---- One row

quantized : (value : Decimal) (out : FixType) → InType out (quantize value out)
quantized value out = values_stay_in_type (Constant value) [] out false [] (pos 0) tt

start-in : (kind : Kind) (ts : List FixType) (out : FixType) (delays : Bool) (around_it : Control) →
    InType out (start_by (op_of kind ts out delays) kind around_it out)
start-in (Outport port reset initial) ts out delays Plain = zero-in out
start-in (Outport port reset initial) ts out delays (Enabled resets) = quantized initial out
start-in (Outport port reset initial) ts out delays (Triggered edge) = quantized initial out
start-in (Outport port reset initial) ts out delays (Both resets edge) = quantized initial out
start-in (UnitDelay initial) ts out delays around_it = quantized initial out
start-in (Delay length initial) ts out delays around_it = quantized initial out
start-in (RateTransition initial out_time) ts out true around_it = quantized initial out
start-in (RateTransition initial out_time) ts out false around_it = zero-in out
start-in _ ts out delays around_it = zero-in out

-- one of two or more
either : {X : Type 0} (P : X → Type 0) (a : Bool) (y z : X) → P y → P z → P (if a then y else z)
either P true y z p q = p
either P false y z p q = q

module _ (r : ResolvedTree) (is : IsResolvedTree r) where
  start-fits : (b : ℕ) → b < length r.tree.table.rows → FitsRow (diagram_of r) b (start_of (diagram_of r) b)
  start-fits b inside =
      let row = row_at r.tree.table.rows b in
      let control = system_control r.tree.table.rows row.owner in
      let ts = map (type_at r.types) row.inputs in
      let delays = slice_index_or r.times.delays b false in record {
        in_type =
            subst (λ op. InType (type_at r.types b) (start_by op row.kind control (type_at r.types b)))
            (sym (op-is r is b inside)) (start-in row.kind ts (type_at r.types b) delays control);
        ground = λ e. ap (λ op. start_by op row.kind control (type_at r.types b)) (op-is r is b inside)
            ∙ ap (λ kind. start_by (op_of kind ts (type_at r.types b) delays) kind control (type_at r.types b)) e;
      }

  first-in : (b : ℕ) → b < length r.tree.table.rows → AllByRecursion (InType (type_at r.types b)) (initial_memory (diagram_of r) b)
  first-in b inside =
      all-repeated (InType (type_at r.types b)) (delay_length (op_at (diagram_of r) b)) (start_of (diagram_of r) b)
      (start-fits b inside).in_type

  module _ (s : Option ℕ) where
    -- before the first tick
    pub first-fit : IsFit (diagram_of r) (values_by (diagram_of r) s (start_of (diagram_of r)))
        (memories_by (diagram_of r) s (initial_memory (diagram_of r))) (triggers_by (diagram_of r) s (λ e. NotYet))
    first-fit = record {
      values = inside-fit (diagram_of r) s (start_of (diagram_of r)) (λ b inside stands. start-fits b inside);
      memories = inside-in (diagram_of r) s (initial_memory (diagram_of r)) (λ b inside stands delay. first-in b inside);
      triggers = length-by_row r.tree.table.rows _;
    }

    module _ (t : ℕ) (x before : List ℤ) (m : List (List ℤ)) (v : List ℤ) (g : List TrigMem)
        (has : HasInputs (diagram_of r) s x) (fit : IsFit (diagram_of r) before m g)
        (now : EachFits (diagram_of r) v) where
      value-fits : (b : ℕ) → b < length r.tree.table.rows → is_inside r.tree.table.rows s b ≡ true →
          FitsRow (diagram_of r) b (row_value (diagram_of r) s t x before m g v b)
      value-fits b inside stands =
          let P = FitsRow (diagram_of r) b in
          either P (not (has_value (row_at r.tree.table.rows b).kind)) _ _ (zero-fits (diagram_of r) b)
          (either P (is_reset_outport (row_at r.tree.table.rows b).kind
          && is_disabled (diagram_of r) s x v g (around r.tree.table.rows s b)) _ _ (start-fits b inside)
          (either P (runs (diagram_of r) s x v g t b) _ _
          (computed-fits r is b inside s stands x v has now (first_of (memory_at m b))
          (oldest-in (type_at r.types b) (memory_at m b) (fit.memories.each b))) (fit.values.each b)))

      -- the values that are made from these
      pub values-fit : AreFit (diagram_of r) (values_by (diagram_of r) s (row_value (diagram_of r) s t x before m g v))
      values-fit = inside-fit (diagram_of r) s (row_value (diagram_of r) s t x before m g v) value-fits

      memory-in : (b : ℕ) → b < length r.tree.table.rows → is_inside r.tree.table.rows s b ≡ true →
          is_delay (op_at (diagram_of r) b) ≡ true →
          AllByRecursion (InType (type_at r.types b)) (row_memory (diagram_of r) s t x m g v b)
      memory-in b inside stands delay =
          let P = AllByRecursion (InType (type_at r.types b)) in
          either P (any_off (diagram_of r) s x v g (around r.tree.table.rows s b)) _ _ (first-in b inside)
          (either P (runs (diagram_of r) s x v g t b) _ _
          (all-moved (InType (type_at r.types b)) (memory_at m b) _ (fit.memories.each b)
          (taken-fits r is b inside s stands x v has now delay)) (fit.memories.each b))

      -- and the memories after the tick
      pub memories-fit : AreInTypes (diagram_of r) (memories_by (diagram_of r) s (row_memory (diagram_of r) s t x m g v))
      memories-fit = inside-in (diagram_of r) s (row_memory (diagram_of r) s t x m g v) memory-in
