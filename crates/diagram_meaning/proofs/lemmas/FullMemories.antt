-- In a run a delay remembers as many numbers as it is long.
use Rattle.std.specs.Prelude.{◌≡◌, ℕ, zero, suc, ◌<◌, ◌≤◌, Bool, true, false, if◌then◌else◌, List, [], ◌∷◌, map, length, slice_index_or, Option, ℤ}
use Rattle.std.proofs.Common.{sym, ◌∙◌, ap, subst, arith, true≢false}
use Rattle.std.proofs.lemmas.List.{length-append}
use Rattle.base_fixed_point.specs.declared.FixType.{FixType}
use Rattle.diagram_activity.specs.declared.TrigMem.{TrigMem}
use Rattle.diagram_blocks.specs.declared.Kind.{Kind}
use Rattle.diagram_blocks.specs.declared.Kind.TheVariants.{UnitDelay, Delay, RateTransition}
use Rattle.diagram_blocks.specs.declared.Op.{Op}
use Rattle.diagram_blocks.specs.declared.Op.TheVariants.{Nothing}
use Rattle.diagram_blocks.specs.Meaning.{op_of, delay_length}
use Rattle.diagram_meaning.specs.Rows.{row_at, no_row, is_inside, around}
use Rattle.diagram_meaning.specs.WellFormed.{IsKind, IsRow}
use Rattle.diagram_meaning.specs.Types.{type_at}
use Rattle.diagram_meaning.specs.Diagram.{Diagram, op_at, op_in}
use Rattle.diagram_meaning.specs.ResolvedTree.{diagram_of}
use Rattle.diagram_meaning.specs.Run.{memory_at, moved_on, initial_memory, any_off, runs, input_values, has_memory, memories_by, IsRun}
use Rattle.diagram_blocks.specs.Kinds.{is_delay}
use Rattle.diagram_meaning.specs.Laws.{Run, IsRunOver}
use Rattle.diagram_meaning.specs.RunLaws.{MemoriesAreFull}
use Rattle.diagram_blocks.specs.Value.{input}
use Rattle.diagram_meaning.proofs.lemmas.ByRow.{by_row-at}
use Rattle.diagram_meaning.proofs.lemmas.Resolving.{all-at}
use Rattle.diagram_meaning.proofs.lemmas.Tests.{and-right}
use Rattle.diagram_meaning.proofs.lemmas.TickLaws.{runs_have_ticks, ticks_have_rows}
use Rattle.diagram_meaning.proofs.lemmas.Timeless.{length-copies}

-- ---- Lengths

moved-length : (memory : List ℤ) (v : ℤ) (n : ℕ) → length memory ≡ n → 0 < n → length (moved_on memory v) ≡ n
moved-length [] v n e above = absurd (omega (arith, e, above))
moved-length (w ∷ memory) v n e above = omega (arith, e, length-append memory (v ∷ []))

-- one of three lists, each of which is so long
one-of : (n : ℕ) (a b : Bool) (x y z : List ℤ) → length x ≡ n → length y ≡ n → length z ≡ n →
    length (if a then x else (if b then y else z)) ≡ n
one-of n true b x y z p q r = p
one-of n false true x y z p q r = q
one-of n false false x y z p q r = r

pub first-memories : (d : Diagram) (s : Option ℕ) (xs vs : List (List ℤ)) (ms : List (List (List ℤ))) (gs : List (List TrigMem)) →
    IsRun d s xs vs ms gs → slice_index_or ms 0 [] ≡ memories_by d s (initial_memory d)
first-memories d s xs vs [] gs r = absurd r
first-memories d s xs vs (m ∷ ms) [] r = absurd r
first-memories d s xs vs (m ∷ ms) (g ∷ gs) r = r.0

module _ (d : Diagram) (s : Option ℕ) (xs : List (List ℤ)) (run : Run) (is : IsRunOver d s xs run) (b : ℕ) (inside : b < length d.rows)
    (has : has_memory d s b ≡ true) (above : 0 < delay_length (op_at d b)) where
  abbrev n : ℕ
  n = delay_length (op_at d b)

  starts : length (initial_memory d b) ≡ n
  starts = length-copies n _

  pub full : (t : ℕ) → t ≤ length xs → length (memory_at (slice_index_or run.memories t []) b) ≡ n
  full zero le =
      let at : memory_at (slice_index_or run.memories 0 []) b ≡ initial_memory d b =
      ap (λ m. memory_at m b) (first-memories d s xs run.values run.memories run.triggers is)
      ∙ by_row-at d.rows (λ c. if has_memory d s c then initial_memory d c else []) b [] inside
      ∙ ap (λ (own : Bool). if own then initial_memory d b else []) has in
      ap length at ∙ starts
  full (suc t) le =
      let x = slice_index_or xs t [] in
      let m = slice_index_or run.memories t [] in
      let g = slice_index_or run.triggers t [] in
      let v = slice_index_or run.values t [] in
      let below : t < length xs = omega arith in
      let tick = runs_have_ticks d s xs run t is below in
      let so_far = full t (omega arith) in
      ap length ((ticks_have_rows d s t x _ m g v _ _ tick).memories b inside has)
      ∙ one-of n (any_off d s x v g (around d.rows s b)) (runs d s x v g t b) (initial_memory d b)
      (moved_on (memory_at m b) (input (input_values d s x v g b) 0)) (memory_at m b)
      starts (moved-length (memory_at m b) _ n so_far above) so_far

-- ---- Delays of a resolved model

delay-above : (kind : Kind) (ts : List FixType) (out : FixType) (delays : Bool) → IsKind kind →
    is_delay (op_of kind ts out delays) ≡ true → 0 < delay_length (op_of kind ts out delays)
delay-above (UnitDelay initial) ts out delays k h = omega arith
delay-above (Delay length initial) ts out delays k h = k.0
delay-above (RateTransition initial out_time) ts out true k h = omega arith
delay-above (RateTransition initial out_time) ts out false k h = absurd (true≢false (sym h))
delay-above _ ts out delays k h = absurd (true≢false (sym h))

pub memories_are_full : MemoriesAreFull
memories_are_full r s xs run t b resolved is le inside has =
    let d = diagram_of r in
    let row : IsRow (row_at d.rows b) = all-at IsRow d.rows b no_row resolved.tree.table.each inside in
    let ts = map (type_at r.types) (row_at d.rows b).inputs in
    let delays = slice_index_or r.times.delays b false in
    let op_is : op_at d b ≡ op_of (row_at d.rows b).kind ts (type_at r.types b) delays =
    ap (λ (ops : List Op). slice_index_or ops b Nothing) resolved.resolved.are_ops
    ∙ by_row-at d.rows (op_in d.rows r.types r.times.delays) b Nothing inside in
    let above : 0 < delay_length (op_at d b) =
    subst (λ op. 0 < delay_length op) (sym op_is)
    (delay-above (row_at d.rows b).kind ts (type_at r.types b) delays row.kind
    (ap is_delay (sym op_is) ∙ and-right (is_inside d.rows s b) (is_delay (op_at d b)) has)) in
    full d s xs run is b inside has above t le
