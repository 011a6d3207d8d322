-- Over every trace the sample of whole right code gives the outputs of its model's one run, within the bound on steps, with the
-- calls of each tick, and with its values in all fields; and so it does after each start.
use Rattle.std.specs.Prelude.{◌≡◌, refl, ℕ, zero, suc, ◌+◌, ◌%◌, ◌<◌, ◌≤◌, ◌==◌, true, not, ◌&&◌, if◌then◌else◌, List, [], ◌∷◌, map, length, slice_index_or, Contains, Option, Some, None, ℤ, pos}
use Rattle.std.specs.List.{AllByRecursion}
use Rattle.std.specs.Fmt.{digits}
use Rattle.std.proofs.Common.{sym, ap, subst, ◌∙◌, arith, lit<, lit≤, true≢false}
use Rattle.std.proofs.Math.Path.{fun_ext}
use Rattle.std.proofs.lemmas.List.Sorted.{IsPermutation-refl}
use Rattle.diagram_activity.specs.declared.TrigMem.{TrigMem}
use Rattle.diagram_activity.specs.declared.TrigMem.TheVariants.{NotYet}
use Rattle.diagram_blocks.specs.Meaning.{has_value}
use Rattle.diagram_blocks.specs.Value.{rhs, input}
use Rattle.diagram_meaning.specs.Rows.{row_at, around}
use Rattle.diagram_meaning.specs.SampleTimes.{hit}
use Rattle.diagram_meaning.specs.Diagram.{op_at, time_at}
use Rattle.diagram_meaning.specs.Needs.{needs_of, HasNoLoop, Walk}
use Rattle.diagram_meaning.specs.Run.{value_at, memory_at, first_of, moved_on, start_of, initial_memory, active_in, any_off, is_disabled, input_values, row_value, row_memory, values_by, memories_by, triggers_by, IsTick, RunFrom, outs}
use Rattle.diagram_blocks.specs.Kinds.{is_reset_outport}
use Rattle.diagram_meaning.specs.Laws.{Run, IsRunOver, LoopFreeHasOneRun}
use Rattle.diagram_meaning.specs.Traces.{IsTrace, IsTraceRow}
use Rattle.c_semantics.specs.Cells.{Cells, number, object, no_cells, more_cells, number_at, cells_at}
use Rattle.c_syntax.specs.RootFields.{output_fields, root_fields}
use Rattle.c_semantics.specs.Machine.{StoredField, Outcome, done}
use Rattle.c_semantics.specs.Rows.{TickRow, Rows, with_tick, c_rows, rows_from, rows_after, rows_of_start, start_run, step_run}
use Rattle.modules_profile.specs.Systems.{systems_inside}
use Rattle.right_relation.specs.Instances.{OnDone}
use Rattle.right_relation.specs.Budgets.{step_bound}
use Rattle.right_claim.specs.Paths.{path_to, path_inside}
use Rattle.right_claim.specs.Calls.{CallsInTick}
use Rattle.right_claim.specs.Held.{HoldsTick, HoldsRun}
use Rattle.right_claim.specs.Driving.{IsRightTick, TicksFrom, TakesTraces}
use Rattle.right_claim.specs.Right.{GivesOutputs, StaysInBound, RunsRight}
use Rattle.right_claim.specs.WholeSamples.{later_five, whole_program, first_values, later_values, remembered, child_values, no_triggers, values_over, run_over}

-- ---- Each row runs at every tick

pub modulo-one : (t : ℕ) → t % 1 ≡ 0
modulo-one t = omega arith

pub hits : (t b : ℕ) → hit (time_at later_five b) t ≡ true
hits t zero = ap (λ n. n == 0) (modulo-one t)
hits t (suc zero) = ap (λ n. n == 0) (modulo-one t)
hits t (suc (suc zero)) = ap (λ n. n == 0) (modulo-one t)
hits t (suc (suc (suc zero))) = ap (λ n. n == 0) (modulo-one t)
hits t (suc (suc (suc (suc zero)))) = ap (λ n. n == 0) (modulo-one t)
hits t (suc (suc (suc (suc (suc b))))) = ap (λ n. n == 0) (modulo-one t)

-- so its equations are those of tick 0
module _ (s : Option ℕ) (t : ℕ) (before : List ℤ) (m : List (List ℤ)) (g : List TrigMem) (v : List ℤ) where
  same-hit : (b : ℕ) → hit (time_at later_five b) 0 ≡ hit (time_at later_five b) t
  same-hit b = hits 0 b ∙ sym (hits t b)

  value-then : (b : ℕ) → row_value later_five s 0 [] before m g v b ≡ row_value later_five s t [] before m g v b
  value-then b =
      ap (λ h. if not (has_value (row_at later_five.rows b).kind) then pos 0
      else (if is_reset_outport (row_at later_five.rows b).kind
      && is_disabled later_five s [] v g (around later_five.rows s b) then start_of later_five b
      else (if active_in later_five s [] v g (around later_five.rows s b) && h
      then rhs (op_at later_five b) (input_values later_five s [] v g b) (first_of (memory_at m b))
      else value_at before b))) (same-hit b)

  memory-then : (b : ℕ) → row_memory later_five s 0 [] m g v b ≡ row_memory later_five s t [] m g v b
  memory-then b =
      ap (λ h. if any_off later_five s [] v g (around later_five.rows s b) then initial_memory later_five b
      else (if active_in later_five s [] v g (around later_five.rows s b) && h
      then moved_on (memory_at m b) (input (input_values later_five s [] v g b) 0)
      else memory_at m b)) (same-hit b)

  pub tick-then : (m' : List (List ℤ)) (g' : List TrigMem) → IsTick later_five s 0 [] before m g v m' g' →
      IsTick later_five s t [] before m g v m' g'
  tick-then m' g' h = record {
    values = h.values ∙ ap (values_by later_five s) (fun_ext value-then);
    memories = h.memories ∙ ap (memories_by later_five s) (fun_ext memory-then);
    triggers = h.triggers;
  }

-- ---- The runs of the root and of the child

-- the three ticks that a run of the system s comes to, where these are its later values, and how it begins
pub record RunsLike (s : Option ℕ) (later : List ℤ) : Type 0 where
  pub no_inputs : (x : List ℤ) → IsTraceRow later_five s x → x ≡ []
  pub memories : remembered (pos 0) ≡ memories_by later_five s (initial_memory later_five)
  pub triggers : no_triggers ≡ triggers_by later_five s (λ e. NotYet)
  pub first : IsTick later_five s 0 [] (values_by later_five s (start_of later_five))
      (remembered (pos 0)) no_triggers first_values (remembered (pos 5)) no_triggers
  pub second : IsTick later_five s 0 [] first_values (remembered (pos 5)) no_triggers later (remembered (pos 5)) no_triggers
  pub third : IsTick later_five s 0 [] later (remembered (pos 5)) no_triggers later (remembered (pos 5)) no_triggers

module _ (s : Option ℕ) (later : List ℤ) (like : RunsLike s later) where
  tick-from : (t : ℕ) (x before : List ℤ) → IsTraceRow later_five s x →
      IsTick later_five s 0 [] before (remembered (pos 5)) no_triggers later (remembered (pos 5)) no_triggers →
      IsTick later_five s t x before (remembered (pos 5)) no_triggers later (remembered (pos 5)) no_triggers
  tick-from t x before is h =
      subst (λ x. IsTick later_five s t x before (remembered (pos 5)) no_triggers later
      (remembered (pos 5)) no_triggers) (sym (like.no_inputs x is))
      (tick-then s t before (remembered (pos 5)) no_triggers later (remembered (pos 5)) no_triggers h)

  run-on : (t : ℕ) (before : List ℤ) (xs : List (List ℤ)) →
      IsTick later_five s 0 [] before (remembered (pos 5)) no_triggers later (remembered (pos 5)) no_triggers → IsTrace later_five s xs →
      RunFrom later_five s t before (remembered (pos 5)) no_triggers xs (map (λ y. later) xs)
      (map (λ y. remembered (pos 5)) xs) (map (λ y. no_triggers) xs)
  run-on t before [] tick is = tt
  run-on t before (x ∷ xs) tick is = (tick-from t x before is.0 tick, run-on (suc t) later xs like.third is.1)

  pub is-run_of : (xs : List (List ℤ)) → IsTrace later_five s xs → IsRunOver later_five s xs (run_over later xs)
  is-run_of [] is = (like.memories, like.triggers, tt)
  is-run_of (x ∷ xs) is = (
    like.memories,
    like.triggers,
    (
      subst (λ x. IsTick later_five s 0 x (values_by later_five s (start_of later_five))
          (remembered (pos 0)) no_triggers first_values (remembered (pos 5)) no_triggers)
          (sym (like.no_inputs x is.0)) like.first,
      run-on 1 first_values xs like.second is.1,
    ),
  )

-- a row of a trace without inputs is empty
empty-row : (x : List ℤ) → IsTraceRow later_five None x → x ≡ []
empty-row [] is = refl
empty-row (v ∷ x) is = absurd is

no-inputs : (P : List ℤ → Type 0) (x : List ℤ) → IsTraceRow later_five None x → P [] → P x
no-inputs P x is h = subst P (sym (empty-row x is)) h

empty-child-row : (x : List ℤ) → IsTraceRow later_five (Some 0) x → x ≡ []
empty-child-row [] is = refl
empty-child-row (v ∷ x) is = absurd is

pub root-runs : RunsLike None later_values
root-runs = record {
  no_inputs = empty-row;
  memories = refl;
  triggers = refl;
  first = record { values = refl; memories = refl; triggers = refl };
  second = record { values = refl; memories = refl; triggers = refl };
  third = record { values = refl; memories = refl; triggers = refl };
}

pub child-runs : RunsLike (Some 0) child_values
child-runs = record {
  no_inputs = empty-child-row;
  memories = refl;
  triggers = refl;
  first = record { values = refl; memories = refl; triggers = refl };
  second = record { values = refl; memories = refl; triggers = refl };
  third = record { values = refl; memories = refl; triggers = refl };
}

-- ---- No loop

-- what a row needs comes before it
one-before : (a b c : ℕ) → b < a → Contains (b ∷ []) c → c < a
one-before a b c before (zero, below, is) = subst (λ x. x < a) is before
one-before a b c before (suc k, below, is) = absurd (omega arith)

needed : (a c : ℕ) → Contains (needs_of later_five a) c → c < a
needed (suc (suc (suc zero))) c h = one-before 3 1 c (lit< tt) h
needed (suc (suc (suc (suc zero)))) c h = one-before 4 3 c (lit< tt) h
needed zero c h = absurd (let below = h.1 in omega arith)
needed (suc zero) c h = absurd (let below = h.1 in omega arith)
needed (suc (suc zero)) c h = absurd (let below = h.1 in omega arith)
needed (suc (suc (suc (suc (suc a))))) c h = absurd (let below = h.1 in omega arith)

walk-down : (a : ℕ) (path : List ℕ) (z : ℕ) → Walk (needs_of later_five) a path z → z < a
walk-down a [] z w = needed a z w
walk-down a (b ∷ path) z w = let first = needed a b w.0 in let rest = walk-down b path z w.1 in omega arith

pub no-loop : HasNoLoop (needs_of later_five)
no-loop [] h = absurd h
no-loop (a ∷ path) h = let down = walk-down a path a h in omega arith

-- ---- The program's rows

-- fields of `root`: the output, Out1, the child's delay, Constant, y1 and memory; the tick and counters are 0
abbrev pub fields_of : (output out1 delayed constant y1 memory : ℤ) → Cells
fields_of output out1 delayed constant y1 memory =
    let child =
    more_cells (number delayed)
    (more_cells (number constant)
    (more_cells (number y1) (more_cells (number memory) (more_cells (number (pos 0)) no_cells)))) in
    let top = more_cells (number out1) (more_cells (object child) (more_cells (number (pos 0)) no_cells)) in
    more_cells (number (pos 0)) (more_cells (number output) (more_cells (object top) no_cells))

-- after the start, the first tick, and each later one
abbrev pub started : Cells
started = fields_of (pos 0) (pos 0) (pos 0) (pos 0) (pos 0) (pos 0)

abbrev pub second : Cells
second = fields_of (pos 0) (pos 0) (pos 0) (pos 5) (pos 0) (pos 5)

abbrev pub third : Cells
third = fields_of (pos 5) (pos 5) (pos 5) (pos 5) (pos 5) (pos 5)

abbrev pub at_top : ℕ → StoredField
at_top f = record { path = 2 ∷ []; field = f }

abbrev pub in_child : ℕ → StoredField
in_child f = record { path = 2 ∷ 1 ∷ []; field = f }

abbrev at_root : ℕ → StoredField
at_root f = record { path = []; field = f }

-- a tick: the functions of `top` and of the child, and their updates
abbrev tick_of : ℤ → TickRow
tick_of output = record {
  outputs = output ∷ [];
  steps = 19;
  log = record { path = 2 ∷ []; procedure = 6 } ∷ record { path = 2 ∷ 1 ∷ []; procedure = 1 }
      ∷ record { path = 2 ∷ []; procedure = 7 } ∷ record { path = 2 ∷ 1 ∷ []; procedure = 2 } ∷ [];
  stores = at_top 2 ∷ in_child 4 ∷ in_child 0 ∷ in_child 2 ∷ at_top 0 ∷ in_child 1 ∷ in_child 3 ∷ in_child 4 ∷ at_top 2
      ∷ at_root 1 ∷ at_root 0 ∷ [];
}

abbrev first_row : TickRow
first_row = tick_of (pos 0)

abbrev later_row : TickRow
later_row = tick_of (pos 5)

abbrev rows_over : List (List ℤ) → List TickRow
rows_over [] = []
rows_over (x ∷ xs) = first_row ∷ map (λ y. later_row) xs

-- a step from these fields leaves those, and gives a row
abbrev Steps : (before after : Cells) → TickRow → Type 0
Steps before after row = step_run whole_program [] before
    ≡ done (record { cells = after; steps = row.steps; log = row.log; stores = row.stores })

pub starts : start_run whole_program
    ≡ done (record {
      cells = started;
      steps = 11;
      log = [];
      stores = at_top 0 ∷ at_top 2 ∷ in_child 0 ∷ in_child 1
          ∷ in_child 2 ∷ in_child 3 ∷ in_child 4 ∷ at_root 1 ∷ at_root 0 ∷ [];
    })
unfolding digits
starts = refl

first-step : Steps started second first_row
unfolding digits
first-step = refl

second-step : Steps second third later_row
unfolding digits
second-step = refl

third-step : Steps third third later_row
unfolding digits
third-step = refl

places : output_fields (root_fields whole_program) ≡ 1 ∷ []
unfolding digits
places = refl

-- the rows from there on
then-rows : (before after : Cells) (output : ℤ) (xs : List (List ℤ)) → Steps before after (tick_of output) → number_at after 1 ≡ output →
    rows_from whole_program ([] ∷ xs) before ≡ with_tick (tick_of output) (rows_from whole_program xs after)
then-rows before after output xs step is =
    ap (λ (o : Outcome). rows_after whole_program o (rows_from whole_program xs)) step
    ∙ ap (λ (fields : List ℕ). with_tick
    (record {
      outputs = map (number_at after) fields;
      steps = (tick_of output).steps;
      log = (tick_of output).log;
      stores = (tick_of output).stores;
    }) (rows_from whole_program xs after)) places
    ∙ ap (λ (v : ℤ). with_tick (tick_of v) (rows_from whole_program xs after)) is

from-third : (xs : List (List ℤ)) → IsTrace later_five None xs →
    rows_from whole_program xs third ≡ record { ticks = map (λ y. later_row) xs; cells = third; stuck_place = None }
from-third [] is = refl
from-third (x ∷ xs) is =
    no-inputs (λ x. rows_from whole_program (x ∷ xs) third
    ≡ record { ticks = later_row ∷ map (λ y. later_row) xs; cells = third; stuck_place = None }) x is.0
    (then-rows third third (pos 5) xs third-step refl ∙ ap (with_tick later_row) (from-third xs is.1))

abbrev Gives : Rows → List TickRow → Type 0
Gives rows ticks = (rows.ticks ≡ ticks) × (rows.stuck_place ≡ None)

from-second-on : (xs : List (List ℤ)) → IsTrace later_five None xs → Gives (rows_from whole_program xs second) (map (λ y. later_row) xs)
from-second-on [] is = (refl, refl)
from-second-on (x ∷ xs) is =
    no-inputs (λ x. Gives (rows_from whole_program (x ∷ xs) second) (later_row ∷ map (λ y. later_row) xs)) x is.0
    (let rest = then-rows second third (pos 5) xs second-step refl ∙ ap (with_tick later_row) (from-third xs is.1) in
    (ap (λ (rows : Rows). rows.ticks) rest, ap (λ (rows : Rows). rows.stuck_place) rest))

from-first-on : (xs : List (List ℤ)) → IsTrace later_five None xs → Gives (rows_from whole_program xs started) (rows_over xs)
from-first-on [] is = (refl, refl)
from-first-on (x ∷ xs) is =
    no-inputs (λ x. Gives (rows_from whole_program (x ∷ xs) started) (first_row ∷ map (λ y. later_row) xs)) x is.0
    (let step = then-rows started second (pos 0) xs first-step refl in
    let rest = from-second-on xs is.1 in (
      ap (λ (rows : Rows). rows.ticks) step ∙ ap (λ (ticks : List TickRow). first_row ∷ ticks) rest.0,
      ap (λ (rows : Rows). rows.stuck_place) step ∙ rest.1,
    ))

rows-are : (xs : List (List ℤ)) → IsTrace later_five None xs → Gives (c_rows whole_program xs) (rows_over xs)
rows-are xs is =
    let begins = ap (λ (o : Outcome). rows_of_start whole_program o xs) starts in
    let rest = from-first-on xs is in
    (ap (λ (rows : Rows). rows.ticks) begins ∙ rest.0, ap (λ (rows : Rows). rows.stuck_place) begins ∙ rest.1)

-- ---- The parts

outputs-later : (xs : List (List ℤ)) →
    map (λ (row : TickRow). row.outputs) (map (λ (y : List ℤ). later_row) xs)
    ≡ map (outs later_five None) (map (λ (y : List ℤ). later_values) xs)
unfolding digits
outputs-later [] = refl
outputs-later (x ∷ xs) = ap (λ rest. (pos 5 ∷ []) ∷ rest) (outputs-later xs)

outputs-over : (xs : List (List ℤ)) → map (λ row. row.outputs) (rows_over xs) ≡ map (outs later_five None) (values_over later_values xs)
unfolding digits
outputs-over [] = refl
outputs-over (x ∷ xs) = ap (λ rest. (pos 0 ∷ []) ∷ rest) (outputs-later xs)

steps-later : (xs : List (List ℤ)) → AllByRecursion (λ row. row.steps ≤ step_bound later_five.rows) (map (λ (y : List ℤ). later_row) xs)
unfolding digits
steps-later [] = tt
steps-later (x ∷ xs) = (lit≤ tt, steps-later xs)

steps-over : (xs : List (List ℤ)) → AllByRecursion (λ row. row.steps ≤ step_bound later_five.rows) (rows_over xs)
unfolding digits
steps-over [] = tt
steps-over (x ∷ xs) = (lit≤ tt, steps-later xs)

-- ---- Each tick, from whatever output a start leaves

-- the bound on steps
within : 19 ≤ step_bound later_five.rows
unfolding digits
within = lit≤ tt

-- the system s and those inside hold these values, a memory of 5 and no function called
pub record HoldsAll (s : Option ℕ) (v : List ℤ) (cells : Cells) : Type 0 where
  pub here : HoldsTick whole_program later_five v (remembered (pos 5)) no_triggers s cells
  pub inside : AllByRecursion
      (λ e. HoldsTick whole_program later_five v (remembered (pos 5)) no_triggers (Some e)
      (cells_at (path_inside whole_program later_five.rows s e) cells)) (systems_inside later_five.rows s)

pub all-one : {A : Type 0} (v d : A) (xs : List (List ℤ)) (t : ℕ) → t < length xs → slice_index_or (map (λ y. v) xs) t d ≡ v
all-one v d [] t below = absurd (omega arith)
all-one v d (x ∷ xs) zero below = refl
all-one v d (x ∷ xs) (suc t) below = all-one v d xs t (omega arith)

pub value-first : (later : List ℤ) (xs : List (List ℤ)) → 0 < length xs → slice_index_or (values_over later xs) 0 [] ≡ first_values
value-first later [] above = absurd (omega arith)
value-first later (x ∷ xs) above = refl

pub value-later : (later : List ℤ) (xs : List (List ℤ)) (t : ℕ) → 0 < t → t < length xs →
    slice_index_or (values_over later xs) t [] ≡ later
value-later later [] t above below = absurd (omega arith)
value-later later (x ∷ xs) zero above below = absurd (omega arith)
value-later later (x ∷ xs) (suc t) above below = all-one later [] xs t (omega arith)

with-three : (P : List ℤ → List (List ℤ) → List TrigMem → Type 0) (v w : List ℤ) (m n : List (List ℤ)) (g k : List TrigMem) →
    v ≡ w → m ≡ n → g ≡ k → P w n k → P v m g
with-three P v w m n g k values memories triggers h =
    subst (λ v. P v m g) (sym values) (subst (λ m. P w m g) (sym memories) (subst (λ g. P w n g) (sym triggers) h))

-- so after tick t of a run with these values in it
pub holds-run : (s : Option ℕ) (later v : List ℤ) (xs : List (List ℤ)) (t : ℕ) (cells : Cells) → t < length xs →
    slice_index_or (values_over later xs) t [] ≡ v → HoldsAll s v cells → HoldsRun whole_program later_five s (run_over later xs) t cells
holds-run s later v xs t cells below same h =
    let memories = all-one (remembered (pos 5)) [] xs t below in
    let triggers = all-one no_triggers [] xs t below in record {
      here = with-three (λ v m g. HoldsTick whole_program later_five v m g s cells) _ _ _ _ _ _ same memories triggers h.here;
      inside = with-three
          (λ v m g. AllByRecursion
          (λ e. HoldsTick whole_program later_five v m g (Some e) (cells_at (path_inside whole_program later_five.rows s e) cells))
          (systems_inside later_five.rows s)) _ _ _ _ _ _ same memories triggers h.inside;
    }

whole-calls : (x v : List ℤ) (g : List TrigMem) → CallsInTick whole_program later_five x v g first_row.log first_row.stores
unfolding digits
whole-calls x v g = record {
  inside = record {
    each = (record { outs = 1 ∷ []; each_once = IsPermutation-refl (1 ∷ []); then_update = refl }, tt);
    stored_once = (lit≤ tt, tt);
    inner_stored_once = ((lit≤ tt, (lit≤ tt, (lit≤ tt, tt))), tt);
    no_other = ((0, lit< tt, refl), ((1, lit< tt, refl), ((0, lit< tt, refl), ((1, lit< tt, refl), tt))));
  };
  top = record { outs = 6 ∷ []; each_once = IsPermutation-refl (6 ∷ []); then_update = refl };
}

-- a step from these fields leaves those, with this output and these values
record StepsRight (before after : Cells) (output : ℤ) (v : List ℤ) : Type 0 where
  step : Steps before after (tick_of output)
  place : number_at after 1 ≡ output
  given : outs later_five None v ≡ output ∷ []
  holds : HoldsAll None v (cells_at (path_to whole_program later_five.rows None) after)

-- the fields as a start leaves them
abbrev pub begun : (output : ℤ) → Cells
begun output = fields_of output (pos 0) (pos 0) (pos 0) (pos 0) (pos 0)

first-right : (output : ℤ) → StepsRight (begun output) second (pos 0) first_values
unfolding digits
first-right output = record {
  step = refl;
  place = refl;
  given = refl;
  holds = record {
    here = record {
      values = (refl, tt);
      memories = tt;
      rings = tt;
      trigger = λ h. absurd (true≢false (sym h));
      counters = (refl, tt);
    };
    inside = (
      record {
        values = (refl, (refl, (refl, tt)));
        memories = (refl, tt);
        rings = tt;
        trigger = λ h. absurd (true≢false (sym h));
        counters = (refl, tt);
      },
      tt,
    );
  };
}

third-holds : HoldsAll None later_values (cells_at (path_to whole_program later_five.rows None) third)
unfolding digits
third-holds = record {
  here = record {
    values = (refl, tt);
    memories = tt;
    rings = tt;
    trigger = λ h. absurd (true≢false (sym h));
    counters = (refl, tt);
  };
  inside = (
    record {
      values = (refl, (refl, (refl, tt)));
      memories = (refl, tt);
      rings = tt;
      trigger = λ h. absurd (true≢false (sym h));
      counters = (refl, tt);
    },
    tt,
  );
}

second-right : StepsRight second third (pos 5) later_values
unfolding digits
second-right = record { step = refl; place = refl; given = refl; holds = third-holds }

third-right : StepsRight third third (pos 5) later_values
unfolding digits
third-right = record { step = refl; place = refl; given = refl; holds = third-holds }

module _ (xs : List (List ℤ)) where
  abbrev Ticks : ℕ → List (List ℤ) → Cells → Type 0
  Ticks t rest cells = TicksFrom whole_program later_five (run_over later_values xs) t rest cells

  tick-on : (t : ℕ) (x : List ℤ) (rest : List (List ℤ)) (before after : Cells) (output : ℤ) (v : List ℤ) →
      StepsRight before after output v → t < length xs → slice_index_or (values_over later_values xs) t [] ≡ v →
      IsTraceRow later_five None x → Ticks (suc t) rest after → Ticks t (x ∷ rest) before
  tick-on t x rest before after output v h below same is ticks =
      no-inputs (λ x. Ticks t (x ∷ rest) before) x is
      (subst (λ (o : Outcome). OnDone o (λ a. IsRightTick whole_program later_five (run_over later_values xs) t [] a
      × Ticks (suc t) rest a.cells)) (sym h.step) (right, ticks))
    where
      right : IsRightTick whole_program later_five (run_over later_values xs) t []
          (record { cells = after; steps = (tick_of output).steps; log = (tick_of output).log; stores = (tick_of output).stores })
      right = record {
        outputs = ap (map (number_at after)) places ∙ ap (λ n. n ∷ []) h.place ∙ sym h.given ∙ ap (outs later_five None) (sym same);
        in_bound = within;
        calls = whole-calls [] _ _;
        holds = holds-run None later_values v xs t _ below same h.holds;
      }

  ticks-on : (rest : List (List ℤ)) (t : ℕ) (before : Cells) → StepsRight before third (pos 5) later_values → 0 < t →
      t + length rest ≡ length xs → IsTrace later_five None rest → Ticks t rest before
  ticks-on [] t before h above long is = tt
  ticks-on (x ∷ rest) t before h above long is =
      tick-on t x rest before third (pos 5) later_values h (omega (arith, long)) (value-later later_values xs t above (omega (arith, long)))
      is.0 (ticks-on rest (suc t) third third-right (omega arith) (omega (arith, long)) is.1)

ticks-over : (output : ℤ) (xs : List (List ℤ)) → IsTrace later_five None xs → Ticks xs 0 xs (begun output)
ticks-over output [] is = tt
ticks-over output (x ∷ xs) is =
    tick-on (x ∷ xs) 0 x xs (begun output) second (pos 0) first_values (first-right output) (omega arith) refl is.0
    (ticks-on (x ∷ xs) xs 1 second second-right (lit< tt) (omega arith) is.1)

module _ (law : LoopFreeHasOneRun) where
  -- any run is the one
  pub run-is : (s : Option ℕ) (later : List ℤ) → RunsLike s later → (xs : List (List ℤ)) (run : Run) → IsTrace later_five s xs →
      IsRunOver later_five s xs run → run ≡ run_over later xs
  run-is s later like xs run is has = let one = law later_five s xs no-loop in
      one.only run has ∙ sym (one.only (run_over later xs) (is-run_of s later like xs is))

  -- from fields as a start leaves them each trace is answered
  pub whole-takes : (output : ℤ) → TakesTraces whole_program later_five (begun output)
  whole-takes output xs run is has =
      subst (λ (run : Run). TicksFrom whole_program later_five run 0 xs (begun output))
      (sym (run-is None later_values root-runs xs run is has)) (ticks-over output xs is)

  pub whole-runs : RunsRight whole_program later_five
  whole-runs = record { outputs = outputs; bounded = bounded; ticks = ticks }
    where
      outputs : (xs : List (List ℤ)) → IsTrace later_five None xs → GivesOutputs whole_program later_five xs
      outputs xs is = let one = law later_five None xs no-loop in record {
        one_run = one;
        outputs = ap (λ (ticks : List TickRow). map (λ row. row.outputs) ticks) (rows-are xs is).0 ∙ outputs-over xs
            ∙ ap (λ (run : Run). map (outs later_five None) run.values)
            (one.only (run_over later_values xs) (is-run_of None later_values root-runs xs is));
      }

      bounded : (xs : List (List ℤ)) → IsTrace later_five None xs → StaysInBound whole_program later_five xs
      bounded xs is = record {
        not_stuck = (rows-are xs is).1;
        steps = subst (λ ticks. AllByRecursion (λ row. row.steps ≤ step_bound later_five.rows) ticks)
            (sym (rows-are xs is).0) (steps-over xs);
      }

      ticks : OnDone (start_run whole_program) (λ started. TakesTraces whole_program later_five started.cells)
      ticks = subst (λ (o : Outcome). OnDone o (λ a. TakesTraces whole_program later_five a.cells)) (sym starts) (whole-takes (pos 0))
