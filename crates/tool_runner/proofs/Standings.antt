-- Runs, one after another.
use Rattle.std.proofs.Common.{◌≡◌, refl, sym, ◌∙◌, ap, List, [], ◌∷◌, ◌++◌, arith}
use Rattle.std.specs.Prelude.{ℤ, None, Some}
use Rattle.std.proofs.lemmas.Grind.{flat_map-append}
use Rattle.std.proofs.lemmas.List.{append-nil, length-append}
use Rattle.std.proofs.lemmas.List.Sums.{sum_by-append}
use Rattle.c_syntax.specs.declared.fault.Cost.{Cost}
use Rattle.c_syntax.specs.declared.fault.Stuck.{Stuck}
use Rattle.c_syntax.specs.Plain.{program_tree}
use Rattle.c_syntax.specs.Tree.{ProgramTree}
use Rattle.c_semantics.specs.Cells.{Cells}
use Rattle.c_semantics.specs.Machine.{After, Outcome, done, stuck}
use Rattle.c_semantics.specs.Rows.{TickRow, Rows, rows_from, rows_after, with_tick, tick_row, step_run, interface_calls}
use Rattle.c_checked.specs.Checked.{CheckedProgram}
use Rattle.c_interpreter.specs.States.{tree_of, fields_of}
use Rattle.c_interpreter.specs.Machines.{IsStuckTick}
use Rattle.tool_runner.specs.declared.outcome.Totals.{Totals}
use Rattle.tool_runner.specs.Texts.{outputs_line, ticks_text}
use Rattle.tool_runner.specs.Ticks.{Standing, counted, Ticked}
use Rattle.tool_runner.specs.Runs.{totals_of, added, ticks_over, HasTicked}

-- ---- Rows

-- rows after these ticks
abbrev pub behind_ticks : List TickRow → Rows → Rows
behind_ticks ticks rows = record { ticks = ticks ++ rows.ticks; cells = rows.cells; stuck_place = rows.stuck_place }

rows_from-append : (p : ProgramTree) (xs ys : List (List ℤ)) (cells : Cells) → (rows_from p xs cells).stuck_place ≡ None →
    rows_from p (xs ++ ys) cells ≡ behind_ticks (rows_from p xs cells).ticks (rows_from p ys (rows_from p xs cells).cells)
rows_from-append p [] ys cells unstuck = refl
rows_from-append p (x ∷ xs) ys cells unstuck =
    by_step (step_run p x cells) (rows_from-append p xs ys) unstuck
  where
    by_step : (o : Outcome) →
        ((c : Cells) → (rows_from p xs c).stuck_place ≡ None →
        rows_from p (xs ++ ys) c
        ≡ behind_ticks (rows_from p xs c).ticks (rows_from p ys (rows_from p xs c).cells)) →
        (rows_after p o (rows_from p xs)).stuck_place ≡ None →
        rows_after p o (rows_from p (xs ++ ys))
        ≡ behind_ticks (rows_after p o (rows_from p xs)).ticks
        (rows_from p ys (rows_after p o (rows_from p xs)).cells)
    by_step (done a) more unstuck = ap (with_tick (tick_row p a)) (more a.cells unstuck)
    by_step (stuck at c) more unstuck = cc

one_row : (p : ProgramTree) (row : List ℤ) (cells : Cells) (a : After) → step_run p row cells ≡ done a →
    rows_from p (row ∷ []) cells ≡ record { ticks = tick_row p a ∷ []; cells = a.cells; stuck_place = None }
one_row p row cells a is = ap (λ o. rows_after p o (rows_from p [])) is

one_stuck : (p : ProgramTree) (row : List ℤ) (more : List (List ℤ)) (cells left : Cells) (at : Stuck) →
    step_run p row cells ≡ stuck at left →
    rows_from p (row ∷ more) cells ≡ record { ticks = []; cells = left; stuck_place = Some at }
one_stuck p row more cells left at is = ap (λ o. rows_after p o (rows_from p more)) is

-- the ticks of some rows, and of more after them
pub ticks_behind : (s s' : Standing) (rows more : List (List ℤ)) → (ticks_over s rows).stuck_place ≡ None →
    HasTicked (ticks_over s rows) s s' →
    ticks_over s (rows ++ more) ≡ behind_ticks (ticks_over s rows).ticks (ticks_over s' more)
ticks_behind s s' rows more unstuck ticked =
    let tree : tree_of s'.machine ≡ tree_of s.machine = ap (λ (p : CheckedProgram). program_tree p.program) ticked.program in
    rows_from-append (tree_of s.machine) rows more (fields_of s.machine) unstuck
    ∙ ap (λ c. behind_ticks (ticks_over s rows).ticks (rows_from (tree_of s.machine) more c)) (sym ticked.fields)
    ∙ ap (λ p. behind_ticks (ticks_over s rows).ticks (rows_from p more (fields_of s'.machine))) (sym tree)

-- ---- Totals and texts

same_totals : (t u : Totals) → t.ticks ≡ u.ticks → t.steps ≡ u.steps → t.calls ≡ u.calls → t ≡ u
same_totals t u ticks steps calls = λ i. record { ticks = ticks i; steps = steps i; calls = calls i }

pub added-none : (t : Totals) → t ≡ added t (totals_of [])
added-none t = same_totals t (added t (totals_of [])) (omega arith) (omega arith) (omega arith)

added-one : (t : Totals) (tick : TickRow) (cost : Cost) → cost.steps ≡ tick.steps → cost.calls ≡ interface_calls tick →
    counted t cost ≡ added t (totals_of (tick ∷ []))
added-one t tick cost steps calls =
    same_totals (counted t cost) (added t (totals_of (tick ∷ []))) refl (omega (arith, steps)) (omega (arith, calls))

added-twice : (t : Totals) (ticks more : List TickRow) →
    added (added t (totals_of ticks)) (totals_of more) ≡ added t (totals_of (ticks ++ more))
added-twice t ticks more =
    same_totals (added (added t (totals_of ticks)) (totals_of more)) (added t (totals_of (ticks ++ more)))
    (omega (arith, length-append ticks more)) (omega (arith, sum_by-append (λ (x : TickRow). x.steps) ticks more))
    (omega (arith, sum_by-append interface_calls ticks more))

text-append : (ticks more : List TickRow) → ticks_text (ticks ++ more) ≡ ticks_text ticks ++ ticks_text more
text-append ticks more = flat_map-append (λ (t : TickRow). outputs_line t.outputs) ticks more

text-one : (tick : TickRow) → ticks_text (tick ∷ []) ≡ outputs_line tick.outputs
text-one tick = append-nil (outputs_line tick.outputs)

-- ---- Runs

-- no row
pub none_ticked : (s : Standing) → HasTicked (ticks_over s []) s s
none_ticked s = record { program = refl; fields = refl; totals = added-none s.totals }

-- some rows have ticked, and then others
pub both_ticked : (s s' s'' : Standing) (rows more : List (List ℤ)) → (ticks_over s rows).stuck_place ≡ None →
    HasTicked (ticks_over s rows) s s' →
    HasTicked (ticks_over s' more) s' s'' → HasTicked (ticks_over s (rows ++ more)) s s''
both_ticked s s' s'' rows more unstuck first second =
    let whole = ticks_behind s s' rows more unstuck first in
    record {
      program = second.program ∙ first.program;
      fields = second.fields ∙ sym (ap (λ (r : Rows). r.cells) whole);
      totals =
          second.totals ∙ ap (λ t. added t (totals_of (ticks_over s' more).ticks)) first.totals
          ∙ added-twice s.totals (ticks_over s rows).ticks (ticks_over s' more).ticks
          ∙ ap (λ (r : Rows). added s.totals (totals_of r.ticks)) (sym whole);
    }

-- the text of some rows, and then that of others
pub whole_text : (s s' : Standing) (rows more : List (List ℤ)) → (ticks_over s rows).stuck_place ≡ None → HasTicked (ticks_over s rows) s s' →
    ticks_text (ticks_over s rows).ticks ++ ticks_text (ticks_over s' more).ticks ≡ ticks_text (ticks_over s (rows ++ more)).ticks
whole_text s s' rows more unstuck first =
    sym (text-append (ticks_over s rows).ticks (ticks_over s' more).ticks)
    ∙ ap (λ (r : Rows). ticks_text r.ticks) (sym (ticks_behind s s' rows more unstuck first))

-- ---- One row

-- a row that has ticked
pub record OneRow (row outputs : List ℤ) (s s' : Standing) : Type 0 where
  pub unstuck : (ticks_over s (row ∷ [])).stuck_place ≡ None
  pub ticked : HasTicked (ticks_over s (row ∷ [])) s s'
  pub text : outputs_line outputs ≡ ticks_text (ticks_over s (row ∷ [])).ticks

pub one_ticked : (row outputs : List ℤ) (s s' : Standing) → Ticked row outputs s.machine s'.machine s.totals s'.totals →
    OneRow row outputs s s'
one_ticked row outputs s s' next =
    let p = tree_of s.machine in
    let whole = one_row p row (fields_of s.machine) next.tick.left next.tick.run in
    record {
      unstuck = ap (λ (r : Rows). r.stuck_place) whole;
      ticked = record {
        program = next.program;
        fields = next.tick.cells ∙ sym (ap (λ (r : Rows). r.cells) whole);
        totals =
            next.totals
            ∙ added-one s.totals (tick_row p next.tick.left) next.cost (ap (λ (c : Cost). c.steps) next.tick.cost_is)
            (ap (λ (c : Cost). c.calls) next.tick.cost_is)
            ∙ ap (λ (r : Rows). added s.totals (totals_of r.ticks)) (sym whole);
      };
      text =
          ap outputs_line next.tick.outputs_are ∙ sym (text-one (tick_row p next.tick.left))
          ∙ ap (λ (r : Rows). ticks_text r.ticks) (sym whole);
    }

-- rows of which the first is stuck
pub first_stuck : (row : List ℤ) (more : List (List ℤ)) (at : Stuck) (s s' : Standing) → IsStuckTick s.machine s'.machine row at →
    ticks_over s (row ∷ more) ≡ record { ticks = []; cells = fields_of s'.machine; stuck_place = Some at }
first_stuck row more at s s' here = one_stuck (tree_of s.machine) row more (fields_of s.machine) (fields_of s'.machine) at here
