-- The lines of a trace, one after another through the machine.
use Rattle.std.proofs.Common.{◌≡◌, refl, sym, ◌∙◌, ap, subst, ℕ, ◌+◌, List, [], ◌∷◌, ◌++◌}
use Rattle.std.specs.Prelude.{ℤ, None}
use Rattle.c_semantics.specs.Rows.{Rows}
use Rattle.c_interpreter.specs.States.{MachineState}
use Rattle.tool_traces.specs.Rows.{rows_behind}
use Rattle.tool_traces.specs.Pieces.{with_rows}
use Rattle.tool_stream.specs.Walks.{Walked}
use Rattle.tool_runner.specs.declared.outcome.Totals.{Totals}
use Rattle.tool_runner.specs.declared.run.Run.{Run}
use Rattle.tool_runner.specs.Texts.{outputs_line, ticks_text}
use Rattle.tool_runner.specs.Ticks.{Standing, standing}
use Rattle.tool_runner.specs.Runs.{ticks_over, HasTicked}
use Rattle.tool_runner.specs.Lines.{Ticks}
use Rattle.tool_runner.proofs.Standings.{ticks_behind, none_ticked, both_ticked, whole_text, OneRow, one_ticked}

-- a run with its machine
abbrev pub Place : Type 0
Place = Run × MachineState

-- what a line does, and what it gives to print
abbrev pub steps : Place → List ℕ → Place → Type 0
steps at line at' = Ticks line at.0 at'.0 at.1 at'.1

abbrev pub said : Place → List ℕ
said at = outputs_line at.0.outputs.items

-- where a run is, whatever was printed
abbrev pub stand : Place → Standing
stand at = standing at.1 at.0.totals None

-- these lines are rows that have ticked, and this is the text of their outputs
pub record TicksOn (lines : List (List ℕ)) (text : List ℕ) (at at' : Place) : Type 0 where
  pub more : List (List ℤ)
  pub reads : (behind : List (List ℕ)) → rows_behind at.0.totals.ticks at.0.types.now (lines ++ behind)
      ≡ with_rows more (rows_behind at'.0.totals.ticks at.0.types.now behind)
  pub types : at'.0.types.now ≡ at.0.types.now
  pub unstuck : (ticks_over (stand at) more).stuck_place ≡ None
  pub ticked : HasTicked (ticks_over (stand at) more) (stand at) (stand at')
  pub printed : text ≡ ticks_text (ticks_over (stand at) more).ticks

none_on : (at : Place) → TicksOn [] [] at at
none_on at = record {
  more = [];
  reads = λ behind. refl;
  types = refl;
  unstuck = refl;
  ticked = none_ticked (stand at);
  printed = refl;
}

-- one line, and then others
one_more : (line : List ℕ) (lines : List (List ℕ)) (more : List ℕ) (at next at' : Place) → steps at line next →
    TicksOn lines more next at' → TicksOn (line ∷ lines) (said next ++ more) at at'
one_more line lines more at next at' step others =
    let row = step.row in
    let one : OneRow row next.0.outputs.items (stand at) (stand next) =
    one_ticked row next.0.outputs.items (stand at) (stand next) step.ticked in
    let count : next.0.totals.ticks ≡ at.0.totals.ticks + 1 = ap (λ (t : Totals). t.ticks) step.ticked.totals in
    record {
      more = row ∷ others.more;
      reads = λ behind.
          step.is_row.reads (lines ++ behind)
          ∙ ap (λ n. with_rows (row ∷ []) (rows_behind n at.0.types.now (lines ++ behind))) (sym count)
          ∙ ap (λ ts. with_rows (row ∷ []) (rows_behind next.0.totals.ticks ts (lines ++ behind))) (sym step.types)
          ∙ ap (with_rows (row ∷ [])) (others.reads behind)
          ∙ ap (λ ts. with_rows (row ∷ others.more) (rows_behind at'.0.totals.ticks ts behind)) step.types;
      types = others.types ∙ step.types;
      unstuck =
          ap (λ (r : Rows). r.stuck_place) (ticks_behind (stand at) (stand next) (row ∷ []) others.more one.unstuck one.ticked)
          ∙ others.unstuck;
      ticked = both_ticked (stand at) (stand next) (stand at') (row ∷ []) others.more one.unstuck one.ticked others.ticked;
      printed =
          ap (λ t. t ++ more) one.text ∙ ap (λ t. ticks_text (ticks_over (stand at) (row ∷ [])).ticks ++ t) others.printed
          ∙ whole_text (stand at) (stand next) (row ∷ []) others.more one.unstuck one.ticked;
    }

pub all_ticked : (lines : List (List ℕ)) (text : List ℕ) (at at' : Place) → Walked steps said lines text at at' →
    TicksOn lines text at at'
all_ticked [] text at at' walked =
    subst (λ t. TicksOn [] t at at') (sym walked.0) (subst (λ a. TicksOn [] [] at a) (sym walked.1) (none_on at))
all_ticked (line ∷ lines) text at at' walked =
    subst (λ t. TicksOn (line ∷ lines) t at at') (sym walked.3)
    (one_more line lines walked.1 at walked.0 at' walked.2 (all_ticked lines walked.1 walked.0 at' walked.4))
