-- Flows over a file.
use Rattle.std.proofs.Common.{◌≡◌, refl, sym, ◌∙◌, ap, subst, ℕ, ◌+◌, List, [], ◌∷◌, ◌++◌}
use Rattle.std.specs.Prelude.{ℤ, Option, None, Some, Ok, Err}
use Rattle.std.specs.Io.KnownBytes.{append_known}
use Rattle.std.proofs.lemmas.List.{append-nil}
use Rattle.base_host.specs.Files.{PutsFront}
use Rattle.base_host.specs.Reading.{Source}
use Rattle.base_host.proofs.lemmas.ReadLaws.{read_nothing}
use Rattle.lustre_syntax.specs.declared.file.LusFile.{LusFile}
use Rattle.lustre_syntax.specs.Tree.{FileTree}
use Rattle.lustre_syntax.specs.Plain.{file_tree}
use Rattle.lustre_flows.specs.declared.stuck.LusStuck.{LusStuck}
use Rattle.lustre_flows.specs.Flows.{flows}
use Rattle.lustre_interpreter.specs.States.{IsFirst}
use Rattle.tool_traces.specs.declared.rows.BadLine.{BadLine}
use Rattle.tool_traces.specs.Rows.{Trace}
use Rattle.tool_traces.specs.Pieces.{with_rows}
use Rattle.tool_plain_rows.specs.PlainRows.{plain_rows_after}
use Rattle.tool_plain_rows.specs.Lines.{IsNoRow}
use Rattle.tool_stream.specs.declared.fault.StreamFault.{StreamFault}
use Rattle.tool_stream.specs.declared.fault.StreamFault.TheVariants as stream
use Rattle.tool_stream.specs.Walks.{place, Front, WalksAll, StopsAt, CutAfter}
use Rattle.tool_stream.specs.Files.{WalksFile}
use Rattle.tool_stream.proofs.lemmas.Waiting.{all_put}
use Rattle.tool_stream.proofs.lemmas.FilePieces.{left_of, is_left}
use Rattle.tool_flow_runner.specs.declared.outcome.FlowFault.TheVariants.{Memory}
use Rattle.tool_flow_runner.specs.declared.outcome.FlowStop.{FlowStop}
use Rattle.tool_flow_runner.specs.declared.outcome.FlowStop.TheVariants as stop
use Rattle.tool_flow_runner.specs.FlowTraces.{row_size, flow_lines}
use Rattle.tool_flow_runner.specs.Faults.{flow_fault}
use Rattle.tool_flow_runner.specs.Lines.{Stops}
use Rattle.tool_flow_runner.specs.Runs.{RanAll, StoppedAtLine, StoppedStuck, StoppedByPut, RunsOver}
use Rattle.tool_flow_runner.proofs.FlowLaws.{IsAfter, first_after, free_after, stuck_next, stuck_lines}
use Rattle.tool_flow_runner.proofs.Steps.{Place, steps, said, HasTicked, TicksOn, sized, all_ticked}

-- why a line ends the walk
abbrev pub stops : Place → List ℕ → FlowStop → Place → Type 0
stops at line why at' = Stops why line at.0 at.1 at'.1

-- the rows of these lines
abbrev trace_of : FileTree → List (List ℕ) → Trace
trace_of f lines = plain_rows_after 0 (row_size f) lines

-- flows that have not begun
pub record Begins (f : FileTree) (at : Place) : Type 0 where
  pub after : IsAfter f [] at.1
  pub none : at.0.ticks ≡ 0

pub first_begins : (file : LusFile) (at : Place) → IsFirst file at.1 → at.0.ticks ≡ 0 → Begins (file_tree file) at
first_begins file at first none = record {
  after = subst (λ f. IsAfter f [] at.1) (ap file_tree first.file) (first_after at.1 first.begun first.free);
  none = none;
}

module _ (f : FileTree) (at : Place) (begins : Begins f at) (put put' : Option (List ℕ)) where
  none_ticked : HasTicked f [] at
  none_ticked = record { after = begins.after; count = begins.none }

  -- the rows of lines that were walked over, and of those after them
  rows_are : (before behind : List (List ℕ)) (text : List ℕ) (at' : Place) (on : TicksOn f [] before text at at') →
      trace_of f (before ++ behind) ≡ with_rows on.more (plain_rows_after at'.0.ticks (row_size f) behind)
  rows_are before behind text at' on =
      ap (λ n. plain_rows_after n (row_size f) (before ++ behind)) (sym begins.none) ∙ on.reads behind

  -- ---- All lines

  all_trace : (lines : List (List ℕ)) (text : List ℕ) (at' : Place) (on : TicksOn f [] lines text at at') →
      trace_of f lines ≡ record { rows = on.more; bad = None }
  all_trace lines text at' on =
      ap (trace_of f) (sym (append-nil lines)) ∙ rows_are lines [] text at' on
      ∙ ap (λ (rows : List (List ℤ)). record { rows = rows; bad = None }) (append-nil on.more)

  walks_whole : (lines : List (List ℕ)) (at' : Place) → WalksAll steps said lines (place at put []) (place at' put' []) →
      RanAll at'.0.ticks f (trace_of f lines) put put'
  walks_whole lines at' walks =
      let on = all_ticked f [] lines walks.text at at' none_ticked walks.walked in
      subst (λ t. RanAll at'.0.ticks f t put put') (sym (all_trace lines walks.text at' on))
      (record {
        count = on.ticked.count;
        whole = record {
          rows_only = refl;
          free = free_after f on.more at'.1 on.ticked.after;
          lines = all_put [] [] walks.text put put' refl refl walks.takes ∙ ap (append_known put) (sym on.printed);
        };
      })

  -- ---- Some first lines

  module _ (lines : List (List ℕ)) (front : Front steps said lines at) where
    front_on : TicksOn f [] front.before front.text at front.last
    front_on = all_ticked f [] front.before front.text at front.last none_ticked front.walked

    front_trace : trace_of f lines
        ≡ with_rows front_on.more (plain_rows_after front.last.0.ticks (row_size f) front.behind)
    front_trace = ap (trace_of f) front.parts ∙ rows_are front.before front.behind front.text front.last front_on

  stops_cut : (lines : List (List ℕ)) (at' : Place) → CutAfter steps said stops lines (place at put []) (place at' put' []) →
      StoppedByPut f (trace_of f lines) put put'
  stops_cut lines at' cut =
      let on = front_on lines cut.front in
      let behind = (plain_rows_after cut.front.last.0.ticks (row_size f) cut.front.behind).rows in
      record {
        front = record {
          rows = on.more;
          behind = behind;
          parts = ap (λ (t : Trace). t.rows) (front_trace lines cut.front);
        };
        lines = subst (λ t. PutsFront put put' t) (sym on.printed) cut.cuts;
      }

  stops_bad : (bad : BadLine) (lines : List (List ℕ)) (at' : Place) →
      StopsAt steps said stops (stop.Bad bad) lines (place at put []) (place at' put' []) →
      StoppedAtLine bad f (trace_of f lines) put put'
  stops_bad bad lines at' stopped =
      let front = stopped.front in
      let on = front_on lines front in
      let here = subst (λ n. IsNoRow bad stopped.first.line front.last.0.ticks n) (ap (λ g. row_size g) on.ticked.after.tree)
      stopped.first.ends in
      let is : trace_of f lines ≡ record { rows = on.more; bad = Some bad } =
      front_trace lines front
      ∙ ap (λ ls. with_rows on.more (plain_rows_after front.last.0.ticks (row_size f) ls)) stopped.first.parts
      ∙ ap (with_rows on.more) (here stopped.first.behind)
      ∙ ap (λ (rows : List (List ℤ)). record { rows = rows; bad = Some bad }) (append-nil on.more) in
      subst (λ t. StoppedAtLine bad f t put put') (sym is)
      (record {
        first_bad = refl;
        free = free_after f on.more front.last.1 on.ticked.after;
        lines = all_put [] [] front.text put put' refl refl stopped.takes ∙ ap (append_known put) (sym on.printed);
      })

  stops_stuck : (place' : LusStuck) (lines : List (List ℕ)) (at' : Place) →
      StopsAt steps said stops (stop.Stuck place') lines (place at put []) (place at' put' []) →
      StoppedStuck place' f (trace_of f lines) put put'
  stops_stuck place' lines at' stopped =
      let front = stopped.front in
      let on = front_on lines front in
      let sticks = stopped.first.ends in
      let row = sticks.row in
      let is_row = sized f on.more front.last.1 row stopped.first.line front.last.0.ticks on.ticked.after sticks.is_row in
      let more = (plain_rows_after (front.last.0.ticks + 1) (row_size f) stopped.first.behind).rows in
      let rows : (trace_of f lines).rows ≡ on.more ++ row ∷ more =
      ap (λ (t : Trace). t.rows) (front_trace lines front
      ∙ ap (λ ls. with_rows on.more (plain_rows_after front.last.0.ticks (row_size f) ls)) stopped.first.parts
      ∙ ap (with_rows on.more) (is_row.reads stopped.first.behind)) in
      record {
        stuck = ap (λ rs. (flows f rs).stuck_place) rows
            ∙ stuck_next f on.more more front.last.1 at'.1 row place' on.ticked.after sticks.stuck;
        lines = all_put [] [] front.text put put' refl refl stopped.takes
            ∙ ap (append_known put) (sym on.printed ∙ stuck_lines f on.more more front.last.1 at'.1 row place' on.ticked.after sticks.stuck
            ∙ ap (flow_lines f) (sym rows));
      }

  -- ---- A file

  pub walks_over : (from to : Source) (at' : Place) →
      WalksFile steps said stops (Ok tt) from to (place at put []) (place at' put' []) →
      RunsOver (Ok at'.0.ticks) f from to put put'
  walks_over from to at' walks = record {
    parts = record { taken = walks.parts.taken; left = walks.parts.left };
    took = walks.took;
    left = walks.left;
    ends = walks_whole _ at' walks.ends;
  }

  pub stops_over : (fault : StreamFault FlowStop) (from to : Source) (at' : Place) →
      WalksFile steps said stops (Err fault) from to (place at put []) (place at' put' []) →
      RunsOver (Err (flow_fault fault)) f from to put put'
  stops_over stream.Read from to at' walks = record {
    parts = record { taken = walks.parts.taken; left = walks.parts.left };
    took = walks.took;
    left = walks.left;
    ends = (walks_whole _ at' walks.ends).whole;
  }
  stops_over stream.Put from to at' walks = record {
    parts = record { taken = walks.parts.taken; left = walks.parts.left };
    took = walks.took;
    left = walks.left;
    ends = stops_cut _ at' walks.ends;
  }
  stops_over (stream.Line (stop.Bad bad)) from to at' walks = record {
    parts = record { taken = walks.parts.taken; left = walks.parts.left };
    took = walks.took;
    left = walks.left;
    ends = stops_bad bad _ at' walks.ends;
  }
  stops_over (stream.Line (stop.Stuck place')) from to at' walks = record {
    parts = record { taken = walks.parts.taken; left = walks.parts.left };
    took = walks.took;
    left = walks.left;
    ends = stops_stuck place' _ at' walks.ends;
  }

-- nothing was read
pub nothing_read : (f : FileTree) (from : Source) (put : Option (List ℕ)) → RunsOver (Err Memory) f from from put put
nothing_read f from put = record {
  parts = record { taken = []; left = left_of from.rest };
  took = read_nothing from;
  left = is_left from.rest;
  ends = (refl, refl);
}
