-- Runs over bytes, and over a file.
use Rattle.std.proofs.Common.{◌≡◌, ◌≢◌, refl, sym, ◌∙◌, ap, subst, ℕ, ◌+◌, List, [], ◌∷◌, ◌++◌, append_assoc, inl, inr}
use Rattle.std.specs.Prelude.{◌⊎◌, ℤ, Option, None, Some, Ok, Err}
use Rattle.std.specs.Io.KnownBytes.{append_known}
use Rattle.std.proofs.lemmas.List.{append-nil}
use Rattle.base_host.specs.Files.{PutsFront}
use Rattle.base_host.specs.Reading.{Source}
use Rattle.base_host.specs.Buffers.{PutsAllBut}
use Rattle.base_host.proofs.lemmas.ReadLaws.{read_nothing}
use Rattle.base_fixed_point.specs.declared.types.FixType.{FixType}
use Rattle.c_syntax.specs.declared.fault.Stuck.{Stuck}
use Rattle.c_semantics.specs.Rows.{TickRow, Rows}
use Rattle.c_interpreter.specs.States.{MachineState, fields_of}
use Rattle.tool_traces.specs.declared.rows.BadLine.{BadLine}
use Rattle.tool_traces.specs.Rows.{Trace, rows_behind}
use Rattle.tool_traces.specs.Pieces.{with_rows}
use Rattle.tool_stream.specs.declared.fault.StreamFault.{StreamFault}
use Rattle.tool_stream.specs.declared.fault.StreamFault.TheVariants as stream
use Rattle.tool_stream.specs.Walks.{place, Front, StopsFirst, WalksAll, StopsAt, CutAfter, StopsOver}
use Rattle.tool_stream.specs.Files.{WalksFile}
use Rattle.tool_stream.proofs.lemmas.Waiting.{all_put}
use Rattle.tool_stream.proofs.lemmas.FilePieces.{left_of, is_left}
use Rattle.tool_runner.specs.declared.outcome.Totals.{Totals}
use Rattle.tool_runner.specs.declared.outcome.RunFault.TheVariants.{Memory}
use Rattle.tool_runner.specs.declared.outcome.RunStop.{RunStop}
use Rattle.tool_runner.specs.declared.outcome.RunStop.TheVariants as stop
use Rattle.tool_runner.specs.Texts.{ticks_text}
use Rattle.tool_runner.specs.Faults.{run_fault}
use Rattle.tool_runner.specs.Ticks.{Standing, standing}
use Rattle.tool_runner.specs.Lines.{Stops, Sticks}
use Rattle.tool_runner.specs.Runs.{no_totals, totals_of, added, ticks_over, HasTicked, HasRun, RanWhole, StoppedAtLine, StoppedStuck, StoppedByOut, StoppedBy, RunsOver}
use Rattle.tool_runner.proofs.Standings.{ticks_behind, first_stuck}
use Rattle.tool_runner.proofs.Steps.{Place, steps, said, stand, TicksOn, all_ticked}

-- why a line ends the walk
abbrev pub stops : Place → List ℕ → RunStop → Place → Type 0
stops at line why at' = Stops why line at.0 at'.0 at.1 at'.1

module _ (types : List FixType) (at : Place) (same : at.0.types.now ≡ types) (none : at.0.totals ≡ no_totals)
    (put put' : Option (List ℕ)) where
  -- the rows of these lines
  abbrev trace_of : List (List ℕ) → Trace
  trace_of lines = rows_behind 0 types lines

  -- where the run begins, and where it is
  abbrev begun : Standing
  begun = standing at.1 no_totals put

  abbrev now : Place → Standing
  now at' = standing at'.1 at'.0.totals put'

  -- the rows of lines that were walked over, and of those after them
  rows_are : (before behind : List (List ℕ)) (text : List ℕ) (at' : Place) (on : TicksOn before text at at') →
      trace_of (before ++ behind) ≡ with_rows on.more (rows_behind at'.0.totals.ticks types behind)
  rows_are before behind text at' on =
      ap (λ (t : Totals). rows_behind t.ticks types (before ++ behind)) (sym none)
      ∙ ap (λ ts. rows_behind at.0.totals.ticks ts (before ++ behind)) (sym same)
      ∙ on.reads behind
      ∙ ap (λ ts. with_rows on.more (rows_behind at'.0.totals.ticks ts behind)) same

  -- the same ticks, from where the run begins
  has_ticked : (rows : Rows) (at' : Place) → HasTicked rows (stand at) (stand at') → HasTicked rows begun (now at')
  has_ticked rows at' ticked = record {
    program = ticked.program;
    fields = ticked.fields;
    totals = ticked.totals ∙ ap (λ t. added t (totals_of rows.ticks)) none;
  }

  has_run : (rows : Rows) (text : List ℕ) (at' : Place) → HasTicked rows begun (now at') → text ≡ ticks_text rows.ticks →
      PutsAllBut [] ([] ++ text) put put' → HasRun rows begun (now at')
  has_run rows text at' ticked printed takes = record {
    ticked = ticked;
    put = all_put [] [] text put put' refl refl takes ∙ ap (append_known put) printed;
  }

  -- ---- All lines

  all_trace : (lines : List (List ℕ)) (text : List ℕ) (at' : Place) (on : TicksOn lines text at at') →
      trace_of lines ≡ record { rows = on.more; bad = None }
  all_trace lines text at' on =
      ap trace_of (sym (append-nil lines)) ∙ rows_are lines [] text at' on
      ∙ ap (λ (rows : List (List ℤ)). record { rows = rows; bad = None }) (append-nil on.more)

  walks_whole : (lines : List (List ℕ)) (at' : Place) → WalksAll steps said lines (place at put []) (place at' put' []) →
      RanWhole (trace_of lines) begun (now at')
  walks_whole lines at' walks =
      let on = all_ticked lines walks.text at at' walks.walked in
      let rows = ticks_over begun on.more in
      subst (λ t. RanWhole t begun (now at')) (sym (all_trace lines walks.text at' on))
      (record {
        rows_only = refl;
        unstuck = on.unstuck;
        run = has_run rows walks.text at' (has_ticked rows at' on.ticked) on.printed walks.takes;
      })

  -- ---- Some first lines

  module _ (lines : List (List ℕ)) (front : Front steps said lines at) where
    front_on : TicksOn front.before front.text at front.last
    front_on = all_ticked front.before front.text at front.last front.walked

    front_trace : trace_of lines ≡ with_rows front_on.more (rows_behind front.last.0.totals.ticks types front.behind)
    front_trace = ap trace_of front.parts ∙ rows_are front.before front.behind front.text front.last front_on

    -- the types stay
    front_types : front.last.0.types.now ≡ types
    front_types = front_on.types ∙ same

    -- nothing was executed after them
    front_stays : (at' : Place) → at'.1 ≡ front.last.1 → at'.0.totals ≡ front.last.0.totals →
        HasTicked (ticks_over begun front_on.more) begun (now at')
    front_stays at' machine totals =
        let ticked = has_ticked (ticks_over begun front_on.more) front.last front_on.ticked in
        record {
          program = ap (λ (m : MachineState). m.program) machine ∙ ticked.program;
          fields = ap fields_of machine ∙ ticked.fields;
          totals = totals ∙ ticked.totals;
        }

    -- the row after them is stuck
    module _ (halt : Stuck) (line : List ℕ) (behind : List (List ℕ)) (is : front.behind ≡ line ∷ behind) (at' : Place)
        (sticks : Sticks halt line front.last.0 at'.0 front.last.1 at'.1) where
      stuck_rows : (trace_of lines).rows
          ≡ front_on.more ++ sticks.row ∷ (rows_behind (front.last.0.totals.ticks + 1) types behind).rows
      stuck_rows =
          ap (λ (t : Trace). t.rows)
          (front_trace ∙ ap (λ ls. with_rows front_on.more (rows_behind front.last.0.totals.ticks types ls)) is
          ∙ ap (λ ts. with_rows front_on.more (rows_behind front.last.0.totals.ticks ts (line ∷ behind))) (sym front_types)
          ∙ ap (with_rows front_on.more) (sticks.is_row.reads behind)
          ∙ ap (λ ts. with_rows front_on.more (with_rows (sticks.row ∷ []) (rows_behind (front.last.0.totals.ticks + 1) ts behind)))
          front_types)

      stuck_ticks : (more : List (List ℤ)) → ticks_over begun (front_on.more ++ sticks.row ∷ more)
          ≡ record { ticks = (ticks_over begun front_on.more).ticks; cells = fields_of at'.1; stuck_place = Some halt }
      stuck_ticks more =
          ticks_behind (stand at) (stand front.last) front_on.more (sticks.row ∷ more) front_on.unstuck front_on.ticked
          ∙ ap (λ (r : Rows). record {
            ticks = (ticks_over begun front_on.more).ticks ++ r.ticks;
            cells = r.cells;
            stuck_place = r.stuck_place;
          }) (first_stuck sticks.row more halt (stand front.last) (stand at') sticks.stuck.stuck)
          ∙ ap (λ (ticks : List TickRow). record { ticks = ticks; cells = fields_of at'.1; stuck_place = Some halt })
          (append-nil (ticks_over begun front_on.more).ticks)

      stuck_ticked : (more : List (List ℤ)) → HasTicked (ticks_over begun (front_on.more ++ sticks.row ∷ more)) begun (now at')
      stuck_ticked more =
          let before = has_ticked (ticks_over begun front_on.more) front.last front_on.ticked in
          record {
            program = sticks.stuck.program ∙ before.program;
            fields = sym (ap (λ (r : Rows). r.cells) (stuck_ticks more));
            totals = sticks.stuck.totals ∙ before.totals ∙ ap (λ (r : Rows). added no_totals (totals_of r.ticks)) (sym (stuck_ticks more));
          }

      stuck_text : (more : List (List ℤ)) → front.text ≡ ticks_text (ticks_over begun (front_on.more ++ sticks.row ∷ more)).ticks
      stuck_text more = front_on.printed ∙ ap (λ (r : Rows). ticks_text r.ticks) (sym (stuck_ticks more))

  -- ---- What ends a run

  stops_bad : (bad : BadLine) (lines : List (List ℕ)) (at' : Place) →
      StopsAt steps said stops (stop.Trace bad) lines (place at put []) (place at' put' []) →
      StoppedAtLine bad (trace_of lines) begun (now at')
  stops_bad bad lines at' stopped =
      let front = stopped.front in
      let first = stopped.first in
      let on = front_on lines front in
      let rows = ticks_over begun on.more in
      let is : trace_of lines ≡ record { rows = on.more; bad = Some bad } =
      front_trace lines front
      ∙ ap (λ ls. with_rows on.more (rows_behind front.last.0.totals.ticks types ls)) first.parts
      ∙ ap (λ ts. with_rows on.more (rows_behind front.last.0.totals.ticks ts (first.line ∷ first.behind))) (sym (front_types lines front))
      ∙ ap (with_rows on.more) (first.ends.no_row first.behind)
      ∙ ap (λ (rs : List (List ℤ)). record { rows = rs; bad = Some bad }) (append-nil on.more) in
      subst (λ t. StoppedAtLine bad t begun (now at')) (sym is)
      (record {
        first_bad = refl;
        unstuck = on.unstuck;
        run = has_run rows front.text at' (front_stays lines front at' first.ends.machine first.ends.totals) on.printed stopped.takes;
      })

  stops_stuck : (halt : Stuck) (lines : List (List ℕ)) (at' : Place) →
      StopsAt steps said stops (stop.Stuck halt) lines (place at put []) (place at' put' []) →
      StoppedStuck halt (trace_of lines) begun (now at')
  stops_stuck halt lines at' stopped =
      let front = stopped.front in
      let first = stopped.first in
      let more = (rows_behind (front.last.0.totals.ticks + 1) types first.behind).rows in
      let is = stuck_rows lines front halt first.line first.behind first.parts at' first.ends in
      let rows = ticks_over begun (trace_of lines).rows in
      record {
        stuck = ap (λ rs. (ticks_over begun rs).stuck_place) is
            ∙ ap (λ (r : Rows). r.stuck_place) (stuck_ticks lines front halt first.line first.behind first.parts at' first.ends more);
        run = has_run rows front.text at'
            (subst (λ rs. HasTicked (ticks_over begun rs) begun (now at')) (sym is)
            (stuck_ticked lines front halt first.line first.behind first.parts at' first.ends more))
            (stuck_text lines front halt first.line first.behind first.parts at' first.ends more
            ∙ ap (λ rs. ticks_text (ticks_over begun rs).ticks) (sym is)) stopped.takes;
      }

  -- a front was printed of the lines of some first rows, and nothing was executed after them
  cut_there : (lines : List (List ℕ)) (front : Front steps said lines at) (at' : Place) → at'.1 ≡ front.last.1 →
      at'.0.totals ≡ front.last.0.totals → PutsFront put put' ([] ++ front.text) → StoppedByOut (trace_of lines) begun (now at')
  cut_there lines front at' machine totals cuts =
      let on = front_on lines front in
      record {
        front = record {
          rows = on.more;
          behind = (rows_behind front.last.0.totals.ticks types front.behind).rows;
          parts = ap (λ (t : Trace). t.rows) (front_trace lines front);
        };
        ticked = front_stays lines front at' machine totals;
        put = subst (λ t. PutsFront put put' t) on.printed cuts;
      }

  cut_first : (why : RunStop) (lines : List (List ℕ)) (front : Front steps said lines at) (at' : Place) →
      StopsFirst stops why front.behind front.last at' → PutsFront put put' ([] ++ front.text) →
      StoppedByOut (trace_of lines) begun (now at')
  cut_first (stop.Trace bad) lines front at' first cuts = cut_there lines front at' first.ends.machine first.ends.totals cuts
  cut_first (stop.Stuck halt) lines front at' first cuts =
      let on = front_on lines front in
      let more = (rows_behind (front.last.0.totals.ticks + 1) types first.behind).rows in
      record {
        front = record {
          rows = on.more ++ first.ends.row ∷ [];
          behind = more;
          parts = stuck_rows lines front halt first.line first.behind first.parts at' first.ends
              ∙ sym (append_assoc on.more (first.ends.row ∷ []) more);
        };
        ticked = stuck_ticked lines front halt first.line first.behind first.parts at' first.ends [];
        put = subst (λ t. PutsFront put put' t) (stuck_text lines front halt first.line first.behind first.parts at' first.ends []) cuts;
      }

  stops_cut : (lines : List (List ℕ)) (at' : Place) → CutAfter steps said stops lines (place at put []) (place at' put' []) →
      StoppedByOut (trace_of lines) begun (now at')
  stops_cut lines at' cut = by_last cut.last
    where
      by_last : (at' ≡ cut.front.last) ⊎ ((why : RunStop) × StopsFirst stops why cut.front.behind cut.front.last at') →
          StoppedByOut (trace_of lines) begun (now at')
      by_last (inl is) =
          cut_there lines cut.front at' (ap (λ (a : Place). a.1) is) (ap (λ (a : Place). a.0.totals) is) cut.cuts
      by_last (inr stopped) = cut_first stopped.0 lines cut.front at' stopped.1 cut.cuts

  -- ---- Bytes

  pub walks_bytes : (lines : List (List ℕ)) (at' : Place) (waiting waiting' : List ℕ) → waiting ≡ [] → waiting' ≡ [] →
      WalksAll steps said lines (place at put waiting) (place at' put' waiting') → RanWhole (trace_of lines) begun (now at')
  walks_bytes lines at' waiting waiting' free free' walks =
      walks_whole lines at'
      (subst (λ w. WalksAll steps said lines (place at put w) (place at' put' [])) free
      (subst (λ w. WalksAll steps said lines (place at put waiting) (place at' put' w)) free' walks))

  stops_from : (fault : StreamFault RunStop) (lines : List (List ℕ)) (at' : Place) (waiting' : List ℕ) →
      (fault ≢ stream.Put → waiting' ≡ []) → StopsOver steps said stops fault lines (place at put []) (place at' put' waiting') →
      StoppedBy (run_fault fault) (trace_of lines) begun (now at')
  stops_from stream.Read lines at' waiting' free' stopped = absurd stopped
  stops_from stream.Put lines at' waiting' free' stopped =
      stops_cut lines at' (record { front = stopped.front; last = stopped.last; cuts = stopped.cuts })
  stops_from (stream.Line (stop.Trace bad)) lines at' waiting' free' stopped =
      stops_bad bad lines at'
      (subst (λ w. StopsAt steps said stops (stop.Trace bad) lines (place at put []) (place at' put' w)) (free' (λ e. cc)) stopped)
  stops_from (stream.Line (stop.Stuck halt)) lines at' waiting' free' stopped =
      stops_stuck halt lines at'
      (subst (λ w. StopsAt steps said stops (stop.Stuck halt) lines (place at put []) (place at' put' w)) (free' (λ e. cc)) stopped)

  pub stops_bytes : (fault : StreamFault RunStop) (lines : List (List ℕ)) (at' : Place) (waiting waiting' : List ℕ) → waiting ≡ [] →
      (fault ≢ stream.Put → waiting' ≡ []) →
      StopsOver steps said stops fault lines (place at put waiting) (place at' put' waiting') →
      StoppedBy (run_fault fault) (trace_of lines) begun (now at')
  stops_bytes fault lines at' waiting waiting' free free' stopped =
      stops_from fault lines at' waiting' free'
      (subst (λ w. StopsOver steps said stops fault lines (place at put w) (place at' put' waiting')) free stopped)

  -- ---- A file

  pub walks_over : (from to : Source) (at' : Place) →
      WalksFile steps said stops (Ok tt) from to (place at put []) (place at' put' []) → RunsOver (Ok tt) from to types begun (now at')
  walks_over from to at' walks = record {
    parts = record { taken = walks.parts.taken; left = walks.parts.left };
    took = walks.took;
    left = walks.left;
    ends = walks_whole _ at' walks.ends;
  }

  pub stops_over : (fault : StreamFault RunStop) (from to : Source) (at' : Place) →
      WalksFile steps said stops (Err fault) from to (place at put []) (place at' put' []) →
      RunsOver (Err (run_fault fault)) from to types begun (now at')
  stops_over stream.Read from to at' walks = record {
    parts = record { taken = walks.parts.taken; left = walks.parts.left };
    took = walks.took;
    left = walks.left;
    ends = walks_whole _ at' walks.ends;
  }
  stops_over stream.Put from to at' walks = record {
    parts = record { taken = walks.parts.taken; left = walks.parts.left };
    took = walks.took;
    left = walks.left;
    ends = stops_cut _ at' walks.ends;
  }
  stops_over (stream.Line (stop.Trace bad)) from to at' walks = record {
    parts = record { taken = walks.parts.taken; left = walks.parts.left };
    took = walks.took;
    left = walks.left;
    ends = stops_bad bad _ at' walks.ends;
  }
  stops_over (stream.Line (stop.Stuck halt)) from to at' walks = record {
    parts = record { taken = walks.parts.taken; left = walks.parts.left };
    took = walks.took;
    left = walks.left;
    ends = stops_stuck halt _ at' walks.ends;
  }

-- nothing was read
pub nothing_read : (from : Source) (types : List FixType) (s : Standing) → RunsOver (Err Memory) from from types s s
nothing_read from types s = record {
  parts = record { taken = []; left = left_of from.rest };
  took = read_nothing from;
  left = is_left from.rest;
  ends = (refl, refl);
}
