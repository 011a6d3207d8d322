-- What a machine's run over a file comes to, of a machine after its start.
use Rattle.std.proofs.Common.{◌≡◌, ℕ, inr, List, [], ◌∷◌, ◌++◌, sym, ap, subst, ◌∙◌, arith}
use Rattle.std.specs.Prelude.{Option, Some, None, Result, Ok, Err, ℤ}
use Rattle.std.specs.List.{AllZip}
use Rattle.std.specs.Io.KnownBytes.{append_known, IsAtEnd}
use Rattle.base_fixed_point.specs.declared.types.FixType.{FixType}
use Rattle.base_host.specs.Faults.{Rose}
use Rattle.base_host.specs.Files.{PutsFront}
use Rattle.base_host.specs.Reading.{source}
use Rattle.tool_traces.specs.declared.rows.BadLine.{BadLine}
use Rattle.tool_traces.specs.Rows as trace
use Rattle.c_syntax.specs.declared.fault.Stuck.{Stuck}
use Rattle.c_semantics.specs.Machine.{Outcome}
use Rattle.c_semantics.specs.Rows.{Rows, c_rows, rows_from, rows_of_start}
use Rattle.c_interpreter.specs.States.{MachineState, tree_of}
use Rattle.tool_runner.specs.declared.outcome.Totals.{Totals}
use Rattle.tool_runner.specs.declared.outcome.RunFault.{RunFault}
use Rattle.tool_runner.specs.declared.outcome.RunFault.TheVariants as fault
use Rattle.tool_runner.specs.Texts.{ticks_text}
use Rattle.tool_runner.specs.Ticks.{Standing, standing, IsNarrower}
use Rattle.tool_runner.specs.Runs.{no_totals, totals_of, added, ticks_over, RanWhole, StoppedAtLine, StoppedStuck, StoppedByOut, Parts, RunsOver}
use Rattle.tool_endings.specs.declared.ending.Ending.TheVariants.{Ran, BadTrace, Stuck as IsStuck, PutFault}
use Rattle.tool_endings.specs.Told.{HostTold, SinkTold, source_of}
use Rattle.tool_endings.specs.Runs.{RunsWhole, RunsToBadLine, RunsToStuck, RunsToPutFault, RunsTaken}
use Rattle.tool_endings.specs.EndingsOfModels.{OnNamed, LeavesHost}
use Rattle.tool_endings.specs.EndingsOfRuns.{TakesFile}
use Rattle.tool_endings.specs.Acting.{IsBehindStart, RunsFile, MissesFile, ForgetsFile}
use Rattle.tool_endings.proofs.lemmas.Files.{there}
use Rattle.tool_steps.proofs.lemmas.FileParts.{on-file}
use Rattle.tool_steps.proofs.lemmas.SameSinks.{same-sink}

-- types are no wider than themselves
pub narrow : (types : List FixType) → AllZip IsNarrower types types
narrow [] = tt
narrow (t ∷ ts) = ((λ v is. is), narrow ts)

-- the ticks of a machine after its start are those of the program
same-rows : (m : MachineState) (totals : Totals) (put : Option (List ℕ)) (rows : List (List ℤ)) → IsBehindStart m →
    ticks_over (standing m totals put) rows ≡ c_rows (tree_of m) rows
same-rows m totals put rows (after, start, fields) =
    ap (rows_from (tree_of m) rows) fields ∙ sym (ap (λ (o : Outcome). rows_of_start (tree_of m) o rows) start)

same-totals : (t u : Totals) → t.ticks ≡ u.ticks → t.steps ≡ u.steps → t.calls ≡ u.calls → t ≡ u
same-totals t u ticks steps calls = λ i. record { ticks = ticks i; steps = steps i; calls = calls i }

-- totals after none are themselves
behind-none : (t : Totals) → added no_totals t ≡ t
behind-none t = same-totals (added no_totals t) t (omega arith) (omega arith) (omega arith)

-- ---- Over bytes

module _ (m m' : MachineState) (types : List FixType) (taken : Totals) (b b' : SinkTold) (start : IsBehindStart m) where
  rows-are : (rows : List (List ℤ)) → ticks_over (standing m no_totals b.bytes) rows ≡ c_rows (tree_of m) rows
  rows-are rows = same-rows m no_totals b.bytes rows start

  unstuck : (rows : List (List ℤ)) (place : Option Stuck) →
      (ticks_over (standing m no_totals b.bytes) rows).stuck_place ≡ place →
      (c_rows (tree_of m) rows).stuck_place ≡ place
  unstuck rows place is = ap (λ (r : Rows). r.stuck_place) (sym (rows-are rows)) ∙ is

  puts : (rows : List (List ℤ)) →
      b'.bytes ≡ append_known b.bytes (ticks_text (ticks_over (standing m no_totals b.bytes) rows).ticks) →
      b'.bytes ≡ append_known b.bytes (ticks_text (c_rows (tree_of m) rows).ticks)
  puts rows put = put ∙ ap (λ (r : Rows). append_known b.bytes (ticks_text r.ticks)) (rows-are rows)

  pub whole_rows : (bytes : List ℕ) →
      RanWhole (trace.rows_of bytes types) (standing m no_totals b.bytes) (standing m' taken b'.bytes) →
      RunsWhole taken (tree_of m) types bytes b b'
  whole_rows bytes ends =
      let rows : List (List ℤ) = (trace.rows_of bytes types).rows in record {
        good = ends.rows_only;
        free = unstuck rows None ends.unstuck;
        totals = ends.run.ticked.totals ∙ behind-none _ ∙ ap (λ (r : Rows). totals_of r.ticks) (rows-are rows);
        lines = puts rows ends.run.put;
      }

  pub bad_rows : (line : BadLine) (bytes : List ℕ) →
      StoppedAtLine line (trace.rows_of bytes types) (standing m no_totals b.bytes) (standing m' taken b'.bytes) →
      RunsToBadLine line (tree_of m) types bytes b b'
  bad_rows line bytes ends =
      let rows : List (List ℤ) = (trace.rows_of bytes types).rows in
      record { bad = ends.first_bad; free = unstuck rows None ends.unstuck; lines = puts rows ends.run.put }

  pub stuck_rows : (at : Stuck) (bytes : List ℕ) →
      StoppedStuck at (trace.rows_of bytes types) (standing m no_totals b.bytes) (standing m' taken b'.bytes) →
      RunsToStuck at (tree_of m) types bytes b b'
  stuck_rows at bytes ends =
      let rows : List (List ℤ) = (trace.rows_of bytes types).rows in
      record { stuck = unstuck rows (Some at) ends.stuck; lines = puts rows ends.run.put }

  pub cut_rows : (bytes : List ℕ) →
      StoppedByOut (trace.rows_of bytes types) (standing m no_totals b.bytes) (standing m' taken b'.bytes) →
      RunsToPutFault (tree_of m) types bytes b b'
  cut_rows bytes ends = record {
    first = record { rows = ends.front.rows; behind = ends.front.behind; parts = ends.front.parts };
    front = subst (λ (r : Rows). PutsFront b.bytes b'.bytes (ticks_text r.ticks)) (rows-are ends.front.rows) ends.put;
  }

  -- each whole line of what was taken is a row that was run
  pub taken_rows : (bytes : List ℕ) →
      RanWhole (trace.whole_rows_of bytes types) (standing m no_totals b.bytes) (standing m' taken b'.bytes) →
      RunsTaken (tree_of m) types bytes b b'
  taken_rows bytes ends =
      let rows : List (List ℤ) = (trace.whole_rows_of bytes types).rows in
      record { good = ends.rows_only; free = unstuck rows None ends.unstuck; lines = puts rows ends.run.put }

  pub forget_rows : b'.faults ≡ b.faults → standing m' taken b'.bytes ≡ standing m no_totals b.bytes → b' ≡ b
  forget_rows faults same = same-sink b b' (ap (λ (s : Standing). s.put) same) faults

-- ---- Over a file

module _ (m m' : MachineState) (types : List FixType) (taken : Totals) (rest : Option (List ℕ)) (now : ℕ)
    (name : List ℕ) (h h' : HostTold) (b b' : SinkTold) (start : IsBehindStart m)
    (opened : OnNamed h name (λ bytes. rest ≡ Some bytes)) (kept : now ≡ h.given) where
  abbrev Over : Result (Unit {0}) RunFault → Type 0
  Over result = RunsOver result (source rest now) (source_of h') types (standing m no_totals b.bytes) (standing m' taken b'.bytes)

  abbrev bytes-of : Parts → List ℕ
  bytes-of parts = parts.taken ++ parts.left

  pub whole-file : LeavesHost h h' → IsAtEnd h'.rest → Over (Ok tt) → RunsFile (Ran taken) (tree_of m) types name h h' b b'
  whole-file left end over = record {
    lines = on-file rest name h h' opened over.parts (λ bytes. RunsWhole taken (tree_of m) types bytes b b') over.took.front
        over.left (whole_rows m m' types taken b b' start (bytes-of over.parts) over.ends);
    end = end;
    left = left;
  }

  pub bad-file : (line : BadLine) → LeavesHost h h' → Over (Err (fault.Trace line)) →
      RunsFile (BadTrace line) (tree_of m) types name h h' b b'
  bad-file line left over = record {
    lines = on-file rest name h h' opened over.parts (λ bytes. RunsToBadLine line (tree_of m) types bytes b b')
        over.took.front over.left (bad_rows m m' types taken b b' start line (bytes-of over.parts) over.ends);
    end = tt;
    left = left;
  }

  pub stuck-file : (at : Stuck) → LeavesHost h h' → Over (Err (fault.Stuck at)) → RunsFile (IsStuck at) (tree_of m) types name h h' b b'
  stuck-file at left over = record {
    lines = on-file rest name h h' opened over.parts (λ bytes. RunsToStuck at (tree_of m) types bytes b b') over.took.front
        over.left (stuck_rows m m' types taken b b' start at (bytes-of over.parts) over.ends);
    end = tt;
    left = left;
  }

  pub cut-file : LeavesHost h h' → Over (Err fault.Out) → RunsFile PutFault (tree_of m) types name h h' b b'
  cut-file left over = record {
    lines = on-file rest name h h' opened over.parts (λ bytes. RunsToPutFault (tree_of m) types bytes b b') over.took.front
        over.left (cut_rows m m' types taken b b' start (bytes-of over.parts) over.ends);
    end = tt;
    left = left;
  }

  -- the lines of the whole lines among what was taken
  takes-file : Over (Err fault.Read) → TakesFile 0 (tree_of m) types name h h' b b'
  takes-file over = record {
    taken = over.parts.taken;
    file = there h.files h.rest name opened (λ told is. sym is ∙ over.took.front);
    given = let count = over.took.count in omega (arith, count, kept);
    lines = taken_rows m m' types taken b b' start over.parts.taken over.ends;
  }

  pub lost-file : Rose h.read_faults h'.read_faults → h'.written ≡ h.written → Over (Err fault.Read) →
      MissesFile (tree_of m) types name h h' b b'
  lost-file rose written over = record { rose = rose; written = written; lines = inr (takes-file over) }

  pub forget-file : LeavesHost h h' → b'.faults ≡ b.faults → Over (Err fault.Memory) → ForgetsFile h h' b b'
  forget-file left faults over = record { left = left; silent = forget_rows m m' types taken b b' start faults over.ends.0 }
