-- What the flows over a trace's file come to.
use Rattle.std.proofs.Common.{◌≡◌, ℕ, inr, List, ◌++◌, sym, ◌∙◌, arith}
use Rattle.std.specs.Prelude.{Option, Some, Result, Ok, Err}
use Rattle.std.specs.Io.KnownBytes.{IsAtEnd}
use Rattle.base_host.specs.Faults.{Rose}
use Rattle.base_host.specs.Reading.{source}
use Rattle.lustre_syntax.specs.Tree.{FileTree}
use Rattle.lustre_flows.specs.declared.stuck.LusStuck.{LusStuck}
use Rattle.tool_traces.specs.declared.rows.BadLine.{BadLine}
use Rattle.tool_flow_runner.specs.declared.outcome.FlowFault.{FlowFault}
use Rattle.tool_flow_runner.specs.declared.outcome.FlowFault.TheVariants as fault
use Rattle.tool_flow_runner.specs.Runs.{RunsOver}
use Rattle.tool_endings.specs.declared.ending.Ending.{Ending}
use Rattle.tool_endings.specs.declared.ending.Ending.TheVariants.{Flowed, BadTrace, FlowStuck, PutFault}
use Rattle.tool_endings.specs.Told.{HostTold, SinkTold, source_of}
use Rattle.tool_endings.specs.EndingsOfModels.{OnNamed, LeavesHost}
use Rattle.tool_endings.specs.EndingsOfRuns.{ReadsToEnd}
use Rattle.tool_endings.specs.EndingsOfFlows.{FlowsTo, TakesFlows}
use Rattle.tool_endings.specs.Acting.{ForgetsFile}
use Rattle.tool_endings.proofs.lemmas.Files.{there}
use Rattle.tool_steps.proofs.lemmas.FileParts.{on-file}
use Rattle.tool_steps.proofs.lemmas.SameSinks.{same-sink}
use Rattle.tool_flow_steps.specs.FlowParts.{FlowsFile, MissesFlows}

module _ (f : FileTree) (rest : Option (List ℕ)) (now : ℕ) (name : List ℕ) (h h' : HostTold) (b b' : SinkTold)
    (opened : OnNamed h name (λ bytes. rest ≡ Some bytes)) (kept : now ≡ h.given) where
  abbrev Over : Result ℕ FlowFault → Type 0
  Over result = RunsOver result f (source rest now) (source_of h') b.bytes b'.bytes

  -- the file was read up to an ending
  flowed : (e : Ending) (result : Result ℕ FlowFault) (over : Over result) → LeavesHost h h' → ReadsToEnd e h' →
      FlowsTo e f (over.parts.taken ++ over.parts.left) b b' → FlowsFile e f name h h' b b'
  flowed e result over left end flows = record {
    lines = on-file rest name h h' opened over.parts (λ bytes. FlowsTo e f bytes b b') over.took.front over.left flows;
    end = end;
    left = left;
  }

  pub whole-flows : (ticks : ℕ) → LeavesHost h h' → IsAtEnd h'.rest → Over (Ok ticks) → FlowsFile (Flowed ticks) f name h h' b b'
  whole-flows ticks left end over = flowed (Flowed ticks) (Ok ticks) over left end over.ends

  pub bad-flows : (line : BadLine) → LeavesHost h h' → Over (Err (fault.Bad line)) → FlowsFile (BadTrace line) f name h h' b b'
  bad-flows line left over = flowed (BadTrace line) (Err (fault.Bad line)) over left tt over.ends

  pub stuck-flows : (at : LusStuck) → LeavesHost h h' → Over (Err (fault.Stuck at)) → FlowsFile (FlowStuck at) f name h h' b b'
  stuck-flows at left over = flowed (FlowStuck at) (Err (fault.Stuck at)) over left tt over.ends

  pub cut-flows : LeavesHost h h' → Over (Err fault.Put) → FlowsFile PutFault f name h h' b b'
  cut-flows left over = flowed PutFault (Err fault.Put) over left tt over.ends

  -- the lines of the whole lines among what was taken
  takes-flows : Over (Err fault.Read) → TakesFlows 0 f name h h' b b'
  takes-flows over = record {
    taken = over.parts.taken;
    file = there h.files h.rest name opened (λ told is. sym is ∙ over.took.front);
    given = let count = over.took.count in omega (arith, count, kept);
    lines = over.ends;
  }

  pub lost-flows : Rose h.read_faults h'.read_faults → h'.written ≡ h.written → Over (Err fault.Read) → MissesFlows f name h h' b b'
  lost-flows rose written over = record { rose = rose; written = written; lines = inr (takes-flows over) }

  pub forgot-flows : LeavesHost h h' → b'.faults ≡ b.faults → Over (Err fault.Memory) → ForgetsFile h h' b b'
  forgot-flows left faults over = record { left = left; silent = same-sink b b' over.ends.0 faults }
