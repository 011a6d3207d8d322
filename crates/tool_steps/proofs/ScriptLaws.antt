-- What the run of a script's file comes to, by a driver of right code.
use Rattle.std.proofs.Common.{◌≡◌, ℕ, inr, List, [], sym, refl, ◌∙◌, arith}
use Rattle.std.specs.Prelude.{Option, Some, Result, Ok, Err}
use Rattle.std.specs.Io.KnownBytes.{IsAtEnd}
use Rattle.base_host.specs.Faults.{Rose}
use Rattle.base_host.specs.Reading.{source}
use Rattle.tool_runner.specs.declared.outcome.Totals.{Totals}
use Rattle.tool_runner.specs.Runs.{no_totals}
use Rattle.tool_driver.specs.Driven.{Driven, StandsFor}
use Rattle.tool_driver.specs.States.{DriverState}
use Rattle.tool_scripts.specs.declared.walk.BadCall.{BadCall}
use Rattle.tool_script_runner.specs.declared.outcome.RefusedCall.{RefusedCall}
use Rattle.tool_script_runner.specs.declared.outcome.ScriptFault.{ScriptFault}
use Rattle.tool_script_runner.specs.declared.outcome.ScriptFault.TheVariants as fault
use Rattle.tool_script_runner.specs.Drives.{AnswersSome, DrivesOver, ScriptsAreDriven}
use Rattle.tool_script_runner.specs.Runs.{RunsOver}
use Rattle.tool_script_runner.specs.ScriptEnds.{AtLine, AtCall}
use Rattle.tool_script_runner.specs.Standings.{standing}
use Rattle.tool_endings.specs.declared.ending.Ending.TheVariants.{Ran, BadScript, PutFault}
use Rattle.tool_endings.specs.declared.ending.ScriptStop.TheVariants.{Line, Call}
use Rattle.tool_endings.specs.Told.{HostTold, SinkTold, source_of}
use Rattle.tool_endings.specs.Scripts.{DrivesWhole, DrivesUpTo}
use Rattle.tool_endings.specs.EndingsOfModels.{OnNamed, LeavesHost}
use Rattle.tool_endings.specs.EndingsOfDriving.{TakesScript}
use Rattle.tool_endings.specs.Acting.{DrivesFile, MissesScript}
use Rattle.tool_endings.proofs.lemmas.Files.{there}
use Rattle.tool_steps.proofs.lemmas.FileParts.{on-file}

module _ (law : ScriptsAreDriven) (w : Driven) (d d' : DriverState) (taken : Totals) (rest : Option (List ℕ)) (now : ℕ)
    (name : List ℕ) (h h' : HostTold) (b b' : SinkTold) (stands : StandsFor w d [])
    (opened : OnNamed h name (λ bytes. rest ≡ Some bytes)) (kept : now ≡ h.given) where
  abbrev Over : Result (Unit {0}) ScriptFault → Type 0
  Over result = RunsOver result (source rest now) (source_of h') (standing d no_totals b.bytes) (standing d' taken b'.bytes)

  abbrev Drives : Result (Unit {0}) ScriptFault → Type 0
  Drives result = DrivesOver w result (source rest now) (source_of h') taken b.bytes b'.bytes

  driven : (result : Result (Unit {0}) ScriptFault) → Over result → Drives result
  driven result over =
      law w result (source rest now) (source_of h') (standing d no_totals b.bytes) (standing d' taken b'.bytes) stands refl over

  pub whole-script : LeavesHost h h' → IsAtEnd h'.rest → Over (Ok tt) → DrivesFile (Ran taken) w name h h' b b'
  whole-script left end over =
      let run : Drives (Ok tt) = driven (Ok tt) over in record {
        lines = on-file rest name h h' opened run.parts (λ bytes. DrivesWhole taken w bytes b b') run.took.front run.left
            (record { end = run.drives.0; answers = run.drives.1 });
        end = end;
        left = left;
      }

  pub line-script : (bad : BadCall) → LeavesHost h h' → Over (Err (fault.Line bad)) → DrivesFile (BadScript (Line bad)) w name h h' b b'
  line-script bad left over =
      let run : Drives (Err (fault.Line bad)) = driven (Err (fault.Line bad)) over in record {
        lines = on-file rest name h h' opened run.parts (λ bytes. DrivesUpTo (AtLine bad) w bytes b b') run.took.front run.left
            (record { stops = run.drives.0; taken = taken; answers = run.drives.1 });
        end = tt;
        left = left;
      }

  pub call-script : (refused : RefusedCall) → LeavesHost h h' → Over (Err (fault.Call refused)) →
      DrivesFile (BadScript (Call refused)) w name h h' b b'
  call-script refused left over =
      let run : Drives (Err (fault.Call refused)) = driven (Err (fault.Call refused)) over in record {
        lines = on-file rest name h h' opened run.parts (λ bytes. DrivesUpTo (AtCall refused) w bytes b b') run.took.front run.left
            (record { stops = run.drives.0; taken = taken; answers = run.drives.1 });
        end = tt;
        left = left;
      }

  pub cut-script : LeavesHost h h' → Over (Err fault.Out) → DrivesFile PutFault w name h h' b b'
  cut-script left over =
      let run : Drives (Err fault.Out) = driven (Err fault.Out) over in record {
        lines = on-file rest name h h' opened run.parts (λ bytes. AnswersSome w bytes b.bytes b'.bytes) run.took.front run.left run.drives;
        end = tt;
        left = left;
      }

  -- the lines of the whole lines among what was taken
  takes-script : Over (Err fault.Read) → TakesScript 0 w name h h' b b'
  takes-script over =
      let run : Drives (Err fault.Read) = driven (Err fault.Read) over in record {
        taken = run.parts.taken;
        file = there h.files h.rest name opened (λ told is. sym is ∙ run.took.front);
        given = let count = run.took.count in omega (arith, count, kept);
        lines = run.drives;
      }

  pub lost-script : Rose h.read_faults h'.read_faults → h'.written ≡ h.written → Over (Err fault.Read) → MissesScript w name h h' b b'
  lost-script rose written over = record { rose = rose; written = written; lines = inr (takes-script over) }
