-- How `flow` ends, by what its parts come to.
use Rattle.std.proofs.Common.{◌≡◌, ℕ, ◌⊎◌, inl, inr, List, length, refl, subst, ◌∙◌}
use Rattle.std.specs.Prelude.{Some}
use Rattle.std.specs.Io.KnownBytes.{prepend_known}
use Rattle.base_host.specs.Faults.{Rose}
use Rattle.lustre_syntax.specs.Tree.{FileTree}
use Rattle.tool_words.specs.Words.{Flow}
use Rattle.tool_endings.specs.declared.ending.Ending.{Ending}
use Rattle.tool_endings.specs.declared.ending.Ending.TheVariants.{Flowed, BadTrace, LustreRefused, LustreTooLong, FlowStuck, ReadFault, PutFault, NoMemory}
use Rattle.tool_endings.specs.Told.{HostTold, SinkTold}
use Rattle.tool_endings.specs.EndingsOfModels.{OpensNothing}
use Rattle.tool_endings.specs.EndingsOfRuns.{EndsAtCode}
use Rattle.tool_endings.specs.EndingsOfFlows.{FlowsTo, TakesFlows, ReadsLustre, EndsFlow}
use Rattle.tool_endings.specs.Endings.{CountsPuts, Finds, Ends}
use Rattle.tool_steps.proofs.lemmas.TwoFiles.{left-twice, on-bytes, retold, rose_behind, unopened_behind}
use Rattle.tool_flow_steps.specs.FlowParts.{ReadsLustreFile, RefusesFile, NotRead, FlowsFile, FlowsEnd}

module _ (f : FileTree) (file trace : List ℕ) (h h1 h' : HostTold) (b b' : SinkTold) (read : ReadsLustreFile f file h h1) where
  abbrev reads-lustre : ReadsLustre read.file.bytes
  reads-lustre = record { fits = read.file.holds.fits; tree = f; reading = read.file.holds.reading }

  -- the file was read, and then its flows run over the trace
  both-files : (e : Ending) → FlowsFile e f trace h1 h' b b' → EndsFlow e file trace h h' b b'
  both-files e run = record {
    file = record {
      bytes = read.file.bytes;
      file = read.file.file;
      holds = record {
        file = reads-lustre;
        runs = on-bytes file trace h h1 (λ lines. FlowsTo e f lines b b') (λ lines. FlowsTo e f lines b b') read.told
            read.files (λ lines runs. runs) run.lines;
        end = run.end;
      };
    };
    left = left-twice h h1 h' read.left run.left;
  }

  -- what was printed of a trace that was lost after the file
  lost-second : OpensNothing 0 h1 h' b b' ⊎ TakesFlows 0 f trace h1 h' b b' →
      OpensNothing (length read.file.bytes) h h' b b' ⊎ TakesFlows (length read.file.bytes) f trace h h' b b'
  lost-second (inl unopened) = inl (unopened_behind (length read.file.bytes) h h1 h' b b' read.given unopened)
  lost-second (inr takes) = inr (record {
    taken = takes.taken;
    file = retold file trace h h1 (λ x. Some x ≡ prepend_known takes.taken h'.rest) read.told read.files takes.file;
    given = rose_behind (length read.file.bytes) (length takes.taken) h.given h1.given h'.given read.given takes.given;
    lines = takes.lines;
  })

  flow-finds : (e : Ending) → FlowsEnd e f trace h1 h' b b' → Finds e (Some (Flow file trace)) h h' b b'
  flow-finds (Flowed ticks) run = both-files (Flowed ticks) run
  flow-finds (BadTrace line) run = both-files (BadTrace line) run
  flow-finds (FlowStuck at) run = both-files (FlowStuck at) run
  flow-finds PutFault run = both-files PutFault run
  flow-finds ReadFault run =
      inr (
        subst (λ (n : ℕ). Rose n h'.read_faults) read.left.no_fault.read run.rose,
        run.written ∙ read.left.written,
        record {
          bytes = read.file.bytes;
          file = read.file.file;
          holds = record { file = reads-lustre; lines = lost-second run.lines };
        },
      )
  flow-finds NoMemory run = (left-twice h h1 h' read.left run.left, run.silent)
  flow-finds _ run = absurd run

  pub flow_ends : (e : Ending) → FlowsEnd e f trace h1 h' b b' → CountsPuts e b b' → Ends e (Some (Flow file trace)) h h' b b'
  flow_ends e run counts = record { finds = flow-finds e run; counts = counts }

-- the file wasn't read
module _ (file trace : List ℕ) (h h' : HostTold) (b : SinkTold) where
  refused-file : (P : List ℕ → Type 0) → RefusesFile P file h h' → EndsAtCode file P h h' b b
  refused-file P refuses = record { code = refuses.file; read = refuses.read; left = refuses.left; silent = refl }

  pub flow_unread : (e : Ending) → NotRead e file h h' → Ends e (Some (Flow file trace)) h h' b b
  flow_unread (LustreRefused fault) none = record { finds = refused-file _ none; counts = refl }
  flow_unread LustreTooLong none = record { finds = refused-file _ none; counts = refl }
  flow_unread ReadFault none = record { finds = inl (none, refl); counts = refl }
  flow_unread NoMemory none = record { finds = (none, refl); counts = refl }
  flow_unread _ none = absurd none
