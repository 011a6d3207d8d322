-- How `exec` ends, by what its parts come to.
use Rattle.std.proofs.Common.{◌≡◌, ℕ, ◌≤◌, ◌⊎◌, inl, inr, List, [], length, refl, sym, subst, ◌∙◌}
use Rattle.std.specs.Prelude.{Some}
use Rattle.base_host.specs.Faults.{Rose}
use Rattle.base_host.specs.Reading.{RoseBy}
use Rattle.c_interpreter.specs.States.{MachineState, tree_of}
use Rattle.tool_endings.specs.declared.ending.Ending.{Ending}
use Rattle.tool_endings.specs.declared.ending.Ending.TheVariants.{Ran, BadTrace, CodeRefused, Stuck as IsStuck, ReadFault, PutFault, NoMemory}
use Rattle.tool_words.specs.Words.{Exec}
use Rattle.tool_endings.specs.Told.{HostTold, SinkTold, ReadsAlone}
use Rattle.tool_endings.specs.Runs.{RunsTo}
use Rattle.tool_endings.specs.EndingsOfModels.{OnNamed, OnBytes, OpensNothing, LeavesHost}
use Rattle.tool_endings.specs.EndingsOfRuns.{ReadsToEnd, TakesFile, code_limit, StartsCode, ExecutesCode, LosesTraceOf, IsStuckAtStart}
use Rattle.tool_endings.specs.Endings.{CountsPuts, Finds, Ends}
use Rattle.tool_endings.specs.Acting.{NotStarted, StartsFrom, RunEnds}
use Rattle.tool_endings.proofs.lemmas.Files.{there}
use Rattle.tool_steps.proofs.lemmas.TwoFiles.{left-twice, on-bytes, lost}

-- the code of this name was read whole, and a machine of it has started
pub record CodeRead (code bytes : List ℕ) (m : MachineState) (h h1 : HostTold) : Type 0 where
  pub whole : OnNamed h code (λ x. bytes ≡ x)
  pub told : OnNamed h code (λ _. h1.rest ≡ Some [])
  pub given : RoseBy (length bytes) h.given h1.given
  pub fits : length bytes ≤ code_limit
  pub starts : StartsFrom bytes m
  pub files : h1.files ≡ h.files
  pub same : LeavesHost h h1

abbrev starts-code : (code bytes : List ℕ) (m : MachineState) (h h1 : HostTold) → CodeRead code bytes m h h1 → StartsCode bytes
starts-code code bytes m h h1 r = record {
  fits = r.fits;
  program = tree_of m;
  reading = r.starts.reading;
  after = r.starts.started.0;
  start = r.starts.started.1;
  types = m.program.inputs;
  inputs = r.starts.inputs;
}

-- what is known of its bytes
of-code : (code bytes : List ℕ) (m : MachineState) (h h1 : HostTold) (P : List ℕ → Type 0) →
    CodeRead code bytes m h h1 → P bytes → OnBytes h code P
of-code code bytes m h h1 P r holds = record { bytes = bytes; file = there h.files h.rest code r.whole (λ x is. sym is); holds = holds }

code-found : (e : Ending) (code trace bytes : List ℕ) (m : MachineState) (h h1 h' : HostTold) (b b' : SinkTold) →
    CodeRead code bytes m h h1 → ReadsToEnd e h' →
    OnBytes h1 trace (λ lines. RunsTo e (tree_of m) m.program.inputs lines b b') →
    OnBytes h code (λ x. ExecutesCode e trace x h h' b b')
code-found e code trace bytes m h h1 h' b b' r end run = of-code code bytes m h h1 (λ x. ExecutesCode e trace x h h' b b') r (record {
  starts = starts-code code bytes m h h1 r;
  runs = on-bytes code trace h h1 (λ lines. RunsTo e (tree_of m) m.program.inputs lines b b')
      (λ lines. RunsTo e (tree_of m) m.program.inputs lines b b') r.told r.files (λ lines runs. runs) run;
  end = end;
})

code-lost : (code trace bytes : List ℕ) (m : MachineState) (h h1 h' : HostTold) (b b' : SinkTold) →
    CodeRead code bytes m h h1 → OpensNothing 0 h1 h' b b' ⊎ TakesFile 0 (tree_of m) m.program.inputs trace h1 h' b b' →
    OnBytes h code (λ x. LosesTraceOf trace x h h' b b')
code-lost code trace bytes m h h1 h' b b' r lines = of-code code bytes m h h1 (λ x. LosesTraceOf trace x h h' b b') r (record {
  starts = starts-code code bytes m h h1 r;
  lines =
      lost code trace (length bytes) h h1 h' b b' (tree_of m) (tree_of m) m.program.inputs m.program.inputs r.told r.files r.given
      (λ taken runs. runs) lines;
})

exec-finds : (e : Ending) (code trace bytes : List ℕ) (m : MachineState) (h h1 h' : HostTold) (b b' : SinkTold) →
    CodeRead code bytes m h h1 → RunEnds e (tree_of m) m.program.inputs trace h1 h' b b' →
    Finds e (Some (Exec code trace)) h h' b b'
exec-finds (Ran totals) code trace bytes m h h1 h' b b' r run =
    record { code = code-found (Ran totals) code trace bytes m h h1 h' b b' r run.end run.lines; left = left-twice h h1 h' r.same run.left }
exec-finds (BadTrace line) code trace bytes m h h1 h' b b' r run =
    record {
      code = code-found (BadTrace line) code trace bytes m h h1 h' b b' r run.end run.lines;
      left = left-twice h h1 h' r.same run.left;
    }
exec-finds (IsStuck at) code trace bytes m h h1 h' b b' r run =
    inr (record {
      code = code-found (IsStuck at) code trace bytes m h h1 h' b b' r run.end run.lines;
      left = left-twice h h1 h' r.same run.left;
    })
exec-finds PutFault code trace bytes m h h1 h' b b' r run =
    record { code = code-found PutFault code trace bytes m h h1 h' b b' r run.end run.lines; left = left-twice h h1 h' r.same run.left }
exec-finds ReadFault code trace bytes m h h1 h' b b' r run =
    inr (
      subst (λ (n : ℕ). Rose n h'.read_faults) r.same.no_fault.read run.rose,
      run.written ∙ r.same.written,
      code-lost code trace bytes m h h1 h' b b' r run.lines,
    )
exec-finds NoMemory code trace bytes m h h1 h' b b' r run = (left-twice h h1 h' r.same run.left, run.silent)
exec-finds _ code trace bytes m h h1 h' b b' r run = absurd run

pub exec_ends : (e : Ending) (code trace bytes : List ℕ) (m : MachineState) (h h1 h' : HostTold) (b b' : SinkTold) →
    CodeRead code bytes m h h1 → RunEnds e (tree_of m) m.program.inputs trace h1 h' b b' → CountsPuts e b b' →
    Ends e (Some (Exec code trace)) h h' b b'
exec_ends e code trace bytes m h h1 h' b b' r run counts =
    record { finds = exec-finds e code trace bytes m h h1 h' b b' r run; counts = counts }

-- that code doesn't start: it is no program, or stuck in its start, or memory ran out
pub exec_unstarted : (e : Ending) (code trace bytes : List ℕ) (h h1 : HostTold) (b : SinkTold) →
    OnNamed h code (λ x. bytes ≡ x) → length bytes ≤ code_limit → ReadsAlone code h h1 → LeavesHost h h1 → NotStarted bytes e →
    Ends e (Some (Exec code trace)) h h1 b b
exec_unstarted NoMemory code trace bytes h h1 b whole fits alone left none = record { finds = (left, refl); counts = refl }
exec_unstarted (CodeRefused fault) code trace bytes h h1 b whole fits alone left none = record {
  finds = record {
    code = record { bytes = bytes; file = there h.files h.rest code whole (λ x is. sym is); holds = (fits, none) };
    read = alone;
    left = left;
    silent = refl;
  };
  counts = refl;
}
exec_unstarted (IsStuck at) code trace bytes h h1 b whole fits alone left none = record {
  finds = inl (record {
    code = record { bytes = bytes; file = there h.files h.rest code whole (λ x is. sym is); holds = stuck-there };
    read = alone;
    left = left;
    silent = refl;
  });
  counts = refl;
}
  where
    stuck-there : IsStuckAtStart at bytes
    stuck-there = record { fits = fits; program = none.0; reading = none.1; cells = none.2.0; start = none.2.1 }
exec_unstarted _ code trace bytes h h1 b whole fits alone left none = absurd none
