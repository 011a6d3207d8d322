-- How a call may end that makes a model by rule: what was found, what was written and what was printed.
use Rattle.std.specs.Prelude.{◌≡◌, ℕ, ◌⊎◌, List, Option}
use Rattle.std.specs.Io.KnownBytes.{append_known}
use Rattle.base_refusals.specs.Refusals.{PlainRefusal, plain_refusal}
use Rattle.base_host.specs.Faults.{Rose}
use Rattle.base_host.specs.Files.{File, add_file, PutsFront, WritesFront}
use Rattle.diagram_meaning.specs.ResolvedTable.{diagram_of_table}
use Rattle.diagram_verdict.specs.Verdict.{HasVerdict, Refused as IsRefused}
use Rattle.tool_compiled.specs.Compilation.{Compilation, root_types, IsCompiledFrom}
use Rattle.tool_generator.specs.Models.{model_text, trace_text}
use Rattle.tool_endings.specs.declared.ending.Ending.{Ending}
use Rattle.tool_endings.specs.declared.ending.Ending.TheVariants.{Ran, Refused, WriteFault, PutFault, NoMemory}
use Rattle.tool_endings.specs.Texts.{compiled_line}
use Rattle.tool_endings.specs.Told.{HostTold, SinkTold, ReadsNone, NoFault, with_file}
use Rattle.tool_endings.specs.Runs.{RunsTo}
use Rattle.tool_endings.specs.EndingsOfModels.{PutsNothing, LeavesHost}
use Rattle.tool_endings.specs.EndingsOfRuns.{WritesWhole}

-- ---- The two files, and the line of the compilation

-- the model is accepted, and its text written whole, and then right code for it
abbrev pub WritesBoth : (start size : ℕ) → (model code : List ℕ) → HostTold → HostTold → Type 0
WritesBoth start size model code h h' =
    let text = model_text start size in WritesWhole code text (with_file h model text) h'

-- a front of the first file was written, or it whole and a front of the second
abbrev pub WritesFrontOfTwo : (old new : Option (List File)) (first text second code : List ℕ) →
    Type 0
WritesFrontOfTwo old new first text second code =
    WritesFront old new first text ⊎ WritesFront (add_file old first text) new second code

-- the model was compiled, and a front of its text and its code written
pub record WritesFronts (start size : ℕ) (model code : List ℕ) (h h' : HostTold) : Type 0 where
  pub compilation : Compilation
  pub right : IsCompiledFrom (model_text start size) compilation
  pub front : WritesFrontOfTwo h.written h'.written model
      (model_text start size) code compilation.code

-- the line of a compilation's counts
abbrev pub line_of : Compilation → List ℕ
line_of c = compiled_line c.rows c.systems c.functions

-- the sink with that line printed
abbrev pub with_line : SinkTold → Compilation → SinkTold
with_line b c = record b { bytes = append_known b.bytes (line_of c) }

-- ---- Endings

-- both files were written whole, and after the compiled line the code was run over the trace that
-- is made with the model
pub record RunsMade (e : Ending) (start size : ℕ) (model code : List ℕ) (h h' : HostTold)
    (b b' : SinkTold) : Type 0 where
  pub both : WritesBoth start size model code h h'
  pub runs : let types = root_types (diagram_of_table both.resolved) in
      RunsTo e both.right.code.program types (trace_text start size)
      (with_line b both.compilation) b'
  pub no_fault : NoFault h h'

-- both files were written whole, and a front of the compiled line printed
pub record CutsLine (start size : ℕ) (model code : List ℕ) (h h' : HostTold)
    (b b' : SinkTold) : Type 0 where
  pub both : WritesBoth start size model code h h'
  pub front : PutsFront b.bytes b'.bytes (line_of both.compilation)
  pub no_fault : NoFault h h'

-- the rules refuse the model, no file was opened, and nothing was written
pub record RefusesMade (refusal : PlainRefusal) (start size : ℕ) (h h' : HostTold) : Type 0 where
  pub verdict : HasVerdict (model_text start size) (IsRefused refusal)
  pub unread : ReadsNone h h'
  pub left : LeavesHost h h'

pub record FailsWriting (start size : ℕ) (model code : List ℕ) (h h' : HostTold) : Type 0 where
  pub rose : Rose h.write_faults h'.write_faults
  pub fronts : WritesFronts start size model code h h'

-- memory ran out before anything was written, or after both files, with nothing printed or the
-- compiled line
pub record StopsMaking (start size : ℕ) (model code : List ℕ) (h h' : HostTold)
    (b b' : SinkTold) : Type 0 where
  pub made : ((h'.written ≡ h.written) × PutsNothing b b')
      ⊎ ((both : WritesBoth start size model code h h')
      × (PutsNothing b b' ⊎ (b' ≡ with_line b both.compilation)))
  pub no_fault : NoFault h h'

abbrev pub EndsGenerating : Ending → (start size : ℕ) → (model code : List ℕ) → HostTold →
    HostTold → SinkTold → SinkTold → Type 0
EndsGenerating (Ran totals) start size model code h h' b b' =
    RunsMade (Ran totals) start size model code h h' b b'
EndsGenerating PutFault start size model code h h' b b' =
    CutsLine start size model code h h' b b' ⊎ RunsMade PutFault start size model code h h' b b'
EndsGenerating (Refused refusal) start size model code h h' b b' =
    RefusesMade (plain_refusal refusal) start size h h' × PutsNothing b b'
EndsGenerating WriteFault start size model code h h' b b' =
    FailsWriting start size model code h h' × PutsNothing b b'
EndsGenerating NoMemory start size model code h h' b b' =
    StopsMaking start size model code h h' b b'
EndsGenerating _ start size model code h h' b b' = ⊥
