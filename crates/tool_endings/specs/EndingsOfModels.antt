-- How a call may end that reads a model: what was found, and what was written.
use Rattle.std.specs.Prelude.{◌≡◌, ℕ, ◌⊎◌, List, false}
use Rattle.std.specs.Io.KnownBytes.{IsAtEnd}
use Rattle.base_refusals.specs.Refusals.{PlainRefusal, plain_refusal}
use Rattle.base_host.specs.Faults.{Rose}
use Rattle.base_host.specs.Files.{OnFile, add_file, WritesFront}
use Rattle.base_host.specs.Reading.{RoseBy, StopsReading}
use Rattle.diagram_verdict.specs.Verdict.{HasVerdict, Refused as IsRefused}
use Rattle.tool_compiled.specs.Compilation.{Compilation, IsCompiledFrom}
use Rattle.modules_interfaces.specs.Interfaces.{IsReportOf}
use Rattle.tool_endings.specs.declared.ending.Ending.{Ending}
use Rattle.tool_endings.specs.declared.ending.Ending.TheVariants.{Compiled, Reported, Refused, ReadFault, WriteFault, NoMemory}
use Rattle.tool_endings.specs.Told.{HostTold, SinkTold, source_of, ReadsAlone, NoFault}

-- ---- Models and their code

-- P holds of the bytes of the file of this name, where the host reports its files
abbrev pub OnNamed : HostTold → List ℕ → (List ℕ → Type 0) → Type 0
OnNamed h name P = OnFile h.files h.rest name P

-- P holds of some bytes, which are those of the file of this name where the host reports its files
pub record OnBytes (h : HostTold) (name : List ℕ) (P : List ℕ → Type 0) : Type 0 where
  pub bytes : List ℕ
  pub file : OnNamed h name (λ told. told ≡ bytes)
  pub holds : P bytes

-- the model was compiled, with these counts, and the code written whole
abbrev pub WritesCode : (rows systems functions : ℕ) → (code model : List ℕ) → HostTold → HostTold →
    Type 0
WritesCode rows systems functions code model h h' =
    (c : Compilation) × IsCompiledFrom model c × (c.rows ≡ rows) × (c.systems ≡ systems)
    × (c.functions ≡ functions)
    × (h'.written ≡ add_file h.written code c.code)

-- the model was compiled, and a front of the code written, or no file
abbrev pub WritesCodeFront : (code model : List ℕ) → HostTold → HostTold → Type 0
WritesCodeFront code model h h' =
    (c : Compilation) × IsCompiledFrom model c × WritesFront h.written h'.written code c.code

-- nothing was printed, and no error of printing counted
abbrev pub PutsNothing : (b b' : SinkTold) → Type 0
PutsNothing b b' = b' ≡ b

-- a file couldn't be opened: nothing is left to read, all that was read are so many bytes of files
-- before it, and nothing was printed
pub record OpensNothing (before : ℕ) (h h' : HostTold) (b b' : SinkTold) : Type 0 where
  pub end : IsAtEnd h'.rest
  pub given : RoseBy before h.given h'.given
  pub silent : PutsNothing b b'

-- the host has written nothing, and no error was counted
pub record LeavesHost (h h' : HostTold) : Type 0 where
  pub written : h'.written ≡ h.written
  pub no_fault : NoFault h h'

pub record EndsCompiled (rows systems functions : ℕ) (model_name code_name : List ℕ)
    (h h' : HostTold) : Type 0 where
  pub model : OnBytes h model_name (λ bytes. WritesCode rows systems functions code_name bytes h h')
  pub read : ReadsAlone model_name h h'
  pub no_fault : NoFault h h'

pub record EndsRefused (refusal : PlainRefusal) (name : List ℕ) (h h' : HostTold) : Type 0 where
  pub model : OnBytes h name (λ bytes. HasVerdict bytes (IsRefused refusal))
  pub read : ReadsAlone name h h'
  pub written : h'.written ≡ h.written
  pub no_fault : NoFault h h'

-- the first file that is read is this one
pub record EndsReadFault (name : List ℕ) (h h' : HostTold) : Type 0 where
  pub rose : Rose h.read_faults h'.read_faults
  pub unsure : h.sure name ≡ false
  pub stopped : StopsReading h.files name (source_of h) (source_of h')
  pub written : h'.written ≡ h.written

pub record EndsWriteFault (model_name code_name : List ℕ) (h h' : HostTold) : Type 0 where
  pub rose : Rose h.write_faults h'.write_faults
  pub model : OnBytes h model_name (λ bytes. WritesCodeFront code_name bytes h h')
  pub read : ReadsAlone model_name h h'

-- memory may run out before anything is written, and after the code is
pub record EndsNoMemory (model code : List ℕ) (h h' : HostTold) : Type 0 where
  pub written : (h'.written ≡ h.written)
      ⊎ OnBytes h model (λ bytes. WritesCodeFront code bytes h h')
  pub no_fault : NoFault h h'

-- ---- Compiling

abbrev pub EndsCompile : Ending → (model code : List ℕ) → HostTold → HostTold → Type 0
EndsCompile (Compiled rows systems functions) model code h h' =
    EndsCompiled rows systems functions model code h h'
EndsCompile (Refused refusal) model code h h' = EndsRefused (plain_refusal refusal) model h h'
EndsCompile ReadFault model code h h' = EndsReadFault model h h'
EndsCompile WriteFault model code h h' = EndsWriteFault model code h h'
EndsCompile NoMemory model code h h' = EndsNoMemory model code h h'
EndsCompile _ model code h h' = ⊥

-- ---- Reporting

-- the text is that of the reports on all systems of the model, and nothing was written
pub record EndsReported (text name : List ℕ) (h h' : HostTold) : Type 0 where
  pub model : OnBytes h name (λ bytes. IsReportOf bytes text)
  pub read : ReadsAlone name h h'
  pub left : LeavesHost h h'

abbrev pub EndsProfiling : Ending → (model : List ℕ) → HostTold → HostTold → Type 0
EndsProfiling (Reported text) model h h' = EndsReported text.items model h h'
EndsProfiling (Refused refusal) model h h' = EndsRefused (plain_refusal refusal) model h h'
EndsProfiling ReadFault model h h' = EndsReadFault model h h'
EndsProfiling NoMemory model h h' = LeavesHost h h'
EndsProfiling _ model h h' = ⊥
