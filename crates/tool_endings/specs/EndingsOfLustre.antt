-- How a call may end that writes a model as Lustre: what was found, and what was written.
use Rattle.std.specs.Prelude.{◌≡◌, ℕ, ◌⊎◌, List, length, Some, None}
use Rattle.base_core.specs.declared.base.Place.{Place}
use Rattle.base_refusals.specs.Refusals.{plain_refusal}
use Rattle.base_host.specs.Faults.{Rose}
use Rattle.base_host.specs.Files.{add_file, WritesFront}
use Rattle.diagram_meaning.specs.ResolvedTable.{ResolvedTable, diagram_of_table}
use Rattle.diagram_verdict.specs.Verdict.{HasVerdict, Accepted}
use Rattle.lustre_right.specs.LongDelays.{long_delay}
use Rattle.lustre_right.specs.Right.{IsRightText}
use Rattle.tool_endings.specs.declared.ending.Ending.{Ending}
use Rattle.tool_endings.specs.declared.ending.Ending.TheVariants.{Noded, Refused, LustreLong, ReadFault, WriteFault, NoMemory}
use Rattle.tool_endings.specs.Told.{HostTold, ReadsAlone, NoFault}
use Rattle.tool_endings.specs.EndingsOfModels.{OnBytes, LeavesHost, EndsRefused, EndsReadFault}

-- ---- A file of a model

-- the rules accept the model, none of its delays is too long, and the bytes are a right file for it,
-- which has so many nodes
pub record IsLustreFrom (model bytes : List ℕ) (nodes : ℕ) : Type 0 where
  pub resolved : ResolvedTable
  pub verdict : HasVerdict model (Accepted resolved)
  pub short : long_delay (diagram_of_table resolved) ≡ None
  pub right : IsRightText bytes (diagram_of_table resolved)
  pub count : nodes ≡ length right.file.nodes

-- such a file of so many nodes was written whole
abbrev pub WritesLustre : (nodes : ℕ) → (file model : List ℕ) → HostTold → HostTold → Type 0
WritesLustre nodes file model h h' =
    (bytes : List ℕ) × IsLustreFrom model bytes nodes
    × (h'.written ≡ add_file h.written file bytes)

-- a front of one was written, or no file
abbrev pub WritesLustreFront : (file model : List ℕ) → HostTold → HostTold → Type 0
WritesLustreFront file model h h' =
    (bytes : List ℕ) × (nodes : ℕ) × IsLustreFrom model bytes nodes
    × WritesFront h.written h'.written file bytes

-- the rules accept the model, and this delay of it is the first that is too long
abbrev pub HasLongDelay : Place → List ℕ → Type 0
HasLongDelay place model =
    (r : ResolvedTable) × HasVerdict model (Accepted r)
    × (long_delay (diagram_of_table r) ≡ Some place)

-- ---- Endings

pub record EndsNoded (nodes : ℕ) (model_name file_name : List ℕ) (h h' : HostTold) : Type 0 where
  pub model : OnBytes h model_name (λ bytes. WritesLustre nodes file_name bytes h h')
  pub read : ReadsAlone model_name h h'
  pub no_fault : NoFault h h'

pub record EndsLong (place : Place) (model_name : List ℕ) (h h' : HostTold) : Type 0 where
  pub model : OnBytes h model_name (HasLongDelay place)
  pub read : ReadsAlone model_name h h'
  pub left : LeavesHost h h'

pub record EndsLustreCut (model_name file_name : List ℕ) (h h' : HostTold) : Type 0 where
  pub rose : Rose h.write_faults h'.write_faults
  pub model : OnBytes h model_name (λ bytes. WritesLustreFront file_name bytes h h')
  pub read : ReadsAlone model_name h h'

-- memory may run out before anything is written, and after the file is
pub record EndsLustreForgotten (model file : List ℕ) (h h' : HostTold) : Type 0 where
  pub written : (h'.written ≡ h.written)
      ⊎ OnBytes h model (λ bytes. WritesLustreFront file bytes h h')
  pub no_fault : NoFault h h'

abbrev pub EndsLustre : Ending → (model file : List ℕ) → HostTold → HostTold → Type 0
EndsLustre (Noded nodes) model file h h' = EndsNoded nodes model file h h'
EndsLustre (Refused refusal) model file h h' = EndsRefused (plain_refusal refusal) model h h'
EndsLustre (LustreLong place) model file h h' = EndsLong place model h h'
EndsLustre ReadFault model file h h' = EndsReadFault model h h'
EndsLustre WriteFault model file h h' = EndsLustreCut model file h h'
EndsLustre NoMemory model file h h' = EndsLustreForgotten model file h h'
EndsLustre _ model file h h' = ⊥
