-- The verdict on a file: its first refusal, or the resolved table of its model.
use Rattle.std.specs.Prelude.{◌≡◌, ℕ, ◌⊎◌, List, map, None, Some}
use Rattle.base_core.specs.declared.Place.{Place}
use Rattle.base_refusals.specs.Refusals.{PlainRefusal, Loop}
use Rattle.diagram_meaning.specs.declared.table.Row.{Row}
use Rattle.diagram_meaning.specs.RowTable.{RowTable}
use Rattle.diagram_meaning.specs.Rows.{row_at}
use Rattle.diagram_meaning.specs.Diagram.{Diagram}
use Rattle.diagram_meaning.specs.ResolvedTable.{ResolvedTable, diagram_of_table, IsResolvedTable}
use Rattle.diagram_meaning.specs.TypeRefusals.{type_refusal}
use Rattle.diagram_meaning.specs.TimeRefusals.{HasTimeRefusal}
use Rattle.diagram_meaning.specs.DelayRefusals.{delay_refusal}
use Rattle.diagram_meaning.specs.Needs.{needs_of, HasNoLoop, IsLeastLoop}
use Rattle.diagram_verdict.specs.Files.{HasFileVerdict, IsModelWith}
use Rattle.diagram_verdict.specs.Files as file

-- the bytes are the text of a model with this table and its types, operations and sample times,
-- with which nothing is wrong
abbrev pub IsModelOf : List ℕ → ResolvedTable → Type 0
IsModelOf bytes r = IsModelWith bytes r.table × IsResolvedTable r

-- ---- Refusals after those of the text and of the tree: of types, of sample times, of a loop, of
-- the delays together

-- the rows of the model are refused so for their types
abbrev pub IsIllTyped : List ℕ → PlainRefusal → Type 0
IsIllTyped bytes refusal =
    (table : RowTable) × IsModelWith bytes table × (type_refusal table.rows ≡ Some refusal)

-- nothing is wrong with their types, and they are refused so for their sample times
abbrev pub IsIllTimed : List ℕ → PlainRefusal → Type 0
IsIllTimed bytes refusal =
    (table : RowTable) × IsModelWith bytes table × (type_refusal table.rows ≡ None)
    × HasTimeRefusal table (Some refusal)

-- the places of the rows of these numbers
abbrev pub places_of : List Row → List ℕ → List Place
places_of rows numbers = map (λ b. (row_at rows b).place) numbers

-- rows of the diagram need each other at one tick, and the refusal reports their loop
abbrev pub TellsLoop : Diagram → PlainRefusal → Type 0
TellsLoop d refusal =
    (loop : List ℕ) × IsLeastLoop (needs_of d) loop × (refusal ≡ Loop (places_of d.rows loop))

-- the same of the model
abbrev pub IsLooping : List ℕ → PlainRefusal → Type 0
IsLooping bytes refusal =
    (r : ResolvedTable) × IsModelOf bytes r × TellsLoop (diagram_of_table r) refusal

-- the bytes are the text of a model of which no rows form a loop
abbrev pub IsLoopFree : List ℕ → ResolvedTable → Type 0
IsLoopFree bytes r = IsModelOf bytes r × HasNoLoop (needs_of (diagram_of_table r))

-- no rows of the model form a loop, and its delays are refused so, which together remember too many
-- samples
abbrev pub HasLongDelays : List ℕ → PlainRefusal → Type 0
HasLongDelays bytes refusal =
    (r : ResolvedTable) × IsLoopFree bytes r × (delay_refusal r.table.rows ≡ Some refusal)

-- ---- The verdict

pub data Verdict : Type 0 where
  Refused : PlainRefusal → Verdict
  Accepted : (resolved : ResolvedTable) → Verdict

-- the bytes are the text of a model with this table, which has no loop, and no delays that remember
-- too much
pub record IsAccepted (bytes : List ℕ) (r : ResolvedTable) : Type 0 where
  pub model : IsModelOf bytes r
  pub no_loop : HasNoLoop (needs_of (diagram_of_table r))
  pub short_delays : delay_refusal r.table.rows ≡ None

abbrev pub HasVerdict : List ℕ → Verdict → Type 0
HasVerdict bytes (Refused refusal) =
    HasFileVerdict bytes (file.Refused refusal) ⊎ IsIllTyped bytes refusal
    ⊎ IsIllTimed bytes refusal ⊎ IsLooping bytes refusal
    ⊎ HasLongDelays bytes refusal
HasVerdict bytes (Accepted r) = IsAccepted bytes r

-- the file has one verdict and no other
abbrev pub HasOneVerdict : List ℕ → Type 0
HasOneVerdict bytes = (verdict : Verdict) × HasVerdict bytes verdict
    × ((other : Verdict) → HasVerdict bytes other → other ≡ verdict)
