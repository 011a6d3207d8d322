-- The search for the values of slots.
use Rattle.std.specs.Prelude.{◌≡◌, ◌≢◌, ◌⊎◌, ℕ, ◌+◌, ◌*◌, ◌<◌, ◌≤◌, ℤ, Bool, true, false, List, [], ◌∷◌, length, nat_lt, slice_get, slice_index, slice_index_or, Option, Some, None}
use Rattle.lustre_syntax.specs.Plain.{file_tree}
use Rattle.lustre_flows.specs.Values.{Outcome, value_of, value_at}
use Rattle.lustre_flows.specs.FlowLaws.{ValuesStay}
use Rattle.lustre_slot_laws.specs.Outcomes.{outcome, source_at}
use Rattle.lustre_evaluation.specs.declared.frames.Frame.{Frame}
use Rattle.lustre_evaluation.specs.Views.{before_by}
use Rattle.lustre_solver.specs.declared.search.Search.{Search}

-- what a slot comes to where slots have these values
abbrev pub comes : Frame → List (Option ℤ) → ℕ → Outcome
comes frame now slot =
    outcome (file_tree frame.file.now) (before_by frame.begun frame.before.now) now slot
    (source_at frame.sources.now slot)

-- each slot has the value to which it comes, if any
abbrev pub Solves : Frame → List (Option ℤ) → Type 0
Solves frame now = (slot : ℕ) → value_at now slot ≡ value_of (comes frame now slot)

-- a search: the values so far, the slots that were tried, and those that wait, each for the next one
pub record Searching : Type 0 where
  pub now : List (Option ℤ)
  pub tried : List Bool
  pub waiting : List ℕ
  pub depth : ℕ

abbrev pub searching : Search → Searching
searching s = record { now = s.values.items; tried = s.tried.items; waiting = s.waiting.items; depth = s.depth }

-- whether a slot was tried; one that is not there counts as tried
abbrev pub was_tried : List Bool → ℕ → Bool
was_tried tried slot = slice_index_or tried slot true

-- how many were not
abbrev pub untried : List Bool → ℕ
untried [] = 0
untried (true ∷ rest) = untried rest
untried (false ∷ rest) = untried rest + 1

-- the slot that waits at a place
abbrev pub waits_at : Searching → ℕ → ℕ
waits_at s i = slice_index s.waiting i

-- with more values, a slot gets none as long as another one has none
abbrev pub WaitsOn : Frame → List (Option ℤ) → (slot other : ℕ) → Type 0
WaitsOn frame now slot other =
    (later : List (Option ℤ)) → ValuesStay now later → value_at later other ≡ None →
    value_of (comes frame later slot) ≡ None

-- a slot is among those that wait
abbrev pub IsWaiting : Searching → ℕ → Type 0
IsWaiting s slot = (i : ℕ) × (i < s.depth) × (waits_at s i ≡ slot)

-- a slot waits for one that gets no value any more
pub record IsHeld (frame : Frame) (s : Searching) (slot : ℕ) : Type 0 where
  pub other : ℕ
  pub waits : WaitsOn frame s.now slot other
  pub tried : was_tried s.tried other ≡ true
  pub none : value_at s.now other ≡ None
  pub apart : (i : ℕ) → i < s.depth → waits_at s i ≢ other

-- there is room for so many slots
pub record HasRoom (slots : ℕ) (s : Searching) : Type 0 where
  pub now : length s.now ≡ slots
  pub tried : length s.tried ≡ slots
  pub waiting : length s.waiting ≡ slots

-- the first slots have the values of a row, no other one was tried, and none waits
pub record IsStarted (row : List ℤ) (s : Searching) : Type 0 where
  pub given : (slot : ℕ) → slot < length s.now → value_at s.now slot ≡ slice_get row slot
  pub tried : (slot : ℕ) → slot < length s.now → was_tried s.tried slot ≡ nat_lt slot (length row)
  pub idle : s.depth ≡ 0

-- what a search keeps: a slot without a value that was tried waits, or is held for good
pub record IsSearch (frame : Frame) (s : Searching) : Type 0 where
  pub sources : length frame.sources.now ≡ length s.now
  pub size_tried : length s.tried ≡ length s.now
  pub size_waiting : length s.waiting ≡ length s.now
  pub room : s.depth + untried s.tried ≤ length s.now
  pub kept : (slot : ℕ) (v : ℤ) → value_at s.now slot ≡ Some v →
      value_of (comes frame s.now slot) ≡ Some v
  pub fresh : (slot : ℕ) → was_tried s.tried slot ≡ false → value_at s.now slot ≡ None
  pub waiting_there : (i : ℕ) → i < s.depth → waits_at s i < length s.now
  pub waiting_tried : (i : ℕ) → i < s.depth → was_tried s.tried (waits_at s i) ≡ true
  pub waiting_none : (i : ℕ) → i < s.depth → value_at s.now (waits_at s i) ≡ None
  pub apart : (i j : ℕ) → i < j → j < s.depth → waits_at s i ≢ waits_at s j
  pub chain : (i : ℕ) → i + 1 < s.depth → WaitsOn frame s.now (waits_at s i) (waits_at s (i + 1))
  pub held : (slot : ℕ) → slot < length s.now → was_tried s.tried slot ≡ true →
      value_at s.now slot ≡ None → IsWaiting s slot ⊎ IsHeld frame s slot

-- a search goes on: it keeps what there is, and adds no value that not each solution has
pub record GoesOn (frame : Frame) (before after : Searching) : Type 0 where
  pub stays : ValuesStay before.now after.now
  pub least : (s : List (Option ℤ)) → Solves frame s → ValuesStay before.now s →
      ValuesStay after.now s
  pub tried : (slot : ℕ) → was_tried before.tried slot ≡ true → was_tried after.tried slot ≡ true

-- what is left to do
abbrev pub work : Searching → ℕ
work s = 2 * untried s.tried + s.depth
