-- What slots come to at a tick.
use Rattle.std.specs.Prelude.{◌≡◌, ℕ, ℤ, List, take, drop, length, slice_get, slice_index_or, Option, Some, None, option_map, option_and_then}
use Rattle.lustre_syntax.specs.Tree.{ExprTree, expressions_of, node_at, FileTree}
use Rattle.lustre_flows.specs.Values.{Outcome, waits, value_of, value_at, read, evaluate}
use Rattle.lustre_slots.specs.declared.placed.Placed.{Placed}
use Rattle.lustre_slots.specs.declared.placed.Source.{Source}
use Rattle.lustre_slots.specs.declared.placed.Source.TheVariants.{Row, Expression, Slot}
use Rattle.lustre_slots.specs.Sources.{sources_of}

-- the values of the names of an instance
abbrev pub names_of : FileTree → Placed → List (Option ℤ) → List (Option ℤ)
names_of f p values = take (length (node_at f.nodes p.node).names) (drop p.base values)

-- an expression by the positions of its node, its equation and itself
abbrev pub expression_at : FileTree → (node equation expression : ℕ) → Option ExprTree
expression_at f node equation expression =
    option_and_then (λ e. slice_get (expressions_of e) expression)
    (slice_get (node_at f.nodes node).equations equation)

-- what an expression comes to, where it is there
abbrev pub outcome_of : (before : Option (List (Option ℤ))) → List (Option ℤ) → Option ExprTree → Outcome
outcome_of before values None = waits
outcome_of before values (Some e) = evaluate before values e

-- what a slot comes to by its source: `before` has the values of the tick before, none at the first
module _ (f : FileTree) (before : Option (List (Option ℤ))) (now : List (Option ℤ)) where
  abbrev pub outcome : (slot : ℕ) → Source → Outcome
  outcome slot Row = read (value_at now slot)
  outcome slot (Expression p i k) =
      outcome_of (option_map (names_of f p) before) (names_of f p now) (expression_at f p.node i k)
  outcome slot (Slot other) = read (value_at now other)

  -- it has the value to which it comes, if any
  abbrev pub Keeps : (slot : ℕ) → Source → Type 0
  Keeps slot source = value_at now slot ≡ value_of (outcome slot source)

-- the source of a slot
abbrev pub source_at : List Source → ℕ → Source
source_at sources slot = slice_index_or sources slot Row

-- each slot of a file has the value to which it comes, if any
abbrev pub AllKeep : FileTree → (before : Option (List (Option ℤ))) → List (Option ℤ) → Type 0
AllKeep f before now = (slot : ℕ) → Keeps f before now slot (source_at (sources_of f) slot)
