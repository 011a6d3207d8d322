-- The flows of a file over a trace.
use Rattle.std.specs.Prelude.{ℕ, ℤ, List, [], ◌∷◌, map, slice_index_or, Option, Some, None}
use Rattle.lustre_syntax.specs.Tree.{FileTree}
use Rattle.lustre_flows.specs.declared.stuck.LusStuck.{LusStuck}
use Rattle.lustre_flows.specs.Values.{value_at}
use Rattle.lustre_flows.specs.Instances.{Instance, no_instance, values_in}
use Rattle.lustre_flows.specs.Ticks.{Tick, done, stuck, tick, root_outputs, inside}

-- what a file gives over a trace: the instances that each tick leaves, and the place where one is
-- stuck, if one is
pub record Flows : Type 0 where
  pub ticks : List Instance
  pub stuck_place : Option LusStuck

-- the flows with one more tick before them
abbrev pub with_tick : Instance → Flows → Flows
with_tick left later = record { ticks = left ∷ later.ticks; stuck_place = later.stuck_place }

-- the flows from a tick on, or none where that is stuck
abbrev pub flows_after : Tick → (Instance → Flows) → Flows
flows_after (done left) go = with_tick left (go left)
flows_after (stuck at) go = record { ticks = []; stuck_place = Some at }

-- the flows over the rest of a trace
abbrev pub flows_from : FileTree → List (List ℤ) → Option Instance → Flows
flows_from f [] before = record { ticks = []; stuck_place = None }
flows_from f (row ∷ rows) before =
    flows_after (tick f before row) (λ left. flows_from f rows (Some left))

-- the flows of a file over a trace
abbrev pub flows : FileTree → List (List ℤ) → Flows
flows f rows = flows_from f rows None

-- the outputs of the last node by tick
abbrev pub outputs : FileTree → List (List ℤ) → List (List ℤ)
outputs f rows = map (root_outputs f) (flows f rows).ticks

-- the value of a name of the instance at a path, at a tick
abbrev pub flow_at : FileTree → List (List ℤ) → (t : ℕ) (path : List ℕ) (name : ℕ) → Option ℤ
flow_at f rows t path k =
    value_at (values_in (inside path (slice_index_or (flows f rows).ticks t no_instance))) k
