-- Times that spread along the wires: what each row finds, on the way and at the end.
use Rattle.std.specs.Prelude.{◌≡◌, ℕ, ◌<◌, Bool, true, false, List, length, slice_index_or, slice_set, All, Contains, Option, Some, None, ◌⊎◌}
use Rattle.base_graph.specs.NeedsGraph.{NeedsGraph}
use Rattle.base_graph.specs.Reaching.{Reaches}
use Rattle.base_graph.specs.EdgeChains.{from, to}
use Rattle.diagram_meaning.specs.declared.times.Time.{Time}
use Rattle.diagram_meaning.specs.SampleTimes.{Includes, IsSmallest}
use Rattle.diagram_times.specs.Hulls.{Covers, CoversAll, IsWidened}

-- what is found at node b, none past the end
abbrev pub found_at : List (Option Time) → ℕ → Option Time
found_at found b = slice_index_or found b None

-- a node that reaches node b, or b itself, is given this time
abbrev pub Comes : NeedsGraph → List (Option Time) → ℕ → Time → Type 0
Comes g given b time = (a : ℕ) × (a < g.n) × Reaches g a b × (found_at given a ≡ Some time)

-- the smallest time that includes those, or none where there are none
abbrev pub IsFound : (Time → Type 0) → Option Time → Type 0
IsFound Found None = (time : Time) → Found time → ⊥
IsFound Found (Some time) = ((found : Time) × Found found) × IsSmallest Found time

-- for each node what comes to it
pub record AreFound (g : NeedsGraph) (given found : List (Option Time)) : Type 0 where
  pub len : length found ≡ g.n
  pub each : (b : ℕ) → b < g.n → IsFound (Comes g given b) (found_at found b)

-- a time that each one includes which includes all that come, of which there are some
pub record IsWithin (Found : Time → Type 0) (time : Time) : Type 0 where
  pub some : (found : Time) × Found found
  pub smaller : (other : Time) → ((found : Time) → Found found → Includes other found) →
      Includes other time

-- node b takes up what was found at node a: it includes it already, or is widened by it
abbrev pub TakesUp : (old new : List (Option Time)) (a b : ℕ) → Bool → Type 0
TakesUp old new a b false = (new ≡ old) × CoversAll (found_at old b) (found_at old a)
TakesUp old new a b true = (time wider : Time) × (found_at old a ≡ Some time)
    × (new ≡ slice_set old b (Some wider)) × IsWidened (found_at old b) time wider

-- on the way: some nodes wait to be looked at, and of one node the edges from a place on are done
pub record IsSpread (g : NeedsGraph) (given found : List (Option Time)) (waiting : List ℕ)
    (a place : ℕ) : Type 0 where
  pub len : length found ≡ g.n
  pub are_nodes : All (λ b. b < g.n) waiting
  pub begins : (b : ℕ) (time : Time) → b < g.n → found_at given b ≡ Some time →
      Covers (found_at found b) time
  pub comes : (b : ℕ) (time : Time) → b < g.n → found_at found b ≡ Some time →
      IsWithin (Comes g given b) time
  pub settled : (e : ℕ) → e < length g.edges →
      ((from g.edges e ≡ a) × (e < place))
      ⊎ (Contains waiting (from g.edges e)
      ⊎ CoversAll (found_at found (to g.edges e)) (found_at found (from g.edges e)))

-- at one of these nodes this time was found
abbrev pub Among : List (Option Time) → List ℕ → Time → Type 0
Among found nodes time = (c : ℕ) × Contains nodes c × (found_at found c ≡ Some time)
