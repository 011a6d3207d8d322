-- What code adds in a tick: its own steps, those of the children's procedures, its log, its stores,
-- and what it does to each child.
use Rattle.std.specs.Prelude.{ℕ, ◌+◌, Bool, ◌==◌, if◌then◌else◌, List, [], ◌∷◌, ◌++◌, map}
use Rattle.c_semantics.specs.Machine.{LoggedCall, call_under}
use Rattle.right_relation.specs.Instances.{Act, InstanceTick}
use Rattle.right_relation.specs.NodeStatements.{nothing_stored, stored_inside}

-- The most steps of the own code and of the children's, the exact log, how often each field is
-- stored at most, and the acts on the child at each place, in order.
pub record Account : Type 0 where
  pub steps : ℕ
  pub inner : ℕ
  pub log : List LoggedCall
  pub stored : List ℕ → ℕ → ℕ
  pub acts : ℕ → List Act

abbrev pub no_acts : ℕ → List Act
no_acts k = []

-- so many steps, in which nothing is stored
abbrev pub takes_steps : ℕ → Account
takes_steps n = record { steps = n; inner = 0; log = []; stored = nothing_stored; acts = no_acts }

abbrev pub nothing_done : Account
nothing_done = takes_steps 0

-- so many steps with these stores
abbrev pub stores : ℕ → (List ℕ → ℕ → ℕ) → Account
stores n stored = record { steps = n; inner = 0; log = []; stored = stored; acts = no_acts }

-- the call of a procedure of the child at place k, whose field is at f and of which these
-- were called
abbrev pub calls_child : ℕ → (f k : ℕ) → InstanceTick → (ℕ → Bool) → Act → Account
calls_child n f k i called act = record {
  steps = n;
  inner = i.most called act;
  log = map (call_under f) (i.log called act);
  stored = stored_inside f (i.stored called act);
  acts = λ place. if place == k then act ∷ [] else [];
}

-- one after the other
abbrev pub and_then : Account → Account → Account
and_then a b = record {
  steps = a.steps + b.steps;
  inner = a.inner + b.inner;
  log = a.log ++ b.log;
  stored = λ path field. a.stored path field + b.stored path field;
  acts = λ k. a.acts k ++ b.acts k;
}

abbrev pub all_of : List Account → Account
all_of [] = nothing_done
all_of (a ∷ accounts) = and_then a (all_of accounts)
