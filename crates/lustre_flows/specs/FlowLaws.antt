-- The laws of flows.
use Rattle.std.specs.Prelude.{◌≡◌, ◌↔◌, ℕ, suc, ◌+◌, Bool, nat_lt, if◌then◌else◌, List, [], ◌∷◌, length, Option, Some, None, ℤ, true, ⊤}
use Rattle.std.specs.List.{AllZip}
use Rattle.lustre_syntax.specs.Tree.{FileTree}
use Rattle.lustre_syntax.specs.Lawful.{IsLawful}
use Rattle.lustre_flows.specs.Values.{value_at}
use Rattle.lustre_flows.specs.Instances.{Instance, Instances, instance, no_calls, more_calls, values_in, is_complete}
use Rattle.lustre_flows.specs.Ticks.{done, last_node, Gets, fresh_root, root_pass, settled, stuck_place, tick, inside}

-- ---- What stays of an instance

-- the names of instances, by path and place, have ranks
abbrev pub Ranks : Type 0
Ranks = (path : List ℕ) (name : ℕ) → ℕ

-- the values from place k on that pass a test by their places
abbrev pub values_where : (ℕ → Bool) → ℕ → List (Option ℤ) → List (Option ℤ)
values_where test k [] = []
values_where test k (v ∷ vs) = (if test k then v else None) ∷ values_where test (k + 1) vs

-- an instance with the values of those names alone that have a rank below n
abbrev mutual
  pub below : Ranks → ℕ → Instance → Instance
  below ranks n (instance values calls) =
      instance (values_where (λ k. nat_lt (ranks [] k) n) 0 values) (all_below ranks n 0 calls)

  pub all_below : Ranks → ℕ → (place : ℕ) → Instances → Instances
  all_below ranks n place no_calls = no_calls
  all_below ranks n place (more_calls first rest) =
      more_calls (below (λ path. ranks (place ∷ path)) n first)
      (all_below ranks n (place + 1) rest)

-- a value that is there is the same in the second place
abbrev pub ValueStays : Option ℤ → Option ℤ → Type 0
ValueStays None w = ⊤
ValueStays (Some v) w = w ≡ Some v

-- each value of the first is one of the second, which has the same form
abbrev pub ValuesStay : List (Option ℤ) → List (Option ℤ) → Type 0
ValuesStay values others = AllZip ValueStays values others

abbrev mutual
  pub Stays : Instance → Instance → Type 0
  Stays (instance values calls) (instance others further) =
      ValuesStay values others × AllStay calls further

  pub AllStay : Instances → Instances → Type 0
  AllStay no_calls no_calls = ⊤
  AllStay no_calls (more_calls first rest) = ⊥
  AllStay (more_calls first rest) no_calls = ⊥
  AllStay (more_calls first rest) (more_calls other further) =
      Stays first other × AllStay rest further

-- ---- Ticks

-- there is no tick before, or it left each name of the file's instances a value
abbrev pub FollowsWhole : FileTree → Option Instance → Type 0
FollowsWhole f None = ⊤
FollowsWhole f (Some before) =
    (below (λ path k. 0) 0 before ≡ fresh_root f) × (is_complete before ≡ true)

-- a tick of a lawful file, on a number for each input of its last node
pub record IsTickOf (f : FileTree) (before : Option Instance) (row : List ℤ) : Type 0 where
  pub lawful : IsLawful f
  pub inputs : length row ≡ (last_node f).inputs
  pub follows : FollowsWhole f before

-- a name gets one value
abbrev pub OneValueEach : Type 0
OneValueEach =
    (f : FileTree) (before : Option Instance) (row : List ℤ) (path : List ℕ) (k : ℕ) (v w : ℤ) →
    IsTickOf f before row → Gets f before row path k v → Gets f before row path k w → v ≡ w

-- as many passes as there are names give each name its value that gets one
abbrev pub PassesSettle : Type 0
PassesSettle =
    (f : FileTree) (before : Option Instance) (row : List ℤ) (path : List ℕ) (k : ℕ) (v : ℤ) →
    IsTickOf f before row →
    Gets f before row path k v
    ↔ (value_at (values_in (inside path (settled f before row))) k ≡ Some v)

-- a tick is stuck exactly where some name gets no value
abbrev pub StuckExactly : Type 0
StuckExactly =
    (f : FileTree) (before : Option Instance) (row : List ℤ) → IsTickOf f before row →
    (stuck_place f before (settled f before row) ≡ None)
    ↔ (is_complete (settled f before row) ≡ true)

-- ---- Names in an order

-- the names of this instance, each of which has a value, can be ranked so that a pass from
-- those of the lower ranks gives those of the next
pub record IsOrdered (f : FileTree) (before : Option Instance) (row : List ℤ) (e : Instance) :
    Type 0 where
  pub ranks : Ranks
  pub form : below ranks 0 e ≡ fresh_root f
  pub whole : is_complete e ≡ true
  pub next : (n : ℕ) → Stays (below ranks (suc n) e) (root_pass f before row (below ranks n e))

-- then a tick leaves it
abbrev pub OrderedTicksAreDone : Type 0
OrderedTicksAreDone =
    (f : FileTree) (before : Option Instance) (row : List ℤ) (e : Instance) →
    IsTickOf f before row → IsOrdered f before row e → tick f before row ≡ done e
