-- What running a system's code rests on of its schedule: each node is executed after all that it
-- needs, and once.
use Rattle.std.specs.Prelude.{◌≡◌, ◌≢◌, ℕ, ◌<◌, ◌≤◌, Bool, List, [], ◌∷◌, length, slice_get, Contains, IsTrue, IsFalse, Some}
use Rattle.std.specs.List.{range_with_len}
use Rattle.modules_profile.specs.declared.nodes.Node.{Node}
use Rattle.modules_profile.specs.LocalSystem.{LocalSystem}
use Rattle.modules_profile.specs.SystemProfile.{SystemProfile}
use Rattle.modules_profile.specs.LocalNodes.{node_list}
use Rattle.modules_schedule.specs.SystemSchedule.{SystemSchedule}
use Rattle.right_relation.specs.ExecutedNodes.{IsNextNode}
use Rattle.emit_system_spec.specs.Emitted.{IsEmitted}
use Rattle.emit_system_spec.specs.Fields.{shared_groups}
use Rattle.emit_system_spec.specs.Groups.{group_nodes, code_groups}
use Rattle.right_system_ticks.specs.Holding.{called_groups, calls_group, with_node_at, with_nodes_at, executed_in}

-- ---- Orders

-- there is a node at this place, all that it needs was executed, and the node itself was not
pub record IsNextAt (local : LocalSystem) (executed : Node → Bool) (n : ℕ) : Type 0 where
  pub node : Node
  pub at : slice_get (node_list local) n ≡ Some node
  pub next : IsNextNode local executed node

-- so it is with each of these, one after another
abbrev pub AreNext : LocalSystem → (Node → Bool) → List ℕ → Type 0
AreNext local executed [] = Unit {0}
AreNext local executed (n ∷ nodes) = IsNextAt local executed n × AreNext local
    (with_node_at local executed n) nodes

-- the groups of a function that are called before a group were executed
abbrev pub AreDoneBefore : SystemSchedule → (ℕ → Bool) → (j g : ℕ) → Type 0
AreDoneBefore schedule done j g =
    (i : ℕ) → i < g → IsTrue (calls_group schedule j i) → IsTrue (done i)

-- all groups that functions call were executed
abbrev pub AreAllDone : SystemProfile → SystemSchedule → (ℕ → Bool) → Type 0
AreAllDone profile schedule done =
    (j g : ℕ) → 0 < j → j ≤ length profile.functions → IsTrue (calls_group schedule j g) →
    IsTrue (done g)

-- each of these is less than those after it
abbrev pub AreRising : List ℕ → Type 0
AreRising [] = Unit {0}
AreRising (g ∷ groups) = ((i : ℕ) → Contains groups i → g < i) × AreRising groups

-- ---- Laws

-- the nodes of a group that wasn't executed can be executed in order, where the groups before it in
-- a function were
abbrev pub GroupsAreNext : Type 0
GroupsAreNext = (local : LocalSystem) (profile : SystemProfile) (schedule : SystemSchedule) →
    IsEmitted local profile schedule →
    (j g : ℕ) (done : ℕ → Bool) → 0 < j → j ≤ length profile.functions →
    IsTrue (calls_group schedule j g) → IsFalse (done g) →
    AreDoneBefore schedule done j g →
    AreNext local (executed_in local schedule done) (group_nodes schedule g)

-- those of the update can where all groups were, and then all nodes were executed
pub record EndsTick (local : LocalSystem) (schedule : SystemSchedule) (executed : Node → Bool)
    : Type 0 where
  pub are_next : AreNext local executed schedule.update
  pub all : (x : Node) → Contains (node_list local) x →
      IsTrue (with_nodes_at local executed schedule.update x)

abbrev pub UpdatesEndTicks : Type 0
UpdatesEndTicks = (local : LocalSystem) (profile : SystemProfile) (schedule : SystemSchedule) →
    IsEmitted local profile schedule →
    (done : ℕ → Bool) → AreAllDone profile schedule done →
    EndsTick local schedule (executed_in local schedule done)

-- Groups with nodes are the first, each function calls some of them by rising number, there are as
-- many functions as in the profile, and a group that two of them call has a counter.
pub record HasGroups (profile : SystemProfile) (schedule : SystemSchedule) : Type 0 where
  pub functions : length schedule.functions ≡ length profile.functions
  pub first : code_groups schedule ≡ range_with_len 0 (length (code_groups schedule))
  pub called : (j g : ℕ) → 0 < j → j ≤ length profile.functions →
      Contains (called_groups schedule j) g → g < length (code_groups schedule)
  pub rising : (j : ℕ) → 0 < j → j ≤ length profile.functions → AreRising (called_groups schedule j)
  pub shared : (i j g : ℕ) → 0 < i → i ≤ length profile.functions → 0 < j →
      j ≤ length profile.functions → i ≢ j →
      IsTrue (calls_group schedule i g) → IsTrue (calls_group schedule j g) →
      Contains (shared_groups schedule) g

abbrev pub GroupsStandFirst : Type 0
GroupsStandFirst = (local : LocalSystem) (profile : SystemProfile) (schedule : SystemSchedule) →
    IsEmitted local profile schedule → HasGroups profile schedule
