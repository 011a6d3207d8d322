-- The schedule of a system's nodes, by its own rows and its profile.
use Rattle.std.specs.Prelude.{◌≡◌, ℕ, List, map, length, unwrap_or}
use Rattle.std.specs.List.{position_from, range_with_len}
use Rattle.base_graph.specs.OneOrder.{IsOrder}
use Rattle.modules_clusters.specs.Clusters.{AreClusters}
use Rattle.modules_clusters.specs.Grouping.{AreGroups}
use Rattle.modules_clusters.specs.NodeGroups.{NodeGroups}
use Rattle.modules_schedule.specs.SystemSchedule.{SystemSchedule}
use Rattle.modules_schedule.specs.Scheduling.{schedule_for}
use Rattle.modules_profile.specs.LocalSystem.{LocalSystem}
use Rattle.modules_profile.specs.SystemProfile.{SystemProfile}
use Rattle.modules_profile.specs.SystemNodes.{SystemNodes}
use Rattle.base_core.specs.Ports.{has_bit}
use Rattle.modules_profile.specs.Locals.{outports}
use Rattle.modules_profile.specs.LocalNodes.{AreNodesOf}

-- the function, from 0, that gives output k
abbrev pub giving_function : SystemProfile → ℕ → ℕ
giving_function profile k =
    unwrap_or (position_from (λ f. has_bit f.outputs k) 0 profile.functions) 0

-- the function that gives each output, by port
abbrev pub giving_functions : LocalSystem → SystemProfile → List ℕ
giving_functions local profile =
    map (giving_function profile) (range_with_len 0 (length (outports local)))

-- the schedule of the system's nodes, in the one order, by the functions of the profile that hold
-- them
pub record IsScheduleOf (local : LocalSystem) (profile : SystemProfile)
    (schedule : SystemSchedule) : Type 0 where
  pub nodes : SystemNodes
  pub are_nodes : AreNodesOf local nodes
  pub clusters : List ℕ
  pub are_clusters : AreClusters nodes.graph nodes.outputs (giving_functions local profile) clusters
  pub groups : NodeGroups
  pub are_groups : AreGroups clusters groups
  pub order : List ℕ
  pub is_order : IsOrder nodes.graph order
  pub is_schedule : schedule ≡ schedule_for order groups (length profile.functions)
