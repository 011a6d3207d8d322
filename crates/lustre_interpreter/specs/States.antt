-- What the calls of flows do.
use Rattle.std.specs.Prelude.{◌≡◌, Bool, false, List, Option, Some, None, ℤ}
use Rattle.lustre_syntax.specs.declared.file.LusFile.{LusFile}
use Rattle.lustre_syntax.specs.Tree.{FileTree, NodeTree}
use Rattle.lustre_syntax.specs.Plain.{file_tree}
use Rattle.lustre_flows.specs.declared.stuck.LusStuck.{LusStuck}
use Rattle.lustre_flows.specs.Instances.{Instance}
use Rattle.lustre_flows.specs.Ticks.{Tick, done, stuck, tick, last_node, root_outputs}
use Rattle.lustre_slot_laws.specs.SlotLaws.{laid_before}
use Rattle.lustre_evaluation.specs.Views.{before_by}

-- a file, whether it has done a tick, the values that the last one left, of each instance those of
-- its names and then those of its calls, and the place where a tick was stuck
pub record FlowState : Type 0 where
  pub file : LusFile
  pub begun : Bool
  pub values : List ℤ
  pub stuck_place : Option LusStuck

abbrev pub tree_of : FlowState → FileTree
tree_of s = file_tree s.file

-- the node that is run
abbrev pub root_of : FlowState → NodeTree
root_of s = last_node (tree_of s)

-- what the last tick left, none before the first
abbrev pub left_of : FlowState → Option Instance
left_of s = laid_before (tree_of s) (before_by s.begun s.values)

-- what a tick comes to; after one that was stuck each comes to the same
abbrev pub by_place : Option LusStuck → Tick → Tick
by_place None next = next
by_place (Some at) next = stuck at

abbrev pub next_tick : FlowState → List ℤ → Tick
next_tick s row = by_place s.stuck_place (tick (tree_of s) (left_of s) row)

-- the flows of a file before the first tick
pub record IsFirst (f : LusFile) (s : FlowState) : Type 0 where
  pub file : s.file ≡ f
  pub begun : s.begun ≡ false
  pub free : s.stuck_place ≡ None

-- a tick gives these outputs
pub record IsTicked (before after : FlowState) (row outputs : List ℤ) : Type 0 where
  pub left : Instance
  pub run : next_tick before row ≡ done left
  pub kept : left_of after ≡ Some left
  pub free : after.stuck_place ≡ None
  pub outputs_are : outputs ≡ root_outputs (tree_of before) left

-- a tick is stuck there
pub record IsStuckTick (before after : FlowState) (row : List ℤ) (at : LusStuck) : Type 0 where
  pub run : next_tick before row ≡ stuck at
  pub place : after.stuck_place ≡ Some at
