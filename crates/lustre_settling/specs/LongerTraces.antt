-- The flows over a longer trace.
use Rattle.std.specs.Prelude.{◌≡◌, ℤ, List, ◌++◌, Some}
use Rattle.lustre_syntax.specs.Tree.{FileTree}
use Rattle.lustre_flows.specs.declared.stuck.LusStuck.{LusStuck}
use Rattle.lustre_flows.specs.Instances.{Instance}
use Rattle.lustre_flows.specs.Flows.{flows, outputs}

-- the flows over further rows begin with those over fewer, and are the same once a tick is stuck
pub record FlowsGoOn (f : FileTree) (rows more : List (List ℤ)) : Type 0 where
  pub later : List Instance
  pub ticks : (flows f (rows ++ more)).ticks ≡ (flows f rows).ticks ++ later
  pub further : List (List ℤ)
  pub outputs_are : outputs f (rows ++ more) ≡ outputs f rows ++ further
  pub stuck : (at : LusStuck) → (flows f rows).stuck_place ≡ Some at →
      flows f (rows ++ more) ≡ flows f rows

abbrev pub FlowsOfMoreRows : Type 0
FlowsOfMoreRows = (f : FileTree) (rows more : List (List ℤ)) → FlowsGoOn f rows more
