-- What is reported of a tree that is refused for what it is, its types or its sample times.
use Rattle.std.specs.Prelude.{◌≡◌, None}
use Rattle.base_refusals.specs.Refusals.{plain_refusal}
use Rattle.mdl_tree.specs.Spelling.{Items}
use Rattle.diagram_meaning.specs.RowTable.{RowTable}
use Rattle.diagram_meaning.specs.TypeRefusals.{type_refusal}
use Rattle.diagram_meaning.specs.declared.BuildFault.{BuildFault}
use Rattle.diagram_meaning.specs.declared.BuildFault.TheVariants as build
use Rattle.mdl_systems.specs.Reading.{IsFaultBy}
use Rattle.mdl_rows.specs.Refusals.{tree_refusal}
use Rattle.diagram_types.specs.Inferred.{IsTypeFault}
use Rattle.diagram_times.specs.Inferred.{IsTimeFault}
use Rattle.diagram_verdict.specs.Faults.{as_built_fault}
use Rattle.diagram_verdict.specs.TreeVerdict.{IsTreeWith, for_tree, for_types, for_times, IsTreeFaultOf}

-- an error of what it is
pub tree-fault : (file : Items) (fault : BuildFault) → IsFaultBy (tree_refusal file) fault →
    IsTreeFaultOf file (as_built_fault fault)
tree-fault file (build.Refused refusal) e = for_tree (plain_refusal refusal) e
tree-fault file build.Memory e = tt

-- one of the types of its table
pub type-fault : (file : Items) (table : RowTable) (fault : BuildFault) → IsTreeWith file table →
    IsTypeFault table.rows fault → IsTreeFaultOf file (as_built_fault fault)
type-fault file table (build.Refused refusal) with e = for_types (plain_refusal refusal) table with e
type-fault file table build.Memory with e = tt

-- and, where nothing is wrong with those, one of its sample times
pub time-fault : (file : Items) (table : RowTable) (fault : BuildFault) → IsTreeWith file table →
    type_refusal table.rows ≡ None → IsTimeFault table fault →
    IsTreeFaultOf file (as_built_fault fault)
time-fault file table (build.Refused refusal) with right h = for_times (plain_refusal refusal) table with right h
time-fault file table build.Memory with right h = tt
