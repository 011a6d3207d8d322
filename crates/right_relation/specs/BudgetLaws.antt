-- The budgets of all systems, and a tick's own steps of the root, sum to the bound.
use Rattle.std.specs.Prelude.{◌+◌, ◌*◌, ◌≤◌, List, length, sum_by, None}
use Rattle.std.specs.List.{AllZip}
use Rattle.diagram_meaning.specs.Rows.{outports_of}
use Rattle.diagram_meaning.specs.ResolvedTree.{ResolvedTree, IsResolvedTree, diagram_of}
use Rattle.modules_profile.specs.LocalSystem.{LocalSystem}
use Rattle.modules_profile.specs.Systems.{systems}
use Rattle.modules_profile.specs.NodeFacts.{IsLocalOf}
use Rattle.right_relation.specs.Budgets.{own_budget, step_bound}

-- each row is an own row of one system, and each Outport but the root's is an output of one child
abbrev pub BudgetsSumToBound : Type 0
BudgetsSumToBound = (r : ResolvedTree) (locals : List LocalSystem) → IsResolvedTree r →
    AllZip (IsLocalOf r) (systems (diagram_of r).rows) locals →
    sum_by own_budget locals + 2 * (1 + length (outports_of (diagram_of r).rows None))
    ≤ step_bound (diagram_of r).rows
