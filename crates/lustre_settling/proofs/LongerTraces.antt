-- The flows over further rows begin with those over fewer.
use Rattle.std.specs.Prelude.{◌≡◌, ℤ, List, [], ◌∷◌, ◌++◌, map, Option, Some, None, refl}
use Rattle.std.proofs.Common.{ap, ◌∙◌, arith}
use Rattle.std.proofs.lemmas.List.{map-append}
use Rattle.lustre_syntax.specs.Tree.{FileTree}
use Rattle.lustre_flows.specs.declared.stuck.LusStuck.{LusStuck}
use Rattle.lustre_flows.specs.Instances.{Instance}
use Rattle.lustre_flows.specs.Ticks.{Tick, done, stuck, tick, root_outputs}
use Rattle.lustre_flows.specs.Flows.{Flows, with_tick, flows_after, flows_from}
use Rattle.lustre_settling.specs.LongerTraces.{FlowsOfMoreRows}

-- what the first flows are of the second
abbrev BeginFlows : Flows → Flows → Type 0
BeginFlows fewer all =
    (later : List Instance) × (all.ticks ≡ fewer.ticks ++ later) × ((at : LusStuck) → fewer.stuck_place ≡ Some at → all ≡ fewer)

after-tick : (t : Tick) (go further : Instance → Flows) → ((left : Instance) → BeginFlows (go left) (further left)) →
    BeginFlows (flows_after t go) (flows_after t further)
after-tick (done left) go further each =
    let rest = each left in
    (rest.0, ap {B = List Instance} (λ is. left ∷ is) rest.1, λ at is. ap (with_tick left) (rest.2 at is))
after-tick (stuck at) go further each = ([], refl, λ place is. refl)

begin-flows : (f : FileTree) (rows more : List (List ℤ)) (before : Option Instance) →
    BeginFlows (flows_from f rows before) (flows_from f (rows ++ more) before)
begin-flows f [] more before = ((flows_from f more before).ticks, refl, λ at is. grind arith)
begin-flows f (row ∷ rows) more before =
    after-tick (tick f before row) (λ left. flows_from f rows (Some left)) (λ left. flows_from f (rows ++ more) (Some left))
    (λ left. begin-flows f rows more (Some left))

pub flows_of_more_rows : FlowsOfMoreRows
flows_of_more_rows f rows more =
    let begun = begin-flows f rows more None in
    record {
      later = begun.0;
      ticks = begun.1;
      further = map (root_outputs f) begun.0;
      outputs_are = ap (map (root_outputs f)) begun.1 ∙ map-append (root_outputs f) (flows_from f rows None).ticks begun.0;
      stuck = begun.2;
    }
