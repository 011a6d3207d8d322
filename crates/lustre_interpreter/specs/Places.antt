-- The place where a tick is stuck.
use Rattle.std.specs.Prelude.{nat_lt, if◌then◌else◌, List, Option, Some, None, ℤ}
use Rattle.std.specs.List.{fold}
use Rattle.lustre_syntax.specs.Tree.{EquationTree}
use Rattle.lustre_flows.specs.declared.stuck.LusStuck.{LusStuck}
use Rattle.lustre_flows.specs.Ticks.{failures, waiting}
use Rattle.lustre_interpreter.specs.declared.places.Told.{Told}
use Rattle.lustre_interpreter.specs.declared.places.Told.TheVariants.{Failures, Waiting}

-- a place, unless another one has no greater line
abbrev pub sooner : Option LusStuck → LusStuck → Option LusStuck
sooner None at = Some at
sooner (Some best) at = if nat_lt at.line best.line then Some at else Some best

-- the first of the places with the least line, after those before them
abbrev pub soonest : Option LusStuck → List LusStuck → Option LusStuck
soonest best places = fold sooner best places

-- what is reported of an equation
abbrev pub telling : Told → Option (List (Option ℤ)) → List (Option ℤ) → EquationTree → List LusStuck
telling Failures = failures
telling Waiting = waiting
