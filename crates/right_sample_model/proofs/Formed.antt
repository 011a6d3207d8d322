-- The table is that of a model file.
use Rattle.std.specs.Prelude.{◌≡◌, ℕ, ◌^◌, ◌<◌, ◌≤◌, true, List, [], ◌∷◌, ◌++◌, refl}
use Rattle.std.specs.List.{AllByRecursion}
use Rattle.std.proofs.Common.{arith, lit<, lit≤}
use Rattle.diagram_meaning.specs.declared.table.Row.{Row}
use Rattle.diagram_blocks.specs.Kinds.{is_inport, is_outport}
use Rattle.diagram_meaning.specs.WellFormed.{IsTime, IsRow, IsWellFormed}
use Rattle.diagram_meaning.proofs.lemmas.WellFormedTests.{nested, wired, ports, controls, well_formed-from}
use Rattle.right_sample_model.specs.Rows.{seconds, inputs, enabled_rows, triggered_rows, outputs, rich_rows, rich_table}

is_nested : nested rich_rows ≡ true
is_nested = refl

is_wired : wired rich_rows ≡ true
is_wired = refl

has_inports : ports rich_rows is_inport ≡ true
has_inports = refl

has_outports : ports rich_rows is_outport ≡ true
has_outports = refl

has_controls : controls rich_rows ≡ true
has_controls = refl

time-of : (n : ℕ) → 0 < n → n ≤ 10 ^ 9 → IsTime (seconds n) (seconds 0)
time-of n above most = record {
  period_limits = (above, most, lit≤ tt);
  offset_limits = (lit≤ tt, lit≤ tt);
  below = omega arith;
}

are_inputs : AllByRecursion IsRow inputs
are_inputs = (
  record { kind = tt; type = tt; time = time-of 1 (lit< tt) (lit≤ tt) },
  (record { kind = tt; type = tt; time = time-of 1 (lit< tt) (lit≤ tt) }, tt),
)

are_enabled : AllByRecursion IsRow enabled_rows
are_enabled = (
  record { kind = tt; type = refl; time = refl },
  (
    record { kind = tt; type = tt; time = tt },
    (
      record { kind = tt; type = refl; time = refl },
      (record { kind = (lit< tt, lit≤ tt); type = refl; time = tt }, (record { kind = tt; type = tt; time = tt }, tt)),
    ),
  ),
)

are_triggered : AllByRecursion IsRow triggered_rows
are_triggered = (
  record { kind = tt; type = refl; time = refl },
  (
    record { kind = tt; type = tt; time = tt },
    (record { kind = tt; type = refl; time = refl }, (record { kind = tt; type = tt; time = tt }, tt)),
  ),
)

are_outputs : AllByRecursion IsRow outputs
are_outputs = (
  record { kind = tt; type = refl; time = time-of 2 (lit< tt) (lit≤ tt) },
  (
    record { kind = ((lit< tt, lit≤ tt), lit< tt); type = tt; time = tt },
    (
      record { kind = tt; type = tt; time = tt },
      (record { kind = tt; type = tt; time = tt }, (record { kind = tt; type = tt; time = tt }, tt)),
    ),
  ),
)

behind : (xs ys : List Row) → AllByRecursion IsRow xs → AllByRecursion IsRow ys → AllByRecursion IsRow (xs ++ ys)
behind [] ys all more = more
behind (x ∷ xs) ys all more = (all.0, behind xs ys all.1 more)

are_rows : AllByRecursion IsRow rich_rows
are_rows =
    behind inputs (enabled_rows ++ triggered_rows ++ outputs) are_inputs
    (behind enabled_rows (triggered_rows ++ outputs) are_enabled (behind triggered_rows outputs are_triggered are_outputs))

pub rich_is_well_formed : IsWellFormed rich_table
rich_is_well_formed =
    well_formed-from rich_table is_nested is_wired has_inports has_outports has_controls are_rows tt
