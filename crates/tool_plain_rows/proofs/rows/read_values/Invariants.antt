use Rattle.std.proofs.Common.{◌≡◌, ◌+◌, ◌≤◌, length, take}
use Rattle.tool_traces.specs.Fields.{fields}
use Rattle.tool_plain_rows.specs.PlainRows.{plain_values_from}
use Rattle.tool_plain_rows.proofs.RowLaws.{with_values}
use Rattle.tool_plain_rows.proofs.rows.read_values.Given as goal

-- the values so far and those of what is left are the values of all
abbrev pub invariant-loop-number : goal.invariant-loop-number
invariant-loop-number l = record {
  short : l.field + length l.rest ≤ 4096;
  count : l.field + length (fields l.rest) ≡ length l.into;
  values : with_values (take l.field l.into) (plain_values_from (l.field + 1) (fields l.rest))
      ≡ plain_values_from 1 (fields l.text);
}

abbrev pub decreases-loop-number : goal.decreases-loop-number
decreases-loop-number l = length l.rest
