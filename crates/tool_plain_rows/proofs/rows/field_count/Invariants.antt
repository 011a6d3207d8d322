use Rattle.std.proofs.Common.{◌≡◌, ◌+◌, ◌≤◌, length}
use Rattle.tool_traces.specs.Fields.{fields}
use Rattle.tool_plain_rows.proofs.rows.field_count.Given as goal

abbrev pub invariant-loop-after : goal.invariant-loop-after
invariant-loop-after l = record {
  short : l.count + length l.rest ≤ 4096;
  counted : l.count + length (fields l.rest) ≡ length (fields l.text);
}

abbrev pub decreases-loop-after : goal.decreases-loop-after
decreases-loop-after l = length l.rest
