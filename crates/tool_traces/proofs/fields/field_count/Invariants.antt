use Rattle.std.proofs.Common.{◌≡◌, ◌+◌, ◌≤◌, length}
use Rattle.tool_traces.specs.Fields.{fields}
use Rattle.tool_traces.proofs.fields.field_count.Given as goal

abbrev pub invariant-loop-behind : goal.invariant-loop-behind
invariant-loop-behind l = record {
  short : l.count + length l.rest ≤ 4096;
  counted : l.count + length (fields l.rest) ≡ length (fields l.text);
}

abbrev pub decreases-loop-behind : goal.decreases-loop-behind
decreases-loop-behind l = length l.rest
