use Rattle.std.proofs.Common.{◌+◌, ◌≤◌, length}
use Rattle.tool_traces.specs.Fields.{fields}
use Rattle.tool_scripts.specs.Numbers.{numbers_of}
use Rattle.tool_scripts.proofs.NumberLaws.{ReadSoFar}
use Rattle.tool_scripts.proofs.numbers.read_numbers.Given as goal

-- the numbers of the fields so far were read
abbrev pub invariant-loop-field : goal.invariant-loop-field
invariant-loop-field l = record {
  few : l.found + length l.rest ≤ length l.text;
  read : ReadSoFar (numbers_of (fields l.text)) (numbers_of (fields l.rest)) l.found l.into;
}

abbrev pub decreases-loop-field : goal.decreases-loop-field
decreases-loop-field l = length l.rest
