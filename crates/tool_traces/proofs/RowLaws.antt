-- Values of a row, one after another.
use Rattle.std.proofs.Common.{List, ◌++◌}
use Rattle.std.specs.Prelude.{Result, Ok, Err, ℤ}
use Rattle.tool_traces.specs.declared.rows.BadWhy.{BadWhy}

-- values in front of those after them
abbrev pub with_values : List ℤ → Result (List ℤ) BadWhy → Result (List ℤ) BadWhy
with_values front (Err why) = Err why
with_values front (Ok values) = Ok (front ++ values)
