-- The rows of a trace for a file of Lustre, and the lines of its flows over them.
use Rattle.std.specs.Prelude.{ℕ, ℤ, List, flat_map, Option}
use Rattle.lustre_syntax.specs.Tree.{FileTree}
use Rattle.lustre_flows.specs.Flows.{outputs}
use Rattle.lustre_flows.specs.Ticks.{last_node}
use Rattle.tool_traces.specs.declared.rows.BadLine.{BadLine}
use Rattle.tool_traces.specs.Rows.{Trace}
use Rattle.tool_plain_rows.specs.PlainRows.{plain_rows_of, plain_whole_rows_of}
use Rattle.tool_runner.specs.Texts.{outputs_line}

-- how many numbers a row has
abbrev pub row_size : FileTree → ℕ
row_size f = (last_node f).inputs

-- the rows of a trace for a file, and the first line that is none
abbrev pub flow_rows : FileTree → List ℕ → List (List ℤ)
flow_rows f bytes = (plain_rows_of bytes (row_size f)).rows

abbrev pub flow_bad_line : FileTree → List ℕ → Option BadLine
flow_bad_line f bytes = (plain_rows_of bytes (row_size f)).bad

-- both, and the same of the whole lines of bytes alone
abbrev pub flow_trace : FileTree → List ℕ → Trace
flow_trace f bytes = plain_rows_of bytes (row_size f)

abbrev pub whole_flow_trace : FileTree → List ℕ → Trace
whole_flow_trace f bytes = plain_whole_rows_of bytes (row_size f)

-- the lines of the outputs over these rows
abbrev pub flow_lines : FileTree → List (List ℤ) → List ℕ
flow_lines f rows = flat_map outputs_line (outputs f rows)
