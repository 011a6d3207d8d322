use Rattle.std.proofs.Common.{◌≡◌, ◌<◌, ◌-◌, All, find, length}
use Rattle.std.specs.List.{filter_map, range_with_len}
use Rattle.diagram_meaning.specs.Rows.{row_at, row_numbers}
use Rattle.tool_system_driver.specs.Ports.{is_at, is_port}
use Rattle.tool_system_driver.proofs.ports.rows_by_port.Given as goal

abbrev pub invariant-loop-port : goal.invariant-loop-port
invariant-loop-port l = record {
  found_is : l.found.items
      ≡ filter_map (λ k. find (λ b. is_at (is_port l.side) l.system k (row_at l.rows b)) (row_numbers l.rows))
      (range_with_len 1 (l.port - 1));
  are_rows : All (λ b. b < length l.rows) l.found.items;
}
