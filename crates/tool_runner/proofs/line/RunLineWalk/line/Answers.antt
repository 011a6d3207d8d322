use Rattle.std.proofs.Common.{◌≡◌, length, rules}
use Rattle.tool_runner.proofs.LineRows.{row_written}
use Rattle.tool_runner.proofs.line.RunLineWalk.line.Goals as goal

pub tick-requires-clause-row : goal.tick-requires-clause-row
tick-requires-clause-row c =
    let same : length c.next_row.new.into ≡ c.args.self.now.row.len = search rules in
    row_written c.args.self.now.types.now c.args.machine.now.program.inputs c.next_row.new.into c.args.self.now.row.items
    c.args.self.now.row.len same c.requires.ready.types c.in-Ok.ensures.next.in_types
