use Rattle.std.proofs.Common.{◌∙◌, zero, suc, sym, ap, arith}
use Rattle.diagram_meaning.specs.declared.table.Row.{Row}
use Rattle.test_solver.proofs.reading.input_values.Goals as goal

-- the number of a root Inport is there
pub wire_values-requires : goal.wire_values-requires
wire_values-requires c zero d below =
    let read = sym c.row-row.ensures.row in
    (c.requires.inputs c.in-Inport-None.port c.args.b (record {
      in_table = c.requires.row;
      is_inport = ap (λ (row : Row). row.kind) read ∙ c.in-Inport-None.is-0;
      is_own = ap (λ (row : Row). row.owner) read ∙ c.in-Inport-None.is-1;
    })).0
wire_values-requires c (suc k) d below = absurd (omega arith)
