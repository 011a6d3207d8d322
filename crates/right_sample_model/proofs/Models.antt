-- The model with any sample times.
use Rattle.diagram_meaning.specs.RowTimes.{RowTimes}
use Rattle.diagram_meaning.specs.Rows.{by_row}
use Rattle.diagram_meaning.specs.TypeRefusals.{types_of_rows}
use Rattle.diagram_meaning.specs.Diagram.{op_in}
use Rattle.diagram_meaning.specs.ResolvedTree.{ResolvedTree}
use Rattle.right_sample_model.specs.Rows.{rich_rows, rich_table}
use Rattle.right_sample_model.proofs.Made.{rich_root}

abbrev pub model : RowTimes → ResolvedTree
model times = record {
  tree = record { table = rich_table; root = rich_root };
  types = types_of_rows rich_rows;
  ops = by_row rich_rows (op_in rich_rows (types_of_rows rich_rows) times.delays);
  times = times;
}
