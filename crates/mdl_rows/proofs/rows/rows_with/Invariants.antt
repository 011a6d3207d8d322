use Rattle.std.proofs.Common.{List, ◌++◌, drop}
use Rattle.std.specs.List.{AllZip}
use Rattle.diagram_meaning.specs.declared.table.Row.{Row}
use Rattle.mdl_rows.specs.Tables.{AreRowsOf, IsRowOf}
use Rattle.mdl_rows.specs.Held.{all_seen}
use Rattle.mdl_rows.specs.HeldModels.{model_of}
use Rattle.mdl_rows.proofs.rows.rows_with.Given as goal

abbrev pub invariant-loop-at : goal.invariant-loop-at
invariant-loop-at l =
    let m = model_of l.fn.model in
    (rest : List Row) → AllZip (IsRowOf m) (all_seen (drop l.at l.model.blocks.items)) rest → AreRowsOf m (l.rows.items ++ rest)
