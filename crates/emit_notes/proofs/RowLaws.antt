-- Each row of an accepted text has its block.
use Rattle.std.proofs.Common.{◌≡◌, sym, ◌∙◌, ap, subst}
use Rattle.std.specs.Str.Lines.{lines}
use Rattle.base_core.specs.declared.Place.{Place}
use Rattle.mdl_tree.specs.Spelling.{Items}
use Rattle.mdl_tree.specs.Text.{statements_of}
use Rattle.mdl_tree.proofs.lemmas.OneTree.{same_items}
use Rattle.diagram_meaning.specs.Rows.{no_row}
use Rattle.mdl_rows.specs.Models.{Model, model_with}
use Rattle.mdl_rows.specs.Refusals.{defaults_of}
use Rattle.mdl_rows.specs.Tables.{IsRowOf}
use Rattle.mdl_table.specs.Tables.{IsTableOf, IsTableBy, TableOf}
use Rattle.mdl_table.proofs.lemmas.RowBlocks.{zip-at}
use Rattle.diagram_verdict.specs.Files.{AcceptedTablesAreWellFormed}
use Rattle.emit_notes.specs.ModelNotes.{RowsHaveBlocks}

pub rows_have_blocks : AcceptedTablesAreWellFormed → RowsHaveBlocks
rows_have_blocks formed text table file model r accepted is_file is_model below =
    let m : Model = model_with (defaults_of model) model.system in
    let same : accepted.0 ≡ file = same_items accepted.0 file (statements_of (lines text)) accepted.1.1.0 is_file.1.0 in
    let of : IsTableOf model table =
    subst (λ r. IsTableBy r table) is_model (subst (λ (x : Items). TableOf x table) same accepted.3) in
    let at = zip-at (IsRowOf m) m.blocks table.rows r no_row of.rows below in (
      at.0,
      at.1,
      sym (ap (λ (p : Place). p.row) at.2.place) ∙ (formed text table accepted).nested.numbered r below,
      sym (ap (λ (p : Place). p.line) at.2.place),
    )
