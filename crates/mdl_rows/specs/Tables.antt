-- The rows of a model.
use Rattle.std.specs.Prelude.{◌≡◌, List}
use Rattle.std.specs.List.{AllZip}
use Rattle.diagram_meaning.specs.declared.table.Row.{Row}
use Rattle.mdl_rows.specs.Models.{Block, Model, kind_of}
use Rattle.mdl_rows.specs.Interiors.{control_of}
use Rattle.mdl_rows.specs.Wires.{row_wires}
use Rattle.mdl_rows.specs.RowTexts.{IsKind, IsType, IsTime}

-- the row of a block
pub record IsRowOf (m : Model) (b : Block) (row : Row) : Type 0 where
  pub place : row.place ≡ record { row = b.number; line = b.text.line }
  pub owner : row.owner ≡ b.owner
  pub kind : IsKind (kind_of b) (control_of m.blocks b.number) row.kind
  pub inputs : row.inputs ≡ row_wires m b
  pub type_text : IsType b.text.body.type_text row.type_text
  pub time_text : IsTime b.text.body.time_text row.time_text

-- the rows of a model
abbrev pub AreRowsOf : Model → List Row → Type 0
AreRowsOf m rows = AllZip (IsRowOf m) m.blocks rows
