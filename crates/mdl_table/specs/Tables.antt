-- Which table a file has.
use Rattle.std.specs.Prelude.{◌≡◌, ℕ, Result, Ok, Err}
use Rattle.base_refusals.specs.Refusals.{PlainRefusal}
use Rattle.mdl_tree.specs.Spelling.{Items}
use Rattle.diagram_meaning.specs.RowTable.{RowTable}
use Rattle.diagram_meaning.specs.declared.subsystem.Subsystem.{out-Subsystem}
use Rattle.diagram_meaning.specs.DiagramTree.{DiagramTree}
use Rattle.mdl_systems.specs.Models.{Model, model_of}
use Rattle.mdl_rows.specs.Models.{model_with}
use Rattle.mdl_rows.specs.Refusals.{defaults_of}
use Rattle.mdl_rows.specs.Tables.{AreRowsOf}
use Rattle.mdl_table.specs.Steps.{IsStepOf}

-- the table of a model: a row for each block in the order of the file, and the written step
pub record IsTableOf (model : Model) (table : RowTable) : Type 0 where
  pub rows : AreRowsOf (model_with (defaults_of model) model.system) table.rows
  pub fixed_step : IsStepOf model.section.items table.fixed_step

-- the table of what a file has for its model
abbrev pub IsTableBy : Result Model PlainRefusal → RowTable → Type 0
IsTableBy (Ok model) table = IsTableOf model table
IsTableBy (Err refusal) table = ⊥

-- the table of a file with these items
abbrev pub TableOf : Items → RowTable → Type 0
TableOf file table = IsTableBy (model_of file) table

-- the line of the root of what a file has for its model
abbrev pub HasRootLine : Result Model PlainRefusal → (line : ℕ) → Type 0
HasRootLine (Ok model) line = line ≡ model.system.line
HasRootLine (Err refusal) line = ⊥

-- the root of a tree opens where the System of the file's model does; the rest of its systems the
-- table says
abbrev pub IsRootOf : Items → DiagramTree → Type 0
IsRootOf file tree = HasRootLine (model_of file) (out-Subsystem tree.root).line
