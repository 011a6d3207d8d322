-- What a model is compiled to.
use Rattle.std.specs.Prelude.{◌≡◌, ℕ, List, map, length, None}
use Rattle.base_fixed_point.specs.declared.types.FixType.{FixType}
use Rattle.diagram_meaning.specs.Diagram.{Diagram}
use Rattle.diagram_meaning.specs.ResolvedTable.{ResolvedTable, diagram_of_table}
use Rattle.diagram_meaning.specs.Inputs.{input_ports}
use Rattle.modules_profile.specs.Systems.{systems}
use Rattle.diagram_meaning.specs.Traces.{input_type_of}
use Rattle.emit_pruned.specs.Calls.{NoneIdle}
use Rattle.emit_notes.specs.ModelNotes.{HasNotesOf}
use Rattle.right_claim.specs.Right.{IsRightFor, IsFunctionCount}
use Rattle.diagram_verdict.specs.Verdict.{Accepted, HasVerdict}

-- the types of the root's inputs, by port
abbrev pub root_types : Diagram → List FixType
root_types d = map (input_type_of d None) (input_ports d.rows None)

-- the numbers of rows, systems and output functions of a model, the types of its inputs, and its C
-- text
pub record Compilation : Type 0 where
  pub rows : ℕ
  pub systems : ℕ
  pub functions : ℕ
  pub inputs : List FixType
  pub code : List ℕ

-- of a model with this resolved table: the code is right for it, in all parts, and has no pure
-- function that isn't called
pub record IsCompilationOf (r : ResolvedTable) (c : Compilation) : Type 0 where
  pub rows : c.rows ≡ length r.table.rows
  pub systems : c.systems ≡ length (systems r.table.rows)
  pub functions : IsFunctionCount (diagram_of_table r) c.functions
  pub inputs : c.inputs ≡ root_types (diagram_of_table r)
  pub code : IsRightFor c.code r
  pub none_idle : NoneIdle code.program

-- the file is accepted, and compiled with the resolved table of its model; the notes in the code are
-- those of its blocks
pub record IsCompiledFrom (bytes : List ℕ) (c : Compilation) : Type 0 where
  pub resolved : ResolvedTable
  pub verdict : HasVerdict bytes (Accepted resolved)
  pub compiled : IsCompilationOf resolved c
  pub noted : HasNotesOf bytes c.code
