-- A system's code as a plain tree.
use Rattle.std.specs.Prelude.{ℕ, List, map}
use Rattle.c_syntax.specs.Tree.{StructTree, ProcedureTree}
use Rattle.c_syntax.specs.Plain.{procedure_tree}
use Rattle.emit_shape.specs.declared.code.SystemCode.{SystemCode}

-- the struct, the positions of the outputs' fields by port, and the procedures
pub record SystemTree : Type 0 where
  pub structure : StructTree
  pub outputs : List ℕ
  pub procedures : List ProcedureTree

-- the plain tree of a value of the program
abbrev pub system_tree : SystemCode → SystemTree
system_tree c =
    record {
      structure = c.structure;
      outputs = c.outputs.items;
      procedures = map procedure_tree c.procedures.items;
    }
