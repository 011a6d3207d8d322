-- What is emitted of a model: a program, and how many systems and output functions it has.
use Rattle.std.specs.Prelude.{◌≡◌, length}
use Rattle.diagram_meaning.specs.ResolvedTree.{ResolvedTree, diagram_of}
use Rattle.modules_profile.specs.Systems.{systems}
use Rattle.c_syntax.specs.Plain.{program_tree}
use Rattle.right_claim.specs.Right.{IsFunctionCount}
use Rattle.right_linking.specs.Whole.{IsAssembled}
use Rattle.emit_program.specs.declared.emitted.Emitted.{Emitted}

-- the program is lawful and code for the diagram, with these counts
pub record IsEmittedFrom (r : ResolvedTree) (e : Emitted) : Type 0 where
  pub program : IsAssembled r r.times.hyper (program_tree e.program)
  pub systems : e.systems ≡ length (Rattle.modules_profile.specs.Systems.systems (diagram_of r).rows)
  pub functions : IsFunctionCount (diagram_of r) e.functions
