-- A uniform program is uniform when it is simplified.
use Rattle.std.specs.Prelude.{ℕ, Bool, List}
use Rattle.diagram_meaning.specs.Diagram.{Diagram}
use Rattle.c_syntax.specs.Tree.{ProgramTree}
use Rattle.c_syntax.specs.Lawful.{IsLawful}
use Rattle.emit_shape.specs.ProgramShape.{HasShape}
use Rattle.emit_fused.specs.Fused.{fused}
use Rattle.emit_inlined.specs.Inlined.{inlined}
use Rattle.emit_pruned.specs.Pruned.{pruned}
use Rattle.emit_simplified.specs.Simplified.{simplified}
use Rattle.emit_uniform.specs.Uniform.{IsUniform}

-- a pass takes a uniform program to a uniform one
abbrev pub KeepsUniform : (ProgramTree → ProgramTree) → Type 0
KeepsUniform pass = (p : ProgramTree) (d : Diagram) → IsUniform p d → IsUniform (pass p) d

abbrev pub FusedIsUniform : Type 0
FusedIsUniform = KeepsUniform fused

abbrev pub PrunedIsUniform : Type 0
PrunedIsUniform = KeepsUniform pruned

-- a pass takes lawful code of the right shape for a diagram, if it is uniform, to a uniform program
abbrev pub KeepsUniformCode : (ProgramTree → ProgramTree) → Type 0
KeepsUniformCode pass =
    (p : ProgramTree) (d : Diagram) (delays : List Bool) (hyper : ℕ) → IsLawful p →
    HasShape p d delays hyper → IsUniform p d → IsUniform (pass p) d

-- which helpers there are is a matter of the whole program: of the right shape, no other system
-- calls the private procedures of one
abbrev pub InlinedIsUniform : Type 0
InlinedIsUniform = KeepsUniformCode inlined

abbrev pub SimplifiedIsUniform : Type 0
SimplifiedIsUniform = KeepsUniformCode simplified
