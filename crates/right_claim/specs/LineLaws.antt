-- The lines of a program's statements mean nothing to what is said of it: so what holds of an
-- assembled program, whose lines are 0, holds of the one reading of its text.
use Rattle.std.specs.Prelude.{◌≡◌, ℕ, Bool, List, Option, ℤ}
use Rattle.diagram_meaning.specs.Diagram.{Diagram}
use Rattle.diagram_meaning.specs.ResolvedTable.{ResolvedTable, diagram_of_table}
use Rattle.c_syntax.specs.Tree.{ProgramTree}
use Rattle.c_semantics.specs.Rows.{start_run}
use Rattle.c_syntax.specs.Lawful.{without_lines}
use Rattle.c_rules.specs.Reading.{IsTextOf}
use Rattle.emit_shape.specs.Faces.{HasLeastInterface}
use Rattle.emit_shape.specs.ProgramShape.{HasShape}
use Rattle.right_relation.specs.Instances.{OnDone}
use Rattle.right_claim.specs.Anew.{RenewsAll, Restarts}
use Rattle.right_claim.specs.Driving.{TakesTraces}
use Rattle.right_claim.specs.Right.{GivesOutputs, StaysInBound, AnswersAnyOrder, IsCodeFor, IsRightFor}

-- what holds of a program holds of each that differs in lines alone
abbrev pub IsBlindToLines : (ProgramTree → Type 0) → Type 0
IsBlindToLines P = (p q : ProgramTree) → without_lines p ≡ without_lines q → P p → P q

-- the rows over a trace, except for the place where it is stuck, and the answers to scripts
pub record RowsMeanNoLines : Type 0 where
  pub outputs : (d : Diagram) (xs : List (List ℤ)) → IsBlindToLines (λ p. GivesOutputs p d xs)
  pub bounded : (d : Diagram) (xs : List (List ℤ)) → IsBlindToLines (λ p. StaysInBound p d xs)
  pub ticks : (d : Diagram) →
      IsBlindToLines (λ p. OnDone (start_run p) (λ started. TakesTraces p d started.cells))
  pub any_order : (d : Diagram) (hyper : ℕ) (s : Option ℕ) →
      IsBlindToLines (λ p. AnswersAnyOrder p d hyper s)

-- what is started anew and reset
pub record RenewalsMeanNoLines : Type 0 where
  pub renewed : (d : Diagram) (hyper : ℕ) (s : Option ℕ) →
      IsBlindToLines (λ p. RenewsAll p d hyper s)
  pub restarted : (d : Diagram) (hyper : ℕ) → IsBlindToLines (λ p. Restarts p d hyper)

-- the interfaces and the shape
pub record ShapeMeansNoLines : Type 0 where
  pub least : (d : Diagram) (s : Option ℕ) → IsBlindToLines (λ p. HasLeastInterface p d s)
  pub shape : (d : Diagram) (delays : List Bool) (hyper : ℕ) →
      IsBlindToLines (λ p. HasShape p d delays hyper)

-- so a text of code for a diagram is right for it
abbrev pub TextOfCodeIsRight : Type 0
TextOfCodeIsRight = (bytes : List ℕ) (p : ProgramTree) (r : ResolvedTable) → IsTextOf bytes p →
    IsCodeFor p (diagram_of_table r) r.times.delays r.times.hyper →
    IsRightFor bytes r
