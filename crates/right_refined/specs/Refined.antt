-- What a program is code for, a program that refines it is code for too, if its shape is right.
use Rattle.std.specs.Prelude.{◌≡◌, ℕ, ◌||◌, not, Bool, true, List, Some, slice_get}
use Rattle.diagram_meaning.specs.Diagram.{Diagram}
use Rattle.c_syntax.specs.Tree.{ProcedureTree, ProgramTree}
use Rattle.c_syntax.specs.Lawful.{IsLawful}
use Rattle.c_semantics.specs.Machine.{is_interface}
use Rattle.emit_shape.specs.Heads.{head_of}
use Rattle.emit_shape.specs.Faces.{stores}
use Rattle.emit_shape.specs.ProgramShape.{HasShape}
use Rattle.right_claim.specs.Right.{IsCodeFor}
use Rattle.c_refinement.specs.Refinement.{RefinesBy}

-- the same program with other procedures
abbrev pub with_procedures : ProgramTree → List ProcedureTree → ProgramTree
with_procedures p procedures =
    record { pures = p.pures; structs = p.structs; procedures = procedures }

-- two procedures differ in their bodies alone
pub record DifferInBodies (h g : ProcedureTree) : Type 0 where
  pub heads : head_of g ≡ head_of h
  pub of : g.of ≡ h.of

-- a procedure that others may call: a public one, or one whose calls are logged
abbrev pub is_offered : ProcedureTree → Bool
is_offered h = not h.private || is_interface h.name

-- a procedure of p is at its place in q
pub record StandsAt (place : ℕ → ℕ) (p q : ProgramTree) (k : ℕ) (h : ProcedureTree) : Type 0 where
  pub moved : ProcedureTree
  pub there : slice_get q.procedures (place k) ≡ Some moved
  pub alike : DifferInBodies h moved

-- a procedure of q is one of p at its place
pub record ComesFrom (place : ℕ → ℕ) (p : ProgramTree) (j : ℕ) (g : ProcedureTree) : Type 0 where
  pub position : ℕ
  pub original : ProcedureTree
  pub there : slice_get p.procedures position ≡ Some original
  pub place_is : place position ≡ j
  pub alike : DifferInBodies original g

-- q has the procedures that p offers, at their places, and no others but of p; and what is offered
-- stores the same fields, itself or through private procedures
pub record OffersSame (keeps : ℕ → Bool) (place : ℕ → ℕ) (p q : ProgramTree) : Type 0 where
  pub kept : (k : ℕ) (h : ProcedureTree) → slice_get p.procedures k ≡ Some h →
      is_offered h ≡ true → keeps k ≡ true
  pub found : (k : ℕ) (h : ProcedureTree) → slice_get p.procedures k ≡ Some h →
      keeps k ≡ true → StandsAt place p q k h
  pub known : (j : ℕ) (g : ProcedureTree) → slice_get q.procedures j ≡ Some g →
      ComesFrom place p j g
  pub stored : (k : ℕ) (h : ProcedureTree) → slice_get p.procedures k ≡ Some h →
      is_offered h ≡ true → (name : List ℕ) → stores q name (place k) ≡ stores p name k

-- lawful code stays code in a lawful program that refines it, offers the same, and has the shape:
-- its runs, interfaces, answers, starts and resets are right too
abbrev pub RefinedIsCode : Type 0
RefinedIsCode =
    (p : ProgramTree) (procedures : List ProcedureTree) (keeps : ℕ → Bool) (place : ℕ → ℕ)
    (d : Diagram) (delays : List Bool) (hyper : ℕ) →
    IsLawful p → IsLawful (with_procedures p procedures) →
    RefinesBy place keeps p (with_procedures p procedures) →
    OffersSame keeps place p (with_procedures p procedures) →
    IsCodeFor p d delays hyper →
    HasShape (with_procedures p procedures) d delays hyper →
    IsCodeFor (with_procedures p procedures) d delays hyper
