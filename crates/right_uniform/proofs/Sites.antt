-- When a system that is another one turned stays so where helpers are inlined.
use Rattle.std.specs.Prelude.{◌≡◌, ℕ, ◌<◌, false, length, Some}
use Rattle.c_syntax.specs.declared.code.Target.{Target}
use Rattle.c_syntax.specs.declared.code.Target.TheVariants.{Own, Child}
use Rattle.c_syntax.specs.Tree.{ProcedureTree, ProgramTree}
use Rattle.c_semantics.specs.Machine.{is_interface}
use Rattle.c_semantics.specs.NumberingLaws.{AllCalls}
use Rattle.emit_shape.specs.Programs.{procedure_at, struct_place}
use Rattle.emit_inlined.specs.Inlined.{is_root_name}
use Rattle.emit_uniform.specs.Turned.{Turn, place_among, names_of_procedures, turned_procedure}
use Rattle.emit_uniform.specs.Uniform.{AreTurned}

-- a call in a procedure of a program: on `s` of one of the same struct, on a child of a public one
abbrev pub IsSited : ProgramTree → ProcedureTree → ℕ → Target → Type 0
IsSited p q k Own = (k < length p.procedures) × ((procedure_at p k).of ≡ q.of)
IsSited p q k (Child f) = (k < length p.procedures) × ((procedure_at p k).private ≡ false)

-- A program in which system f is system e turned. No two procedures have one name, and private ones
-- are called on `s` alone. Calls of what e has are logged where those of what f has are, and neither
-- has a procedure with which a run begins.
pub record CanInline (p : ProgramTree) (t : Turn) (e f : ℕ) : Type 0 where
  pub turned : AreTurned p t e f
  pub apart : (k : ℕ) → k < length p.procedures →
      place_among (names_of_procedures p) (procedure_at p k).name ≡ k
  pub sited : (k : ℕ) → k < length p.procedures →
      AllCalls (IsSited p (procedure_at p k)) (procedure_at p k).body
  pub logged : (k : ℕ) → k < length p.procedures →
      (procedure_at p k).of ≡ struct_place p (Some e) →
      is_interface (turned_procedure p t (procedure_at p k)).name
      ≡ is_interface (procedure_at p k).name
  pub rootless : (k : ℕ) → k < length p.procedures →
      (procedure_at p k).of ≡ struct_place p (Some e) →
      is_root_name (procedure_at p k).name ≡ false
  pub rootless_there : (k : ℕ) → k < length p.procedures →
      (procedure_at p k).of ≡ struct_place p (Some f) →
      is_root_name (procedure_at p k).name ≡ false
