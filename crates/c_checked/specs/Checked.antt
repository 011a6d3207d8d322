-- A program that keeps the static rules, with what a caller of its root gives and gets.
use Rattle.std.specs.Prelude.{◌≡◌, ℕ, ◌<◌, ◌^◌, List, length, map, Option, Some, None}
use Rattle.base_fixed_point.specs.declared.types.FixType.{FixType}
use Rattle.base_fixed_point.specs.Types.{int8, int16, int32, uint8, uint16, uint32}
use Rattle.c_syntax.specs.declared.code.CType.{CType}
use Rattle.c_syntax.specs.declared.code.CType.TheVariants.{I8, U8, I16, U16, I32, U32, I64}
use Rattle.c_syntax.specs.declared.program.Program.{Program}
use Rattle.c_syntax.specs.Tree.{ProcedureTree}
use Rattle.c_syntax.specs.Plain.{program_tree}
use Rattle.c_syntax.specs.RootFields.{output_fields, root_fields}
use Rattle.c_syntax.specs.Lawful.{IsLawful}

-- a program, the types of the numbers of a row of its trace, and how many outputs it has
pub record CheckedProgram : Type 0 where
  pub program : Program
  pub inputs : List FixType
  pub outputs : ℕ

-- the numbers of a type of C, as a type without a binary point; int64_t is too wide for one
abbrev pub fix_type : CType → Option FixType
fix_type I8 = Some int8
fix_type U8 = Some uint8
fix_type I16 = Some int16
fix_type U16 = Some uint16
fix_type I32 = Some int32
fix_type U32 = Some uint32
fix_type I64 = None

-- the types are those of the parameters of a procedure
abbrev pub AreInputsOf : ProcedureTree → List FixType → Type 0
AreInputsOf p types = map (λ q. fix_type q.type) p.params ≡ map Some types

-- the program is lawful, its procedures are counted in 32 bits, and the rest is that of its root
pub record IsChecked (c : CheckedProgram) : Type 0 where
  pub lawful : IsLawful (program_tree c.program)
  pub few : length c.program.procedures.items < 2 ^ 32
  pub inputs : AreInputsOf lawful.root.step_procedure c.inputs
  pub outputs : c.outputs ≡ length (output_fields (root_fields (program_tree c.program)))
