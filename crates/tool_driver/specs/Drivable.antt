-- When an instance in a machine can be driven.
use Rattle.std.specs.Prelude.{◌≡◌, ℕ, ◌^◌, ◌<◌, ◌≤◌, true, ⊤, List, [], ◌∷◌, length, map, slice_get, Some, ℤ}
use Rattle.std.specs.List.{AllByRecursion, AllZip}
use Rattle.base_core.specs.declared.Port.{Port}
use Rattle.base_core.specs.declared.Port.TheVariants.{Number, Enable, Trigger}
use Rattle.base_fixed_point.specs.declared.FixType.{FixType}
use Rattle.base_fixed_point.specs.Conversion.{InType}
use Rattle.modules_profile.specs.declared.Function.{Function}
use Rattle.base_core.specs.Ports.{ports_in, ports_mask, AreControls}
use Rattle.c_syntax.specs.declared.CType.{CType}
use Rattle.c_syntax.specs.declared.CType.TheVariants.{I32}
use Rattle.c_syntax.specs.declared.FieldKind.TheVariants as kind
use Rattle.c_syntax.specs.Tree.{FieldTree, ParamTree, ProcedureTree, ProgramTree, struct_fields}
use Rattle.c_syntax.specs.RootFields.{procedure_named}
use Rattle.c_semantics.specs.Values.{is_in_type}
use Rattle.c_interpreter.specs.Instances.{StructInstance, instance_at, field_named}
use Rattle.tool_driver.specs.declared.inputs.Input.{Input}
use Rattle.tool_driver.specs.Shapes.{Shape, inputs_of, function_inputs}
use Rattle.emit_shape.specs.Names.{function_name, named_update}

-- all numbers of a type lie in a type of C
abbrev pub IsWide : CType → FixType → Type 0
IsWide wide t = (v : ℤ) → InType t v → is_in_type wide v ≡ true

-- a procedure of the struct at a position, whose first parameter is an int32_t, and whose others
-- are each wide enough for one of these inputs
pub record HasProcedure (p : ProgramTree) (structure : ℕ) (name : List ℕ)
    (inputs : List Input) : Type 0 where
  pub position : ℕ
  pub named : procedure_named p name ≡ Some position
  pub procedure : ProcedureTree
  pub there : slice_get p.procedures position ≡ Some procedure
  pub of_is : procedure.of ≡ structure
  pub tick : ParamTree
  pub others : List ParamTree
  pub params_are : procedure.params ≡ tick ∷ others
  pub tick_type : tick.type ≡ I32
  pub wide : AllZip (λ (i : Input) (q : ParamTree). IsWide q.type i.of) inputs others

-- a struct has a number field of this name
pub record HasNumberField (p : ProgramTree) (structure : ℕ) (name : List ℕ) : Type 0 where
  pub position : ℕ
  pub named : field_named (struct_fields p.structs structure) name ≡ Some position
  pub field : FieldTree
  pub there : slice_get (struct_fields p.structs structure) position ≡ Some field
  pub type : CType
  pub is_number : field.kind ≡ kind.Number type

-- a function takes inputs of a shape, and gives outputs of it
pub record IsFunctionOf (s : Shape) (f : Function) : Type 0 where
  pub inputs : ports_mask (ports_in f.inputs (map (λ i. i.port) (inputs_of s))) ≡ f.inputs
  pub outputs : f.outputs < 2 ^ length s.outputs

-- A shape by itself: at most 32 functions, inputs and outputs, and a cycle of 1 to 2^30 ticks.
pub record IsShape (s : Shape) : Type 0 where
  pub functions : length s.functions ≤ 32
  pub inputs : length s.inputs ≤ 32
  pub controls : AreControls (map (λ c. c.0) s.controls)
  pub outputs : length s.outputs ≤ 32
  pub each_function : AllByRecursion (IsFunctionOf s) s.functions
  pub some_ticks : 1 ≤ s.hyper
  pub few_ticks : s.hyper ≤ 2 ^ 30

-- There is such an instance, and its struct has the procedures and the outputs' fields that the
-- shape names.
pub record IsDrivable (p : ProgramTree) (instance : ℕ) (s : Shape) : Type 0 where
  pub shape : IsShape s
  pub instance_is : StructInstance
  pub there : instance_at p instance ≡ Some instance_is
  pub functions : (j : ℕ) → 0 < j → j ≤ length s.functions →
      HasProcedure p instance_is.struct (function_name s.name j) (function_inputs s j)
  pub update : HasProcedure p instance_is.struct (named_update s.name) (inputs_of s)
  pub outputs : AllByRecursion (HasNumberField p instance_is.struct) s.outputs
