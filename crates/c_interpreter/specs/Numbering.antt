-- How many instances are in each struct's, and where the numbers of each are.
use Rattle.std.specs.Prelude.{◌≡◌, ℕ, suc, ◌+◌, ◌<◌, ◌^◌, ℤ, List, [], ◌∷◌, ◌++◌, length, take, option_map, option_and_then, Option, Some, None, slice_get, slice_index_or}
use Rattle.c_syntax.specs.declared.program.FieldKind.{FieldKind}
use Rattle.c_syntax.specs.declared.program.FieldKind.TheVariants as kind
use Rattle.c_syntax.specs.Tree.{FieldTree, StructTree, struct_fields, ProgramTree}
use Rattle.c_interpreter.specs.Codes.{code_tree}
use Rattle.c_interpreter.specs.declared.instances.Numbering.{Numbering}
use Rattle.c_semantics.specs.Cells.{Cells}
use Rattle.base_core.specs.Numbers.{int_at}
use Rattle.c_interpreter.specs.declared.slots.Slot.{Slot}
use Rattle.c_interpreter.specs.declared.slots.Slot.TheVariants.{Number, Array, Instance}
use Rattle.c_interpreter.specs.Slots.{StructLayout, layout_at}
use Rattle.c_interpreter.specs.Layouts.{AreLaidOut}
use Rattle.c_interpreter.specs.Sound.{zero_at, zeros_of, IsProcedureOf}
use Rattle.c_interpreter.specs.States.{filled}
use Rattle.c_interpreter.specs.Instances.{StructInstance, whole_instance, field_instances, struct_instances}

-- how many instances are in a field
abbrev pub kind_count : List ℕ → FieldKind → ℕ
kind_count counts (kind.Number type) = 0
kind_count counts (kind.Array type count) = 0
kind_count counts (kind.Struct k) = slice_index_or counts k 0

-- how many are in fields
abbrev pub fields_count : List ℕ → List FieldTree → ℕ
fields_count counts [] = 0
fields_count counts (f ∷ fs) = kind_count counts f.kind + fields_count counts fs

-- how many an instance of each struct is, with those inside it; a struct holds only earlier ones
abbrev pub counts_of : List ℕ → List StructTree → List ℕ
counts_of earlier [] = earlier
counts_of earlier (s ∷ ss) = counts_of (earlier ++ suc (fields_count earlier s.fields) ∷ []) ss

-- the counts of structs, whose instances are these
pub record AreNumbered (structs : List StructTree) (counts : List ℕ)
    (all : List (List StructInstance)) : Type 0 where
  pub counted : (k : ℕ) → slice_index_or counts k 0 ≡ length (slice_index_or all k [])
  pub first : (k : ℕ) → k < length structs → slice_index_or all k [] ≡ whole_instance k
      ∷ field_instances all 0 (struct_fields structs k)
  pub earlier : (k f c : ℕ) (x : FieldTree) → slice_get (struct_fields structs k) f ≡ Some x →
      x.kind ≡ kind.Struct c → c < k

-- the instances of each struct of a program
abbrev pub instances_of : ProgramTree → List (List StructInstance)
instances_of p = struct_instances [] p.structs

-- those in an instance of the struct at a position
abbrev pub instances_in : ProgramTree → ℕ → List StructInstance
instances_in p k = slice_index_or (instances_of p) k []

-- the instance with this number, counted from those in the first field, is the one with the number
-- `left` in the field at a position
pub record IsHeld (counts : List ℕ) (fields : List FieldTree)
    (position left number : ℕ) : Type 0 where
  pub field : FieldTree
  pub there : slice_get fields position ≡ Some field
  pub inside : left < kind_count counts field.kind
  pub sum : number ≡ fields_count counts (take position fields) + left

-- from an instance of a struct a path leads to one of this struct, whose numbers begin there
abbrev pub IsReached : List StructLayout → ℕ → List ℕ → ℕ → ℕ → Type 0
IsReached layouts of [] struct at = (struct ≡ of) × (at ≡ 0)
IsReached layouts of (f ∷ path) struct at =
    (from size inner rest : ℕ)
    × (slice_get (layout_at layouts of).slots f ≡ Some (Instance from size inner))
    × (at ≡ from + rest) × IsReached layouts inner path struct rest

-- an instance that a path leads to, seen from where the path begins
abbrev pub instance_below : List ℕ → StructInstance → StructInstance
instance_below path i = record { path = path ++ i.path; struct = i.struct }

-- the instance with a number has this struct, and its numbers begin there; after it come those
-- inside it
pub record IsPlace (p : ProgramTree) (layouts : List StructLayout)
    (root number struct at : ℕ) : Type 0 where
  pub path : List ℕ
  pub known : struct < length p.structs
  pub reached : IsReached layouts root path struct at
  pub there : (n : ℕ) → n < length (instances_in p struct) →
      slice_get (instances_in p root) (number + n)
      ≡ option_map (instance_below path) (slice_get (instances_in p struct) n)

-- the tables are those of a program and small enough, and there is such a root
pub record IsNumbering (n : Numbering) : Type 0 where
  pub laid : AreLaidOut (code_tree n.code).structs n.code.layouts (zeros_of (code_tree n.code))
  pub numbered : AreNumbered (code_tree n.code).structs n.counts.now
      (instances_of (code_tree n.code))
  pub root_known : n.root < length (code_tree n.code).structs
  pub sized : (layout_at n.code.layouts n.root).size < 2 ^ 64
  pub counted : n.count ≡ length (instances_in (code_tree n.code) n.root)
  pub few : n.count < 2 ^ 32

-- the instances of its root
abbrev pub all_instances : Numbering → List StructInstance
all_instances n = instances_in (code_tree n.code) n.root

-- its root, with these numbers
abbrev pub root_cells : Numbering → List ℤ → Cells
root_cells n numbers = filled (zero_at (code_tree n.code) n.root) numbers

-- the instance with a number, counted from those in the first field, is the one with the number
-- `left` in a field that holds an instance of this struct, whose numbers begin there
pub record IsStep (p : ProgramTree) (layouts : List StructLayout) (counts : List ℕ)
    (of inner from left number : ℕ) : Type 0 where
  pub position : ℕ
  pub size : ℕ
  pub field : FieldTree
  pub there : slice_get (struct_fields p.structs of) position ≡ Some field
  pub kind_is : field.kind ≡ kind.Struct inner
  pub slot : slice_get (layout_at layouts of).slots position ≡ Some (Instance from size inner)
  pub inside : left < slice_index_or counts inner 0
  pub sum : number ≡ fields_count counts (take position (struct_fields p.structs of)) + left

-- an instance is the one with the number `left` in an instance of a struct, whose numbers begin
-- there
pub record IsOnWay (p : ProgramTree) (layouts : List StructLayout)
    (root instance left struct at : ℕ) : Type 0 where
  pub base : ℕ
  pub sum : base + left ≡ instance
  pub place : IsPlace p layouts root base struct at
  pub inside : left < length (instances_in p struct)

-- how many instances are before the one that a field at a position holds, where it holds one
abbrev pub kind_before : ℕ → FieldKind → Option ℕ
kind_before before (kind.Number type) = None
kind_before before (kind.Array type count) = None
kind_before before (kind.Struct k) = Some before

-- the same of the field at a position
abbrev pub struct_count : List ℕ → List FieldTree → ℕ → Option ℕ
struct_count counts fields position =
    option_and_then (λ x. kind_before (fields_count counts (take position fields)) x.kind)
    (slice_get fields position)

-- the number that a field holds, where it is one
abbrev pub slot_number : List ℤ → Option Slot → Option ℤ
slot_number numbers None = None
slot_number numbers (Some (Number at type)) = Some (int_at numbers at)
slot_number numbers (Some (Array at count type)) = None
slot_number numbers (Some (Instance at size of)) = None

-- there is an instance with this number, and the procedure is one of its struct
pub record HasInstance (p : ProgramTree) (root procedure instance : ℕ) : Type 0 where
  pub there_is : StructInstance
  pub there : slice_get (instances_in p root) instance ≡ Some there_is
  pub procedure_of : IsProcedureOf p procedure there_is.struct
