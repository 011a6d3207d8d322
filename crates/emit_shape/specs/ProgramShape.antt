-- The shape of a program for a diagram: each system in a struct and procedures of its own.
use Rattle.std.specs.Prelude.{◌≡◌, ℕ, not, Bool, List, ◌∷◌, map, filter, Contains, IsPermutation, Option}
use Rattle.std.specs.List.{AllByRecursion}
use Rattle.diagram_meaning.specs.Diagram.{Diagram}
use Rattle.modules_profile.specs.SystemProfile.{SystemProfile}
use Rattle.modules_profile.specs.SystemHeader.{SystemHeader}
use Rattle.modules_profile.specs.LocalSystem.{LocalSystem}
use Rattle.modules_profile.specs.Systems.{system_name, systems}
use Rattle.modules_profile.specs.Functions.{IsProfileOf}
use Rattle.modules_profile.specs.Locals.{local_of, own_header}
use Rattle.modules_profile.specs.NodeFacts.{AreHeaders}
use Rattle.c_syntax.specs.declared.FieldKind.{FieldKind}
use Rattle.c_syntax.specs.declared.FieldKind.TheVariants.{Number, Array, Struct}
use Rattle.c_syntax.specs.Lawful.{pure_without_lines}
use Rattle.c_syntax.specs.Tree.{PureTree, ProgramTree}
use Rattle.emit_prelude.specs.Bodies.{function_trees}
use Rattle.emit_shape.specs.Names.{root_name}
use Rattle.emit_shape.specs.Heads.{head_of, public_heads}
use Rattle.emit_shape.specs.CodeNames.{NamedField, named_fields}
use Rattle.c_syntax.specs.Kinds.{WrittenKind, number_kind, array_kind, struct_kind}
use Rattle.emit_shape.specs.Rules.{KeepsRules}
use Rattle.emit_shape.specs.Once.{StatesOnce}
use Rattle.emit_shape.specs.Slots.{Slot, slot_field, counters_in, AreSlots}
use Rattle.emit_shape.specs.Used.{AreUsed}
use Rattle.emit_shape.specs.Programs.{struct_at, names_in, procedures_of, struct_place}
use Rattle.emit_shape.specs.RootCode.{HasRootCode}

-- a slot's field; the struct of a child has the name of its field
abbrev pub kind_by_name : List ℕ → FieldKind → WrittenKind
kind_by_name name (Number type) = number_kind type
kind_by_name name (Array type count) = array_kind type count
kind_by_name name (Struct k) = struct_kind name

abbrev pub named_slot : Slot → NamedField
named_slot s =
    record {
      name = (slot_field s).name;
      kind = kind_by_name (slot_field s).name (slot_field s).kind;
    }

-- a struct's fields are those of these slots
pub record HasFields (local : LocalSystem) (fields : List NamedField) : Type 0 where
  pub slots : List Slot
  pub are_slots : AreSlots local slots
  pub are_fields : map named_slot slots ≡ fields

-- the system s of a diagram by its own rows, with its profile, where its children have these
-- headers
pub record SystemView (d : Diagram) (delays : List Bool) (s : Option ℕ) : Type 0 where
  pub headers : List SystemHeader
  pub are_headers : AreHeaders d s headers
  pub profile : SystemProfile
  pub is_profile : IsProfileOf d s profile

abbrev pub viewed : {d : Diagram} {delays : List Bool} {s : Option ℕ} → SystemView d delays s →
    LocalSystem
viewed {d} {delays} {s} view = local_of d delays s view.headers

-- The code of the system s: its struct, its public procedures, what its procedures touch, and that
-- none of its own is idle. In these words there is nothing of the rows of another system but the
-- headers of the children.
pub record HasSystemShape (p : ProgramTree) (d : Diagram) (delays : List Bool)
    (s : Option ℕ) : Type 0 where
  pub view : SystemView d delays s
  pub struct_there : (struct_at p (struct_place p s)).name ≡ system_name s
  pub fields : HasFields (viewed view)
      (named_fields (names_in p (struct_place p s)) (struct_at p (struct_place p s)).fields)
  pub heads : IsPermutation (public_heads (own_header (viewed view) view.profile))
      (filter (λ h. not h.private) (map head_of (procedures_of p (struct_place p s))))
  pub rules : AllByRecursion
      (KeepsRules (names_in p (struct_place p s)) (viewed view) (counters_in fields.slots))
      (procedures_of p (struct_place p s))
  pub once : StatesOnce (names_in p (struct_place p s)) (viewed view)
      (procedures_of p (struct_place p s))
  pub used : AreUsed (names_in p (struct_place p s)) (counters_in fields.slots)
      (procedures_of p (struct_place p s))

-- pure functions are among the eight, whatever lines they are on
abbrev pub AreOfPrelude : List PureTree → Type 0
AreOfPrelude = AllByRecursion (λ f. Contains function_trees (pure_without_lines f))

-- the shape of a program for a diagram whose hits repeat after `hyper` ticks
pub record HasShape (p : ProgramTree) (d : Diagram) (delays : List Bool) (hyper : ℕ) : Type 0 where
  pub pures : AreOfPrelude p.pures
  pub structs : IsPermutation (root_name ∷ map system_name (systems d.rows))
      (map (λ st. st.name) p.structs)
  pub each : AllByRecursion (HasSystemShape p d delays) (systems d.rows)
  pub root : HasRootCode p d hyper
