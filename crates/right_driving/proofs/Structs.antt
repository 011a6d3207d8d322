-- The structs of a lawful program by their names, and the names of the fields of each.
use Rattle.std.specs.Prelude.{◌≡◌, ℕ, zero, suc, ◌+◌, List, [], ◌∷◌, map, slice_get, slice_index_or, Option, Some, None, refl}
use Rattle.std.proofs.Common.{sym, ap, arith}
use Rattle.modules_profile.specs.Systems.{system_name}
use Rattle.c_syntax.specs.Tree.{FieldTree, StructTree, no_struct, struct_fields, ProgramTree}
use Rattle.c_syntax.specs.Lawful.{AreDistinct, AreStructs, IsLawful}
use Rattle.c_syntax.specs.RootFields.{struct_named}
use Rattle.emit_shape.specs.Programs.{struct_at}
use Rattle.right_driving.proofs.Lists.{name-place}

-- ---- Structs

abbrev first_of : List ℕ → ℕ
first_of [] = 0
first_of (b ∷ bs) = b

pub system-some : (s : Option ℕ) → system_name s ≡ [] → ⊥
system-some None none = let e : 116 ≡ 0 = ap first_of none in omega (arith, e)
system-some (Some r) none = let e : 115 ≡ 0 = ap first_of none in omega (arith, e)

standing : (structs : List StructTree) (k : ℕ) (name : List ℕ) → (name ≡ [] → ⊥) → (slice_index_or structs k no_struct).name ≡ name →
    (s : StructTree) × (slice_get structs k ≡ Some s) × (s.name ≡ name)
standing [] k name some is = absurd (some (sym is))
standing (s ∷ structs) zero name some is = (s, refl, is)
standing (s ∷ structs) (suc k) name some is = standing structs k name some is

-- a struct is found by its name
pub struct-found : (p : ProgramTree) (k : ℕ) (name : List ℕ) → IsLawful p → (name ≡ [] → ⊥) → (struct_at p k).name ≡ name →
    struct_named p name ≡ Some k
struct-found p k name lawful some is =
    let here = standing p.structs k name some is in
    name-place (λ (s : StructTree). s.name) p.structs k here.0 name lawful.struct_names here.1 here.2

-- ---- Fields

fields-apart : (count : ℕ) (structs : List StructTree) (k : ℕ) → AreStructs count structs →
    AreDistinct (map (λ (f : FieldTree). f.name) (struct_fields structs k))
fields-apart count [] k all = tt
fields-apart count (s ∷ structs) zero all = all.0.fields
fields-apart count (s ∷ structs) (suc k) all = fields-apart (count + 1) structs k all.1

-- the names of a struct's fields differ
pub fields-differ : (p : ProgramTree) (k : ℕ) → IsLawful p → AreDistinct (map (λ (f : FieldTree). f.name) (struct_fields p.structs k))
fields-differ p k lawful = fields-apart 0 p.structs k lawful.structs
