-- The instances of three structs: the root holds a middle one, a number and a leaf, and the middle
-- one a number and two leaves.
use Rattle.std.specs.Prelude.{◌≡◌, refl, ℤ, pos, [], ◌∷◌, Some, None, codes}
use Rattle.c_syntax.specs.declared.code.CType.TheVariants.{I8, I32}
use Rattle.c_syntax.specs.declared.program.FieldKind.TheVariants.{Number, Struct}
use Rattle.c_semantics.specs.Cells.{Cells, number, object, no_cells, more_cells}
use Rattle.c_syntax.specs.Tree.{StructTree, ProgramTree}
use Rattle.c_interpreter.specs.Instances.{instances, child_named, number_named}

abbrev pub leaf : StructTree
leaf = record { name = codes "leaf"; fields = record { name = codes "v"; kind = Number I8 } ∷ [] }

abbrev pub middle : StructTree
middle =
    record {
      name = codes "middle";
      fields = record { name = codes "a"; kind = Number I32 }
          ∷ record { name = codes "l"; kind = Struct 0 }
          ∷ record { name = codes "r"; kind = Struct 0 }
          ∷ [];
    }

abbrev pub root : StructTree
root = record {
  name = codes "root";
  fields = record { name = codes "m"; kind = Struct 1 }
      ∷ record { name = codes "y1"; kind = Number I32 }
      ∷ record { name = codes "n"; kind = Struct 0 }
      ∷ [];
}

abbrev pub nested : ProgramTree
nested = record { pures = []; structs = leaf ∷ middle ∷ root ∷ []; procedures = [] }

-- the root, its m, the l and r of m, and its n
pub nested-instances : instances nested ≡ record { path = []; struct = 2 }
    ∷ record { path = 0 ∷ []; struct = 1 } ∷ record { path = 0 ∷ 1 ∷ []; struct = 0 }
    ∷ record { path = 0 ∷ 2 ∷ []; struct = 0 } ∷ record { path = 2 ∷ []; struct = 0 } ∷ []
nested-instances = refl

pub r-of-m : child_named nested (codes "r") (record { path = 0 ∷ []; struct = 1 })
    ≡ Some (record { path = 0 ∷ 2 ∷ []; struct = 0 })
r-of-m = refl

pub a-is-no-struct : child_named nested (codes "a") (record { path = 0 ∷ []; struct = 1 }) ≡ None
a-is-no-struct = refl

abbrev pub one : ℤ → Cells
one v = more_cells (number v) no_cells

abbrev pub fields : Cells
fields =
    more_cells
    (object (more_cells (number (pos 1))
    (more_cells (object (one (pos 2))) (more_cells (object (one (pos 3))) no_cells))))
    (more_cells (number (pos 4)) (more_cells (object (one (pos 5))) no_cells))

pub v-of-r : number_named nested fields (codes "v") (record { path = 0 ∷ 2 ∷ []; struct = 0 })
    ≡ Some (pos 3)
v-of-r = refl

pub r-is-no-number : number_named nested fields (codes "r") (record { path = 0 ∷ []; struct = 1 })
    ≡ None
r-is-no-number = refl
