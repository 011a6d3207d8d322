-- Classes of subsystems that are the same, as the program keeps them.
use Rattle.std.specs.Prelude.{◌≡◌, ℕ, ◌<◌, ◌≤◌, List, [], ◌∷◌, ◌++◌, map, length, slice_index_or, Contains, Option, Some, None, nat_eq, ◌⊎◌}
use Rattle.indexmap.specs.IndexMap.{get}
use Rattle.diagram_meaning.specs.Diagram.{Diagram}
use Rattle.diagram_same.specs.declared.classes.Class.{Class}
use Rattle.diagram_same.specs.declared.classes.Classes.{Classes}
use Rattle.diagram_same.specs.Interiors.{IsInterior}
use Rattle.diagram_same.specs.Same.{AreSame, subsystem_rows}
use Rattle.diagram_same.specs.Signatures.{signature_of}

-- the first subsystem of a class
abbrev pub row_of : Class → ℕ
row_of class = class.first.row

-- the first subsystems of some classes
abbrev pub rows_of : List Class → List ℕ
rows_of list = map row_of list

-- what is read as a class past the end
abbrev pub no_class : Class
no_class = record { first = record { row = 0; end = 0 }; earlier = None }

abbrev pub class_at : List Class → ℕ → Class
class_at list k = slice_index_or list k no_class

-- the signature of the k-th class
abbrev pub signature_at : Diagram → List Class → ℕ → ℕ
signature_at d list k = signature_of d (row_of (class_at list k))

-- the last of the first n classes that has this signature, if one has
abbrev pub IsLast : Diagram → List Class → (signature n : ℕ) → Option ℕ → Type 0
IsLast d list signature n None = (k : ℕ) → k < n → signature_at d list k ≡ signature → ⊥
IsLast d list signature n (Some last) =
    (last < n) × (signature_at d list last ≡ signature)
    × ((k : ℕ) → last < k → k < n → signature_at d list k ≡ signature → ⊥)

-- the classes that have a signature are found from the last one on, each from the next
pub record AreChained (d : Diagram) (classes : Classes) : Type 0 where
  pub inside : (k : ℕ) → k < length classes.list.items →
      IsInterior d.rows (class_at classes.list.items k).first.row
      (class_at classes.list.items k).first.end
  pub latest : (signature : ℕ) →
      IsLast d classes.list.items signature (length classes.list.items)
      (get nat_eq classes.latest signature)
  pub earlier : (k : ℕ) → k < length classes.list.items →
      IsLast d classes.list.items (signature_at d classes.list.items k) k
      (class_at classes.list.items k).earlier

-- f is the first subsystem of a class, and the same as e
pub record HasClass (d : Diagram) (list : List Class) (e f : ℕ) : Type 0 where
  pub is_first : Contains (rows_of list) f
  pub same : AreSame d f e

-- no first subsystem of a class is the same as e
abbrev pub HasNoClass : Diagram → List Class → ℕ → Type 0
HasNoClass d list e = (f : ℕ) → Contains (rows_of list) f → AreSame d f e → ⊥

-- f is the first subsystem of e's class, which is among the old ones or is added to them
abbrev pub IsClassOf : Diagram → (old new : List Class) → (e f : ℕ) → Type 0
IsClassOf d old new e f =
    (HasClass d old e f × (rows_of new ≡ rows_of old))
    ⊎ (HasNoClass d old e × (f ≡ e) × (rows_of new ≡ rows_of old ++ e ∷ []))

-- the subsystems before a row, in classes: each class by its first one
pub record AreClassesBelow (d : Diagram) (end : ℕ) (firsts : List ℕ) : Type 0 where
  pub before : (f : ℕ) → Contains firsts f → f < end
  pub subsystems : (f : ℕ) → Contains firsts f → Contains (subsystem_rows d.rows) f
  pub all : (g : ℕ) → Contains (subsystem_rows d.rows) g → g < end →
      (f : ℕ) × Contains firsts f × (f ≤ g) × AreSame d f g
  pub apart : (f g : ℕ) → Contains firsts f → Contains firsts g → AreSame d f g → f ≡ g
