-- A walk through the systems of a model.
use Rattle.std.proofs.Common.{◌≡◌, ℕ, ◌+◌, ◌<◌, ◌≤◌, List, [], ◌∷◌, ◌++◌, map, length, take, get_or, slice_get, Option, Some, refl, sym, ap, ◌∙◌, append_assoc, append-nil, arith}
use Rattle.std.specs.Prelude.{flat_map, Contains}
use Rattle.std.proofs.lemmas.List.{length-map, take_all, take_more}
use Rattle.std.proofs.lemmas.List.Concat.{flat_map-append}
use Rattle.std.proofs.lemmas.Option.{get_or_from_slice_get}
use Rattle.diagram_meaning.specs.declared.subsystem.Subsystem.{Subsystem}
use Rattle.diagram_meaning.specs.declared.subsystem.Subsystem.TheViews.{out-Subsystem}
use Rattle.diagram_meaning.specs.Nested.{System, Systems, system, no_more, next, system_of, row_of}
use Rattle.modules_profile.specs.Systems.{listed, children_of}
use Rattle.modules_profile.specs.TreeProfiles.{rows_inside, rows_of_all}
use Rattle.modules_profile.proofs.lemmas.Members.{at-below, in-at}
use Rattle.modules_profile.proofs.lemmas.SystemsInside.{children-are, got-mapped}

all-listed : (cs : Systems) → flat_map rows_inside (listed cs) ≡ rows_of_all cs
all-listed no_more = refl
all-listed (next c rest) = ap (λ rows. rows_inside c ++ rows) (all-listed rest)

-- a system comes before those inside it
row-first : (s : System) → rows_inside s ≡ row_of s ∷ flat_map rows_inside (children_of s)
row-first (system row line control own children) = ap (λ rows. row ∷ rows) (sym (all-listed children))

-- one more of the systems directly inside one
inside-more : (cs : List System) (i : ℕ) (c : System) → slice_get cs i ≡ Some c →
    flat_map rows_inside (take (i + 1) cs) ≡ flat_map rows_inside (take i cs) ++ rows_inside c
inside-more cs i c at =
    ap (flat_map rows_inside) (take_more cs i c (at-below cs i c at)
    ∙ ap (λ x. take i cs ++ x ∷ []) (get_or_from_slice_get cs i c c at))
    ∙ flat_map-append rows_inside (take i cs) (c ∷ [])
    ∙ ap (λ rows. flat_map rows_inside (take i cs) ++ rows) (append-nil (rows_inside c))

-- the systems directly inside one are these values
module _ (s : Subsystem) (items : List Subsystem) (are : items ≡ (out-Subsystem s).children.items) where
  children-listed : children_of (system_of s) ≡ map system_of items
  children-listed = children-are s ∙ ap (map system_of) (sym are)

  child-at : (i : ℕ) (child : Subsystem) → i < length items → child ≡ get_or items i child →
      slice_get (children_of (system_of s)) i ≡ Some (system_of child)
  child-at i child below is = ap (λ xs. slice_get xs i) children-listed ∙ got-mapped system_of items i child below is

  pub child-in : (i : ℕ) (child : Subsystem) → i < length items → child ≡ get_or items i child →
      Contains (children_of (system_of s)) (system_of child)
  child-in i child below is = in-at (children_of (system_of s)) i (system_of child) (child-at i child below is)

  pub child-added : (i : ℕ) (child : Subsystem) (first so_far now : List (Option ℕ)) → i < length items → child ≡ get_or items i child →
      so_far ≡ first ++ row_of (system_of s) ∷ flat_map rows_inside (take i (children_of (system_of s))) →
      now ≡ so_far ++ rows_inside (system_of child) →
      now ≡ first ++ row_of (system_of s) ∷ flat_map rows_inside (take (i + 1) (children_of (system_of s)))
  child-added i child first so_far now below is before added =
      let cs = children_of (system_of s) in
      added ∙ ap (λ l. l ++ rows_inside (system_of child)) before
      ∙ append_assoc first (row_of (system_of s) ∷ flat_map rows_inside (take i cs)) (rows_inside (system_of child))
      ∙ ap (λ l. first ++ row_of (system_of s) ∷ l) (sym (inside-more cs i (system_of child) (child-at i child below is)))

  pub all-added : (i : ℕ) (first now : List (Option ℕ)) → length items ≤ i →
      now ≡ first ++ row_of (system_of s) ∷ flat_map rows_inside (take i (children_of (system_of s))) →
      now ≡ first ++ rows_inside (system_of s)
  all-added i first now past added =
      let cs = children_of (system_of s) in
      let many : length cs ≡ length items = ap length children-listed ∙ length-map items system_of in
      added ∙ ap (λ l. first ++ row_of (system_of s) ∷ flat_map rows_inside l) (take_all i cs (omega (arith, many, past)))
      ∙ ap (λ l. first ++ l) (sym (row-first (system_of s)))
