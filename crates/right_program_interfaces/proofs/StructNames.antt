-- The structs of an assembled program are those of its systems and the root's.
use Rattle.std.specs.Prelude.{◌≡◌, ℕ, zero, suc, ◌+◌, List, [], ◌∷◌, ◌++◌, map, length, slice_get, IsPermutation, Some, refl}
use Rattle.std.specs.List.{range_with_len}
use Rattle.std.proofs.Common.{sym, ap, ap₂, subst, ◌∙◌, arith}
use Rattle.std.proofs.lemmas.List.{map-append}
use Rattle.std.proofs.lemmas.List.Sorted.{IsPermutation-sym, IsPermutation-cons, IsPermutation-to_front, IsPermutation-map, IsPermutation-trans}
use Rattle.modules_profile.specs.Systems.{system_name}
use Rattle.c_syntax.specs.Tree.{StructTree}
use Rattle.emit_shape.specs.Names.{root_name}
use Rattle.emit_shape.specs.Assembled.{code_at, moved_struct, root_structure}
use Rattle.right_claim.specs.Assembly.{IsCodeOf}
use Rattle.right_linking.specs.Parts.{Parts, program_of, all_systems, CodesHaveViews, Views}
use Rattle.right_linking.proofs.lemmas.AssembledNames.{struct-name}
use Rattle.right_linking.proofs.lemmas.AssembledPlaces.{down, structs-down}
use Rattle.right_program_interfaces.specs.Shapes.{StructsAreNamed}
use Rattle.right_program_interfaces.proofs.Lists.{map-map, zip-long}

range-snoc : (a n : ℕ) → range_with_len a (suc n) ≡ range_with_len a n ++ (a + n) ∷ []
range-snoc a zero = let same : a ≡ a + 0 = omega arith in ap (λ k. k ∷ []) same
range-snoc a (suc n) = let same : a + 1 + n ≡ a + suc n = omega arith in
    ap (λ ks. a ∷ ks) (range-snoc (a + 1) n ∙ ap (λ k. range_with_len (a + 1) n ++ k ∷ []) same)

down-range : (n : ℕ) → IsPermutation (range_with_len 0 n) (down n)
down-range zero = record { moves = []; below = tt; is = refl }
down-range (suc n) =
    let last : 0 + n ≡ n = omega arith in
    subst (λ xs. IsPermutation xs (down (suc n))) (sym (range-snoc 0 n ∙ ap (λ k. range_with_len 0 n ++ k ∷ []) last))
    (IsPermutation-trans (range_with_len 0 n ++ n ∷ []) (n ∷ range_with_len 0 n) (n ∷ down n)
    (IsPermutation-to_front (range_with_len 0 n) n) (IsPermutation-cons n (range_with_len 0 n) (down n) (down-range n)))

by-range : {A B : Type 0} (f : A → B) (g : ℕ → B) (xs : List A) (n : ℕ) → ((k : ℕ) (x : A) → slice_get xs k ≡ Some x → f x ≡ g (n + k)) →
    map f xs ≡ map g (range_with_len n (length xs))
by-range f g [] n same = refl
by-range f g (x ∷ xs) n same =
    let none_more : n + 0 ≡ n = omega arith in
    ap₂ (λ y ys. y ∷ ys) (same 0 x refl ∙ ap g none_more)
    (by-range f g xs (n + 1) (λ k y at. same (suc k) y at ∙ (let next : n + suc k ≡ n + 1 + k = omega arith in ap g next)))

module _ (a : Parts) (v : Views a) where
  abbrev many : ℕ
  many = length a.codes

  abbrev name_at : ℕ → List ℕ
  name_at i = (code_at a.codes i).structure.name

  abbrev moved_at : ℕ → StructTree
  moved_at i = moved_struct a.codes (code_at a.codes i)

  all-names : map system_name (all_systems a) ≡ map name_at (range_with_len 0 many)
  all-names =
      by-range system_name name_at (all_systems a) 0
      (λ k s at. let none_more : k ≡ 0 + k = omega arith in sym (struct-name a k s (v.at s) (v.each k s at)) ∙ ap name_at none_more)
      ∙ ap (λ n. map name_at (range_with_len 0 n)) (zip-long (IsCodeOf a.model) (all_systems a) a.codes a.can.each)

  names-are : map (λ (st : StructTree). st.name) (program_of a).structs ≡ map name_at (down many) ++ root_name ∷ []
  names-are =
      ap (map (λ (st : StructTree). st.name)) (structs-down a)
      ∙ map-append (λ (st : StructTree). st.name) (map moved_at (down many)) (root_structure a.codes a.root a.hyper ∷ [])
      ∙ ap (λ ns. ns ++ root_name ∷ []) (map-map (λ (st : StructTree). st.name) moved_at (down many))

  pub structs-named : IsPermutation (root_name ∷ map system_name (all_systems a))
      (map (λ (st : StructTree). st.name) (program_of a).structs)
  structs-named =
      subst (IsPermutation (root_name ∷ map system_name (all_systems a))) (sym names-are)
      (IsPermutation-trans (root_name ∷ map system_name (all_systems a)) (root_name ∷ map name_at (down many))
      (map name_at (down many) ++ root_name ∷ [])
      (IsPermutation-cons root_name (map system_name (all_systems a)) (map name_at (down many))
      (subst (λ ns. IsPermutation ns (map name_at (down many))) (sym all-names) (IsPermutation-map name_at (range_with_len 0 many)
      (down many) (down-range many))))
      (IsPermutation-sym (map name_at (down many) ++ root_name ∷ []) (root_name ∷ map name_at (down many))
      (IsPermutation-to_front (map name_at (down many)) root_name)))

pub structs_are_named : CodesHaveViews → StructsAreNamed
structs_are_named views a = structs-named a (views a)
