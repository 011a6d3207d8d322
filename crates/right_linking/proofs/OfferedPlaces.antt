-- What the children of a system offer comes in the program before its own procedures, where its code goes to.
use Rattle.std.specs.Prelude.{◌≡◌, ℕ, ◌<◌, ◌≤◌, List, [], ◌∷◌, ◌++◌, map, flat_map, length, slice_get, slice_index, Contains, Option, Some, refl}
use Rattle.std.specs.List.{range_with_len}
use Rattle.std.proofs.Common.{sym, ap, ap₂, subst, ◌∙◌, arith, inl, inr}
use Rattle.std.proofs.lemmas.List.{map-append}
use Rattle.std.proofs.lemmas.List.Elements.{All-contains, Contains-append_cases}
use Rattle.std.proofs.lemmas.Option.{get_or_from_slice_get}
use Rattle.modules_profile.specs.declared.ChildUse.{ChildUse}
use Rattle.modules_profile.specs.LawfulLocals.{IsChild}
use Rattle.modules_profile.specs.NodeFacts.{LocalsAreLawful}
use Rattle.modules_profile.specs.SystemHeader.{SystemHeader}
use Rattle.modules_profile.specs.Headers.{header_functions}
use Rattle.modules_profile.specs.Systems.{system_name}
use Rattle.c_syntax.specs.Tree.{StructTree}
use Rattle.c_semantics.specs.Machine.{Routine, no_routine, routine_at, program_routines}
use Rattle.emit_shape.specs.Heads.{Head, public_heads, out_head, update_head, start_head, reset_head}
use Rattle.emit_shape.specs.Names.{out_name, update_name, start_name, reset_name}
use Rattle.emit_shape.specs.Programs.{procedure_place}
use Rattle.emit_shape.specs.Assembled.{code_at, code_named, child_names, first_procedure, public_positions, relocation_of}
use Rattle.right_relation.specs.Instances.{Offered}
use Rattle.right_relation.specs.Relation.{offered_routines, children_routines}
use Rattle.modules_profile.proofs.lemmas.Members.{in-first, in-rest, in-none, in-at, at-map, below-at}
use Rattle.right_linking.specs.Parts.{Parts, program_of, all_systems, coded_header, IsCodedAs, IsChildBehind, Views}
use Rattle.right_linking.specs.Places.{SystemsHavePlaces}
use Rattle.right_linking.specs.Offers.{offered_by, program_offer, offer_of, child_offers}
use Rattle.right_linking.proofs.FirstPlaces.{mapped-length}
use Rattle.right_linking.proofs.SystemPlaces.{member, code-is}
use Rattle.right_linking.proofs.ChildSlots.{child-names}
use Rattle.right_linking.proofs.NamedCodes.{code-found, head-before, positions-are}

-- ---- Lists of lists

flat-same : {A B : Type 0} (f g : A → List B) (xs : List A) → ((x : A) → Contains xs x → f x ≡ g x) → flat_map f xs ≡ flat_map g xs
flat-same f g [] same = refl
flat-same f g (x ∷ xs) same = ap₂ (λ ys zs. ys ++ zs) (same x (in-first x xs)) (flat-same f g xs (λ y has. same y (in-rest x y xs has)))

flat-mapped : {A B C : Type 0} (f : B → List C) (g : A → B) (xs : List A) → flat_map f (map g xs) ≡ flat_map (λ x. f (g x)) xs
flat-mapped f g [] = refl
flat-mapped f g (x ∷ xs) = ap (λ ys. f (g x) ++ ys) (flat-mapped f g xs)

flat-map : {A B C : Type 0} (h : B → C) (f : A → List B) (xs : List A) → flat_map (λ x. map h (f x)) xs ≡ map h (flat_map f xs)
flat-map h f [] = refl
flat-map h f (x ∷ xs) = ap (λ ys. map h (f x) ++ ys) (flat-map h f xs) ∙ sym (map-append h (f x) (flat_map f xs))

in-flat : {A B : Type 0} (f : A → List B) (P : B → Type 0) (xs : List A) → ((x : A) (y : B) → Contains xs x → Contains (f x) y → P y) →
    (y : B) → Contains (flat_map f xs) y → P y
in-flat f P [] holds y has = absurd (in-none y has)
in-flat f P (x ∷ xs) holds y has = elim (Contains-append_cases (f x) (flat_map f xs) y has) [
  | inl here ↦ holds x y (in-first x xs) here
  | inr there ↦ in-flat f P xs (λ z w more. holds z w (in-rest x z xs more)) y there
]

module _ (a : Parts) (v : Views a) (place : ℕ) (s : Option ℕ) (stands : slice_get (all_systems a) place ≡ Some s) where
  known : IsCodedAs a place s (v.at s)
  known = v.each place s stands

  abbrev children : List ChildUse
  children = (v.at s).local.children

  pub behind : (u : ChildUse) → Contains children u → IsChildBehind a v.at place u
  behind u has = member (IsChildBehind a v.at place) children u (v.children place s stands) has

  -- ---- What children offer, by the heads of their procedures

  abbrev heads : List Head
  heads = flat_map (λ (u : ChildUse). public_heads u.header) children

  abbrev place_of : Head → ℕ
  place_of head = procedure_place (program_of a) head.name

  abbrev routine_of : Head → Routine
  routine_of head = routine_at (program_routines (program_of a)) (place_of head)

  offer-routines : (h : SystemHeader) → offered_routines (program_offer (program_of a) h) ≡ map routine_of (public_heads h)
  offer-routines h = by (range_with_len 1 (length (header_functions h)))
    where
      by : (ks : List ℕ) →
          map (λ (q : Offered). q.routine) (map (λ j. offered_by (program_of a) (out_name h.row j)) ks
          ++ offered_by (program_of a) (update_name h.row) ∷ offered_by (program_of a) (start_name h.row)
          ∷ offered_by (program_of a) (reset_name h.row) ∷ [])
          ≡ map routine_of (map (out_head h) ks ++ update_head h ∷ start_head h ∷ reset_head h ∷ [])
      by [] = refl
      by (k ∷ ks) = ap (λ rs. routine_of (out_head h k) ∷ rs) (by ks)

  pub routines-are : children_routines (child_offers a v s) ≡ map routine_of heads
  routines-are =
      flat-mapped offered_routines (λ (u : ChildUse). offer_of a v u.header.row) children
      ∙ flat-same (λ (u : ChildUse). offered_routines (offer_of a v u.header.row))
      (λ (u : ChildUse). map routine_of (public_heads u.header)) children
      (λ u has.
      ap (λ (h : SystemHeader). offered_routines (program_offer (program_of a) h)) (sym (behind u has).header)
      ∙ offer-routines u.header)
      ∙ flat-map routine_of (λ (u : ChildUse). public_heads u.header) children

  pub routines-long : length (children_routines (child_offers a v s)) ≡ length heads
  routines-long = ap (λ (rs : List Routine). length rs) routines-are ∙ mapped-length routine_of heads

  -- ---- Where they are

  child-names-are : child_names (code_at a.codes place) ≡ map (λ (u : ChildUse). system_name u.header.row) children
  child-names-are =
      ap child_names (code-is a place s (v.at s) known)
      ∙ child-names (v.at s).local (v.at s).slots known.shape.slots_right (v.at s).code
      (ap (λ (z : StructTree). z.fields) known.shape.structure)

  pub child-found : (u : ChildUse) (has : Contains children u) → code_named a.codes (system_name u.header.row) ≡ (behind u has).inner_place
  child-found u has = code-found a v (behind u has).inner_place u.header.row (behind u has).stands

  module _ (locals : LocalsAreLawful) (places : SystemsHavePlaces) where
    few : (u : ChildUse) → Contains children u → length (header_functions (coded_header (v.at u.header.row))) ≤ 32
    few u has =
        subst (λ (h : SystemHeader). length (header_functions h) ≤ 32) (behind u has).header
        (All-contains IsChild children u (locals a.model s (v.at s).local a.can.resolved known.local).are_children has).functions

    abbrev positions_named : List ℕ → List ℕ
    positions_named name = public_positions a.codes (code_named a.codes name)

    pub positions : flat_map positions_named (child_names (code_at a.codes place)) ≡ map place_of heads
    positions =
        ap (flat_map positions_named) child-names-are
        ∙ flat-mapped positions_named (λ (u : ChildUse). system_name u.header.row) children
        ∙ flat-same (λ (u : ChildUse). positions_named (system_name u.header.row))
        (λ (u : ChildUse). map place_of (public_heads u.header)) children
        (λ u has.
        let inner = behind u has in
        ap (public_positions a.codes) (child-found u has)
        ∙ positions-are a v inner.inner_place u.header.row inner.stands places (few u has)
        ∙ ap (λ (h : SystemHeader). map place_of (public_heads h)) (sym inner.header))
        ∙ flat-map place_of (λ (u : ChildUse). public_heads u.header) children

    place-before : (head : Head) → Contains heads head → place_of head < first_procedure a.codes place
    place-before head has =
        in-flat (λ (u : ChildUse). public_heads u.header) (λ z. place_of z < first_procedure a.codes place) children
        (λ u z of_child there.
        let inner = behind u of_child in
        head-before a v inner.inner_place u.header.row inner.stands places z
        (subst (λ (h : SystemHeader). Contains (public_heads h) z) inner.header there) place inner.later) head has

    pub offered : (i : ℕ) → i < length (children_routines (child_offers a v s)) →
        ((relocation_of a.codes place).offered i < first_procedure a.codes place)
        × (routine_at (program_routines (program_of a)) ((relocation_of a.codes place).offered i)
        ≡ routine_at (children_routines (child_offers a v s)) i)
    offered i less =
        let (head, at) = below-at heads i (omega (arith, less, routines-long)) in
        let here : (relocation_of a.codes place).offered i ≡ place_of head =
        ap (λ ns. slice_index ns i) positions
        ∙ get_or_from_slice_get (map place_of heads) i (place_of head) 0 (at-map place_of heads i head at) in
        let there : routine_at (children_routines (child_offers a v s)) i ≡ routine_of head =
        ap (λ rs. routine_at rs i) routines-are
        ∙ get_or_from_slice_get (map routine_of heads) i (routine_of head) no_routine (at-map routine_of heads i head at) in
        let before = place-before head (in-at heads i head at) in
        (omega (arith, here, before), ap (routine_at (program_routines (program_of a))) here ∙ sym there)
