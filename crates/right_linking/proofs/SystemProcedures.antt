-- What a system offers in a program is what its code does among the procedures of its children.
use Rattle.std.specs.Prelude.{◌≡◌, ℕ, ◌+◌, ◌<◌, List, [], ◌∷◌, map, length, slice_get, Contains, Option, Some, refl}
use Rattle.std.specs.List.{range_with_len}
use Rattle.std.proofs.Common.{sym, ap, ap₂, subst, ◌∙◌}
use Rattle.std.proofs.lemmas.List.Elements.{Contains-append_left, Contains-append_right}
use Rattle.modules_profile.specs.SystemHeader.{SystemHeader}
use Rattle.modules_profile.specs.Headers.{header_functions}
use Rattle.c_syntax.specs.Tree.{ProcedureTree}
use Rattle.c_semantics.specs.Machine.{Routine, routine_at, program_routines}
use Rattle.c_semantics.specs.NumberingLaws.{ProceduresStandInOrder}
use Rattle.emit_shape.specs.Heads.{Head, public_heads, out_head, out_heads, update_head, start_head, reset_head}
use Rattle.emit_shape.specs.RelocationLaws.{MovedCodeAgrees}
use Rattle.emit_shape.specs.Assembled.{first_procedure}
use Rattle.emit_shape.specs.LocalShape.{own_position}
use Rattle.right_relation.specs.Instances.{Offered}
use Rattle.right_relation.specs.Relation.{children_routines, system_routines}
use Rattle.modules_profile.proofs.lemmas.Members.{in-first, in-rest, in-map, in-at, at-below}
use Rattle.right_linking.specs.Parts.{Parts, program_of, all_systems, coded_header, Views}
use Rattle.right_linking.specs.Places.{SystemsHavePlaces, FieldsAreFound}
use Rattle.right_linking.specs.Offers.{offered_by, child_offers, NamesAgree, ProceduresFollow}
use Rattle.right_linking.proofs.ProcedurePlaces.{head-there, own-place}
use Rattle.right_linking.proofs.MovedRoutines.{own-routines-agree}
use Rattle.right_linking.proofs.OutputPlaces.{places-are}

map-same : {A B : Type 0} (f g : A → B) (xs : List A) → ((x : A) → Contains xs x → f x ≡ g x) → map f xs ≡ map g xs
map-same f g [] same = refl
map-same f g (x ∷ xs) same = ap₂ (λ y ys. y ∷ ys) (same x (in-first x xs)) (map-same f g xs (λ z has. same z (in-rest x z xs has)))

module _ (agree : MovedCodeAgrees) (order : ProceduresStandInOrder) (places : SystemsHavePlaces) (a : Parts)
    (v : Views a) (place : ℕ) (s : Option ℕ)
    (stands : slice_get (all_systems a) place ≡ Some s) (names : NamesAgree a v place s) where
  abbrev routines : List Routine
  routines = system_routines a.pures (v.at s).slots (child_offers a v s) (v.at s).code (λ i. first_procedure a.codes place + i)

  -- the procedure with this name among those of the children
  abbrev own_offered : List ℕ → Offered
  own_offered name = record {
    routine = routine_at routines (length (children_routines (child_offers a v s)) + own_position (v.at s).code name);
    number = first_procedure a.codes place + own_position (v.at s).code name;
  }

  offered-same : (head : Head) → Contains (public_heads (coded_header (v.at s))) head →
      offered_by (program_of a) head.name ≡ own_offered head.name
  offered-same head has =
      let (j, q, at, is) = head-there a v place s stands head has in
      let name : q.name ≡ head.name = ap (λ (z : Head). z.name) is in
      let found = (places a v place s stands).procedure head.name
      (subst (Contains (map (λ (z : ProcedureTree). z.name) (v.at s).code.procedures)) name
      (in-map (λ (z : ProcedureTree). z.name) (v.at s).code.procedures q
      (in-at (v.at s).code.procedures j q at))) in
      let own : own_position (v.at s).code head.name ≡ j =
      ap (own_position (v.at s).code) (sym name) ∙ own-place a v place s stands j q at in
      let within : own_position (v.at s).code head.name < length (v.at s).code.procedures =
      subst (λ n. n < length (v.at s).code.procedures) (sym own) (at-below (v.at s).code.procedures j q at) in
      ap (λ n. record { routine = routine_at (program_routines (program_of a)) n; number = n }) found
      ∙ ap (λ routine. record { routine = routine; number = first_procedure a.codes place + own_position (v.at s).code head.name })
      (own-routines-agree agree order places a v place s stands names (own_position (v.at s).code head.name) within)

pub procedures_follow : MovedCodeAgrees → ProceduresStandInOrder → SystemsHavePlaces → FieldsAreFound → ProceduresFollow
procedures_follow agree order places fields a v place s stands names =
    let h : SystemHeader = coded_header (v.at s) in
    let rest : List Head = update_head h ∷ start_head h ∷ reset_head h ∷ [] in
    let same = offered-same agree order places a v place s stands names in
    let outs =
    map-same (λ j. offered_by (program_of a) (out_head h j).name)
    (λ j. own_offered agree order places a v place s stands names (out_head h j).name)
    (range_with_len 1 (length (header_functions h)))
    (λ j has.
    same (out_head h j)
    (Contains-append_left (out_heads h) rest (out_head h j)
    (in-map (out_head h) (range_with_len 1 (length (header_functions h))) j has))) in
    let update =
    same (update_head h)
    (Contains-append_right (out_heads h) rest (update_head h)
    (in-first (update_head h) (start_head h ∷ reset_head h ∷ []))) in
    let start =
    same (start_head h)
    (Contains-append_right (out_heads h) rest (start_head h)
    (in-rest (update_head h) (start_head h) (start_head h ∷ reset_head h ∷ [])
    (in-first (start_head h) (reset_head h ∷ [])))) in
    let reset =
    same (reset_head h)
    (Contains-append_right (out_heads h) rest (reset_head h)
    (in-rest (update_head h) (reset_head h) (start_head h ∷ reset_head h ∷ [])
    (in-rest (start_head h) (reset_head h) (reset_head h ∷ []) (in-first (reset_head h) [])))) in
    let where_outputs = places-are fields a v place s stands in
    λ i. record { outs = outs i; update = update i; start = start i; reset = reset i; places = where_outputs i }
