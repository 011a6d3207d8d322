-- The procedures of a system do the same in the program and after those of its children, where what they call and read does.
use Rattle.std.specs.Prelude.{◌≡◌, ◌⊎◌, ℕ, zero, suc, ◌+◌, ◌-◌, ◌<◌, ◌≤◌, if◌then◌else◌, List, [], ◌∷◌, ◌++◌, map, take, length, slice_get, Option, Some, unwrap_or, refl}
use Rattle.std.proofs.Common.{sym, ap, ap₂, ◌∙◌, arith, inl, inr}
use Rattle.std.proofs.Math.Path.{fun_ext}
use Rattle.std.proofs.Math.Seq.{get_or-append_seam}
use Rattle.std.proofs.lemmas.List.{get_or_append_left, length-append}
use Rattle.std.proofs.lemmas.Bool.{lt-ltb, le-ltb}
use Rattle.c_syntax.specs.declared.CType.{CType}
use Rattle.c_syntax.specs.declared.FieldKind.{FieldKind}
use Rattle.c_syntax.specs.declared.FieldKind.TheVariants.{Number, Array, Struct}
use Rattle.c_syntax.specs.Tree.{FieldTree, ProcedureTree, struct_fields, kind_type, field_types}
use Rattle.c_semantics.specs.Values.{Function, functions_of}
use Rattle.c_semantics.specs.Machine.{Routine, no_routine, routine_at, routine_with, routines_of, program_routines, call_entry, behind}
use Rattle.c_semantics.specs.NumberingLaws.{ProceduresStandInOrder}
use Rattle.c_semantics.proofs.lemmas.Runs.{routines_of-at}
use Rattle.emit_shape.specs.SystemTree.{SystemTree}
use Rattle.emit_shape.specs.Relocation.{Relocation, moved_number, moved_procedure}
use Rattle.emit_shape.specs.RelocationLaws.{NameAlike, MovedCodeAgrees}
use Rattle.emit_shape.specs.Assembled.{first_procedure, relocation_of, moved_kind}
use Rattle.right_relation.specs.Instances.{Offer}
use Rattle.right_relation.specs.Relation.{children_routines, behind_offers, numbered_routines, system_routines}
use Rattle.modules_profile.proofs.lemmas.Members.{at-map, below-at}
use Rattle.right_linking.specs.Parts.{Parts, program_of, all_systems, Views}
use Rattle.right_linking.specs.Places.{SystemsHavePlaces}
use Rattle.right_linking.specs.Offers.{child_offers, NamesAgree}
use Rattle.right_linking.proofs.SystemPlaces.{code-is}
use Rattle.right_linking.proofs.ProcedurePlaces.{own-procedure}

-- ---- Procedures with numbers of their own

module _ (functions : List Function) (types : List CType) (numbers : ℕ → ℕ) where
  pub numbered-before : (k : ℕ) (earlier : List Routine) (qs : List ProcedureTree) (i : ℕ) → i < length earlier →
      routine_at (numbered_routines functions types numbers k earlier qs) i ≡ routine_at earlier i
  numbered-before k earlier [] i within = refl
  numbered-before k earlier (q ∷ qs) i within =
      numbered-before (k + 1) (earlier ++ routine_with functions types earlier (numbers k) q ∷ []) qs i
      (omega (arith, within, length-append earlier (routine_with functions types earlier (numbers k) q ∷ [])))
      ∙ get_or_append_left earlier _ no_routine i within

  pub numbered-at : (k : ℕ) (earlier : List Routine) (qs : List ProcedureTree) (j : ℕ) (q : ProcedureTree) → slice_get qs j ≡ Some q →
      routine_at (numbered_routines functions types numbers k earlier qs) (length earlier + j)
      ≡ routine_with functions types (numbered_routines functions types numbers k earlier (take j qs)) (numbers (k + j)) q
  numbered-at k earlier [] j q there = cc
  numbered-at k earlier (r ∷ qs) zero q there =
      let made : Routine = routine_with functions types earlier (numbers k) r in
      let none : length earlier + 0 ≡ length earlier = omega arith in
      let same : k ≡ k + 0 = omega arith in
      ap (routine_at (numbered_routines functions types numbers (k + 1) (earlier ++ made ∷ []) qs)) none
      ∙ numbered-before (k + 1) (earlier ++ made ∷ []) qs (length earlier) (omega (arith, length-append earlier (made ∷ [])))
      ∙ get_or-append_seam earlier made [] no_routine
      ∙ ap (routine_with functions types earlier (numbers k)) (ap (λ o. unwrap_or o r) there)
      ∙ ap (λ n. routine_with functions types earlier (numbers n) q) same
  numbered-at k earlier (r ∷ qs) (suc j) q there =
      let made : Routine = routine_with functions types earlier (numbers k) r in
      let e : length (earlier ++ made ∷ []) + j ≡ length earlier + suc j = omega (arith, length-append earlier (made ∷ [])) in
      let later : k + 1 + j ≡ k + suc j = omega arith in
      ap (routine_at (numbered_routines functions types numbers (k + 1) (earlier ++ made ∷ []) qs)) (sym e)
      ∙ numbered-at (k + 1) (earlier ++ made ∷ []) qs j q there
      ∙ ap (λ n.
      routine_with functions types (numbered_routines functions types numbers (k + 1) (earlier ++ made ∷ [])
      (take j qs)) (numbers n) q) later

  pub numbered-found : (k : ℕ) (earlier : List Routine) (qs : List ProcedureTree) (j i : ℕ) → i < length earlier + j →
      routine_at (numbered_routines functions types numbers k earlier qs) i
      ≡ routine_at (numbered_routines functions types numbers k earlier (take j qs)) i
  numbered-found k earlier [] zero i within = refl
  numbered-found k earlier [] (suc j) i within = refl
  numbered-found k earlier (q ∷ qs) zero i within = numbered-before k earlier (q ∷ qs) i (omega (arith, within))
  numbered-found k earlier (q ∷ qs) (suc j) i within =
      let made : Routine = routine_with functions types earlier (numbers k) q in
      numbered-found (k + 1) (earlier ++ made ∷ []) qs j i (omega (arith, within, length-append earlier (made ∷ [])))

-- ---- A procedure at two places

same-routine : MovedCodeAgrees → (functions : List Function) (types : List CType) (earlier others : List Routine)
    (number : ℕ) (q : ProcedureTree) (m n : Relocation) →
    NameAlike q.body m n earlier others →
    routine_with functions types earlier number (moved_procedure m q) ≡ routine_with functions types others number (moved_procedure n q)
same-routine agree functions types earlier others number q m n alike =
    ap (λ run. record { params = map (λ p. p.type) q.params; run = run })
    (fun_ext (λ values. fun_ext (λ cells. fun_ext (λ steps. ap (behind (call_entry number q.name) [])
    (agree q.body m n (record { functions = functions; routines = earlier; types = types; values = values }) others cells steps alike)))))

same-kind : (codes : List SystemTree) (name : List ℕ) (kind : FieldKind) → kind_type (moved_kind codes name kind) ≡ kind_type kind
same-kind codes name (Number type) = refl
same-kind codes name (Array type count) = refl
same-kind codes name (Struct k) = refl

same-types : (codes : List SystemTree) (fields : List FieldTree) →
    field_types (map (λ (f : FieldTree). record { name = f.name; kind = moved_kind codes f.name f.kind }) fields) ≡ field_types fields
same-types codes [] = refl
same-types codes (f ∷ fields) = ap₂ (λ t ts. t ∷ ts) (same-kind codes f.name f.kind) (same-types codes fields)

-- ---- All of a system's procedures

module _ (agree : MovedCodeAgrees) (order : ProceduresStandInOrder) (places : SystemsHavePlaces) (a : Parts)
    (v : Views a) (place : ℕ) (s : Option ℕ)
    (stands : slice_get (all_systems a) place ≡ Some s) (names : NamesAgree a v place s) where
  abbrev here : Relocation
  here = relocation_of a.codes place

  abbrev own : ℕ
  own = length (v.at s).code.procedures

  abbrev offers : List Offer
  offers = child_offers a v s

  abbrev there : Relocation
  there = behind_offers (v.at s).slots offers own

  abbrev numbers : ℕ → ℕ
  numbers i = first_procedure a.codes place + i

  abbrev functions : List Function
  functions = functions_of [] a.pures

  abbrev types : List CType
  types = field_types (v.at s).code.structure.fields

  abbrev routines : List Routine
  routines = system_routines a.pures (v.at s).slots offers (v.at s).code numbers

  -- the procedures of the program before own procedure j, and those after the children's
  abbrev before : ℕ → List Routine
  before j = routines_of (program_of a).structs functions [] (take (first_procedure a.codes place + j) (program_of a).procedures)

  abbrev before_there : ℕ → List Routine
  before_there j =
      numbered_routines functions types numbers 0 (children_routines offers)
      (take j (map (moved_procedure there) (v.at s).code.procedures))

  own-is : here.own ≡ own
  own-is = ap (λ (z : SystemTree). length z.procedures) (code-is a place s (v.at s) (v.each place s stands))

  number-here-own : (k : ℕ) → k < own → moved_number here k ≡ first_procedure a.codes place + k
  number-here-own k less =
      ap (λ b. if b then first_procedure a.codes place + k else here.offered (k - here.own))
      (lt-ltb k here.own (omega (arith, own-is, less)))

  number-here-other : (k : ℕ) → own ≤ k → moved_number here k ≡ here.offered (k - own)
  number-here-other k more =
      ap (λ b. if b then first_procedure a.codes place + k else here.offered (k - here.own))
      (le-ltb k here.own (omega (arith, own-is, more)))
      ∙ ap (λ n. here.offered (k - n)) own-is

  number-there-own : (k : ℕ) → k < own → moved_number there k ≡ length (children_routines offers) + k
  number-there-own k less = ap (λ b. if b then length (children_routines offers) + k else k - own) (lt-ltb k own less)

  number-there-other : (k : ℕ) → own ≤ k → moved_number there k ≡ k - own
  number-there-other k more = ap (λ b. if b then length (children_routines offers) + k else k - own) (le-ltb k own more)

  found-here : (j i : ℕ) → i < first_procedure a.codes place + j → routine_at (program_routines (program_of a)) i ≡ routine_at (before j) i
  found-here j i less =
      (order (program_of a).structs functions [] (program_of a).procedures).found (first_procedure a.codes place + j) i
      (omega (arith, less))

  found-there : (j i : ℕ) → i < length (children_routines offers) + j → routine_at routines i ≡ routine_at (before_there j) i
  found-there j i less =
      numbered-found functions types numbers 0 (children_routines offers)
      (map (moved_procedure there) (v.at s).code.procedures) j i less

  alike : (j : ℕ) (q : ProcedureTree) → slice_get (v.at s).code.procedures j ≡ Some q → j < own →
      ((k : ℕ) → k < j → routine_at (program_routines (program_of a)) (first_procedure a.codes place + k)
      ≡ routine_at routines (length (children_routines offers) + k)) →
      NameAlike q.body here there (before j) (before_there j)
  alike j q at within earlier = record { procedures = λ k calls. by k (names.called j q at k calls); outputs = names.outputs j q at }
    where
      by : (k : ℕ) → (k < j) ⊎ ((own ≤ k) × (k - own < length (children_routines offers))) →
          routine_at (before j) (moved_number here k) ≡ routine_at (before_there j) (moved_number there k)
      by k (inl less) =
          ap (routine_at (before j)) (number-here-own k (omega (arith, less, within)))
          ∙ sym (found-here j (first_procedure a.codes place + k) (omega (arith, less))) ∙ earlier k less
          ∙ found-there j (length (children_routines offers) + k) (omega (arith, less))
          ∙ ap (routine_at (before_there j)) (sym (number-there-own k (omega (arith, less, within))))
      by k (inr (more, less)) =
          let child = names.offered (k - own) less in
          ap (routine_at (before j)) (number-here-other k more)
          ∙ sym (found-here j (here.offered (k - own)) (let low = child.0 in omega (arith, low))) ∙ child.1
          ∙ sym (numbered-before functions types numbers 0 (children_routines offers)
          (map (moved_procedure there) (v.at s).code.procedures) (k - own) less)
          ∙ found-there j (k - own) (omega (arith, less))
          ∙ ap (routine_at (before_there j)) (sym (number-there-other k more))

  types-are : field_types (struct_fields (program_of a).structs here.of) ≡ types
  types-are =
      let at = places a v place s stands in
      ap field_types (ap (struct_fields (program_of a).structs) (sym at.struct) ∙ at.fields)
      ∙ same-types a.codes (v.at s).code.structure.fields

  same-below : (bound j : ℕ) → j < bound → j < own →
      routine_at (program_routines (program_of a)) (first_procedure a.codes place + j)
      ≡ routine_at routines (length (children_routines offers) + j)
  same-below zero j less within = absurd (omega (arith, less))
  same-below (suc bound) j less within =
      let (q, at) = below-at (v.at s).code.procedures j within in
      let named : 0 + (first_procedure a.codes place + j) ≡ first_procedure a.codes place + (0 + j) = omega arith in
      let start : first_procedure a.codes place + j ≡ 0 + (first_procedure a.codes place + j) = omega arith in
      ap (routine_at (program_routines (program_of a))) start
      ∙ routines_of-at (program_of a).structs functions [] (program_of a).procedures (first_procedure a.codes place + j)
      (moved_procedure here q) (own-procedure a v place s stands j q at)
      ∙ ap₂ (λ ts n. routine_with functions ts (before j) n (moved_procedure here q)) types-are named
      ∙ same-routine agree functions types (before j) (before_there j) (first_procedure a.codes place + (0 + j)) q here there
      (alike j q at within (λ k lower. same-below bound k (omega (arith, lower, less)) (omega (arith, lower, within))))
      ∙ sym (numbered-at functions types numbers 0 (children_routines offers)
      (map (moved_procedure there) (v.at s).code.procedures) j (moved_procedure there q)
      (at-map (moved_procedure there) (v.at s).code.procedures j q at))

  -- so each own procedure does the same in both
  pub own-routines-agree : (j : ℕ) → j < own →
      routine_at (program_routines (program_of a)) (first_procedure a.codes place + j)
      ≡ routine_at routines (length (children_routines offers) + j)
  own-routines-agree j within = same-below (suc j) j (omega arith) within
