-- What a system's procedures store in the program is what they store in its code by itself.
use Rattle.std.specs.Prelude.{◌≡◌, ℕ, zero, suc, ◌+◌, ◌-◌, ◌<◌, ◌≤◌, Bool, true, false, if◌then◌else◌, List, [], ◌∷◌, ◌++◌, map, flat_map, take, length, slice_get, slice_index_or, Contains, Option, Some, refl}
use Rattle.std.specs.List.{range_with_len}
use Rattle.std.proofs.Common.{sym, ap, ap₂, ◌∙◌, arith, inl, inr, true≢false}
use Rattle.std.proofs.Math.Seq.{get_or-append_seam}
use Rattle.std.proofs.lemmas.Bool.{cases_lt, lt-ltb}
use Rattle.std.proofs.lemmas.List.{get_or_append_left, length-append}
use Rattle.std.proofs.lemmas.List.Elements.{Contains-append_cases}
use Rattle.std.proofs.lemmas.Option.{get_or_from_slice_get, same_Some, none-some}
use Rattle.modules_profile.specs.declared.ChildUse.{ChildUse}
use Rattle.modules_profile.specs.Headers.{header_functions}
use Rattle.modules_profile.specs.LocalSystem.{LocalSystem}
use Rattle.modules_profile.specs.NodeFacts.{LocalsAreLawful}
use Rattle.modules_profile.specs.SystemHeader.{SystemHeader}
use Rattle.modules_profile.proofs.lemmas.LawfulSteps.{of-flat_map}
use Rattle.modules_profile.proofs.lemmas.Members.{in-none, in-cases, of-map, in-at, at-right, below-at}
use Rattle.c_syntax.specs.declared.Target.{Target}
use Rattle.c_syntax.specs.declared.Target.TheVariants.{Own, Child}
use Rattle.c_syntax.specs.Tree.{ProcedureTree}
use Rattle.emit_shape.specs.Heads.{Head, head_of, public_heads, out_head, out_heads, update_head, start_head, reset_head}
use Rattle.emit_shape.specs.LocalShape.{no_head, callable, local_names, local_stored}
use Rattle.emit_shape.specs.Programs.{procedure_at, field_in}
use Rattle.emit_shape.specs.Reads.{StoreSite, CallSite, stores_in, calls_in}
use Rattle.emit_shape.specs.Relocation.{Relocation, moved_number, moved_procedure}
use Rattle.emit_shape.specs.Stored.{stored_on, stored_in, stored_names}
use Rattle.emit_shape.specs.SystemTree.{SystemTree}
use Rattle.emit_shape.specs.Assembled.{first_procedure, relocation_of}
use Rattle.right_claim.specs.Alone.{CallsWithin}
use Rattle.right_linking.specs.Parts.{Parts, program_of, all_systems, IsCodedAs, Views}
use Rattle.right_linking.specs.Places.{SystemsHavePlaces}
use Rattle.right_linking.proofs.lemmas.AssembledPlaces.{member, mapped-length, code-is, own-procedure}
use Rattle.right_program_interfaces.proofs.Lists.{map-same, map-map, flat-same, flat-mapped, index-past, short-take}
use Rattle.right_program_interfaces.proofs.MovedSites.{moved_store, moved_call, stores-moved, calls-moved}
use Rattle.right_program_interfaces.proofs.StandingCode.{own-same, callee-same}

-- ---- A list of procedures

module _ (private : ℕ → Bool) (field_name : ProcedureTree → ℕ → List ℕ) where
  abbrev stored : List (List (List ℕ)) → List ProcedureTree → List (List (List ℕ))
  stored = stored_names private field_name

  abbrev one_more : List (List (List ℕ)) → ProcedureTree → List (List ℕ)
  one_more = stored_in private field_name

  stored-before : (earlier : List (List (List ℕ))) (qs : List ProcedureTree) (i : ℕ) → i < length earlier →
      slice_index_or (stored earlier qs) i [] ≡ slice_index_or earlier i []
  stored-before earlier [] i within = refl
  stored-before earlier (q ∷ qs) i within =
      stored-before (earlier ++ one_more earlier q ∷ []) qs i (omega (arith, within, length-append earlier (one_more earlier q ∷ [])))
      ∙ get_or_append_left earlier (one_more earlier q ∷ []) [] i within

  pub stored-at : (earlier : List (List (List ℕ))) (qs : List ProcedureTree) (j : ℕ) (q : ProcedureTree) → slice_get qs j ≡ Some q →
      slice_index_or (stored earlier qs) (length earlier + j) [] ≡ one_more (stored earlier (take j qs)) q
  stored-at earlier [] j q there = absurd (none-some q there)
  stored-at earlier (r ∷ qs) zero q there =
      let none : length earlier + 0 ≡ length earlier = omega arith in
      ap (λ n. slice_index_or (stored (earlier ++ one_more earlier r ∷ []) qs) n []) none
      ∙ stored-before (earlier ++ one_more earlier r ∷ []) qs (length earlier)
      (omega (arith, length-append earlier (one_more earlier r ∷ [])))
      ∙ get_or-append_seam earlier (one_more earlier r) [] [] ∙ ap (one_more earlier) (same_Some r q there)
  stored-at earlier (r ∷ qs) (suc j) q there =
      let e : length earlier + suc j ≡ length (earlier ++ one_more earlier r ∷ []) + j = omega
      (arith, length-append earlier (one_more earlier r ∷ [])) in
      ap (λ n. slice_index_or (stored (earlier ++ one_more earlier r ∷ []) qs) n []) e
      ∙ stored-at (earlier ++ one_more earlier r ∷ []) qs j q there

  pub stored-found : (earlier : List (List (List ℕ))) (qs : List ProcedureTree) (j i : ℕ) → i < length earlier + j →
      slice_index_or (stored earlier qs) i [] ≡ slice_index_or (stored earlier (take j qs)) i []
  stored-found earlier [] zero i within = refl
  stored-found earlier [] (suc j) i within = refl
  stored-found earlier (q ∷ qs) zero i within = stored-before earlier (q ∷ qs) i (omega (arith, within))
  stored-found earlier (q ∷ qs) (suc j) i within =
      stored-found (earlier ++ one_more earlier q ∷ []) qs j i (omega (arith, within, length-append earlier (one_more earlier q ∷ [])))

  stored-long : (earlier : List (List (List ℕ))) (qs : List ProcedureTree) → length (stored earlier qs) ≡ length earlier + length qs
  stored-long earlier [] = omega arith
  stored-long earlier (q ∷ qs) =
      stored-long (earlier ++ one_more earlier q ∷ []) qs ∙ omega (arith, length-append earlier (one_more earlier q ∷ []))

  pub stored-past : (qs : List ProcedureTree) (n i : ℕ) → n ≤ i → slice_index_or (stored [] (take n qs)) i [] ≡ []
  stored-past qs n i past = index-past (stored [] (take n qs)) i [] (omega (arith, past, stored-long [] (take n qs), short-take n qs))

-- no public head is private
public-shown : (h : SystemHeader) (head : Head) → Contains (public_heads h) head → head.private ≡ false
public-shown h head has = elim (Contains-append_cases (out_heads h) (update_head h ∷ start_head h ∷ reset_head h ∷ []) head has) [
  | inl out ↦ let made = of-map (out_head h) (range_with_len 1 (length (header_functions h))) head out in
      ap (λ (z : Head). z.private) (sym made.2)
  | inr other ↦ elim (in-cases (update_head h) head (start_head h ∷ reset_head h ∷ []) other) [
    | inl is ↦ ap (λ (z : Head). z.private) (sym is)
    | inr more ↦ elim (in-cases (start_head h) head (reset_head h ∷ []) more) [
      | inl is ↦ ap (λ (z : Head). z.private) (sym is)
      | inr last ↦ elim (in-cases (reset_head h) head [] last) [
        | inl is ↦ ap (λ (z : Head). z.private) (sym is)
        | inr none ↦ absurd (in-none head none)
      ]
    ]
  ]
]

-- ---- A system's procedures

module _ (locals : LocalsAreLawful) (places : SystemsHavePlaces) (a : Parts) (v : Views a) (place : ℕ) (s : Option ℕ)
    (stands : slice_get (all_systems a) place ≡ Some s) where
  known : IsCodedAs a place s (v.at s)
  known = v.each place s stands

  abbrev local : LocalSystem
  local = (v.at s).local

  abbrev code : SystemTree
  code = (v.at s).code

  abbrev here : Relocation
  here = relocation_of a.codes place

  abbrev first : ℕ
  first = first_procedure a.codes place

  abbrev private_in : ℕ → Bool
  private_in i = (procedure_at (program_of a) i).private

  abbrev name_in : ProcedureTree → ℕ → List ℕ
  name_in q f = (field_in (program_of a) q.of f).name

  abbrev private_own : ℕ → Bool
  private_own k = (slice_index_or (callable local code) k no_head).private

  abbrev name_own : ProcedureTree → ℕ → List ℕ
  name_own q f = (local_names local (v.at s).slots code).own f

  -- the names that each procedure of the program stores
  abbrev pub all_stored : List (List (List ℕ))
  all_stored = stored_names private_in name_in [] (program_of a).procedures

  abbrev own_stored : List (List (List ℕ))
  own_stored = local_stored local (v.at s).slots code

  abbrev before : ℕ → List (List (List ℕ))
  before j = stored_names private_in name_in [] (take (first + j) (program_of a).procedures)

  abbrev before_own : ℕ → List (List (List ℕ))
  before_own j = stored_names private_own name_own [] (take j code.procedures)

  own-is : here.own ≡ length code.procedures
  own-is = ap (λ (z : SystemTree). length z.procedures) (code-is a place s (v.at s) known)

  abbrev heads : List Head
  heads = flat_map (λ (u : ChildUse). public_heads u.header) local.children

  -- a procedure of a child is not private
  theirs-shown : (k : ℕ) → length code.procedures ≤ k → k < length (callable local code) → private_own k ≡ false
  theirs-shown k more within =
      let long = mapped-length head_of code.procedures in
      let i : ℕ = k - length code.procedures in
      let (head, at) = below-at heads i (omega (arith, more, within, long, length-append (map head_of code.procedures) heads)) in
      let same : length (map head_of code.procedures) + i ≡ k = omega (arith, more, long) in
      let (u, of_child, there) = of-flat_map (λ (u : ChildUse). public_heads u.header) local.children head (in-at heads i head at) in
      ap (λ n. (slice_index_or (callable local code) n no_head).private) (sym same)
      ∙ ap (λ (z : Head). z.private) (get_or_from_slice_get (callable local code) (length (map head_of code.procedures) + i) head no_head
      (at-right (map head_of code.procedures) heads i head at))
      ∙ public-shown u.header head there

  module _ (j : ℕ) (earlier : (k : ℕ) → k < j → k < length code.procedures → slice_index_or all_stored (first + k) []
      ≡ slice_index_or own_stored k []) where
    found-same : (k : ℕ) → k < length code.procedures → slice_index_or (before j) (moved_number here k) [] ≡ slice_index_or
        (before_own j) k []
    found-same k less =
        let goes : moved_number here k ≡ first + k = ap (λ b. if b then first + k else here.offered (k - here.own))
        (lt-ltb k here.own (omega (arith, own-is, less))) in
        ap (λ n. slice_index_or (before j) n []) goes
        ∙ elim (cases_lt k j) [
          | inl lower ↦
              sym (stored-found private_in name_in [] (program_of a).procedures (first + j) (first + k) (omega (arith, lower)))
              ∙ earlier k lower less
              ∙ stored-found private_own name_own [] code.procedures j k (omega (arith, lower))
          | inr higher ↦
              stored-past private_in name_in (program_of a).procedures (first + j) (first + k) (omega (arith, higher))
              ∙ sym (stored-past private_own name_own code.procedures j k higher)
        ]

    own-call : (k : ℕ) → k < length (callable local code) →
        (if private_in (moved_number here k) then slice_index_or (before j) (moved_number here k) [] else [])
        ≡ (if private_own k then slice_index_or (before_own j) k [] else [])
    own-call k within = by (private_own k) refl
      where
        same : private_in (moved_number here k) ≡ private_own k
        same = ap (λ (z : Head). z.private) (callee-same places a v place s stands locals k within)

        by : (t : Bool) → private_own k ≡ t →
            (if private_in (moved_number here k) then slice_index_or (before j) (moved_number here k) [] else [])
            ≡ (if private_own k then slice_index_or (before_own j) k [] else [])
        by false e =
            ap (λ b. if b then slice_index_or (before j) (moved_number here k) [] else []) (same ∙ e)
            ∙ sym (ap (λ b. if b then slice_index_or (before_own j) k [] else []) e)
        by true e = elim (cases_lt k (length code.procedures)) [
          | inl less ↦
              ap (λ b. if b then slice_index_or (before j) (moved_number here k) [] else []) (same ∙ e) ∙ found-same k less
              ∙ sym (ap (λ b. if b then slice_index_or (before_own j) k [] else []) e)
          | inr more ↦ absurd (true≢false (sym e ∙ theirs-shown k more within))
        ]

    call-same : (k : ℕ) (target : Target) → k < length (callable local code) →
        stored_on private_in name_in (before j) (moved_number here k) target ≡ stored_on private_own name_own (before_own j) k target
    call-same k Own within = own-call k within
    call-same k (Child f) within = refl

    procedure-same : (q : ProcedureTree) → Contains code.procedures q →
        stored_in private_in name_in (before j) (moved_procedure here q) ≡ stored_in private_own name_own (before_own j) q
    procedure-same q has =
        let fields : (f : ℕ) → name_in (moved_procedure here q) f ≡ name_own q f =
        λ f. ap (λ k. (field_in (program_of a) k f).name) (sym (places a v place s stands).struct) ∙ own-same places a v place s stands f in
        ap₂ (λ xs ys. xs ++ ys)
        (ap (map (λ (st : StoreSite). name_in (moved_procedure here q) st.field)) (stores-moved here q.body)
        ∙ map-map (λ (st : StoreSite). name_in (moved_procedure here q) st.field) (moved_store here) (stores_in q.body)
        ∙ map-same (λ (st : StoreSite). name_in (moved_procedure here q) st.field) (λ (st : StoreSite). name_own q st.field)
        (stores_in q.body) (λ st there. fields st.field))
        (ap (flat_map (λ (c : CallSite). stored_on private_in name_in (before j) c.procedure c.target)) (calls-moved here q.body)
        ∙ flat-mapped (λ (c : CallSite). stored_on private_in name_in (before j) c.procedure c.target) (moved_call here) (calls_in q.body)
        ∙ flat-same (λ (c : CallSite). stored_on private_in name_in (before j) (moved_number here c.procedure) c.target)
        (λ (c : CallSite). stored_on private_own name_own (before_own j) c.procedure c.target) (calls_in q.body)
        (λ c there. call-same c.procedure c.target
        (member (λ (z : CallSite). z.procedure < length (callable local code)) (calls_in q.body) c
        (member (CallsWithin local code) code.procedures q known.lawful.calls has) there)))

  same-below : (bound j : ℕ) → j < bound → j < length code.procedures →
      slice_index_or all_stored (first + j) [] ≡ slice_index_or own_stored j []
  same-below zero j less within = absurd (omega (arith, less))
  same-below (suc bound) j less within =
      let (q, at) = below-at code.procedures j within in
      let start : first + j ≡ 0 + (first + j) = omega arith in
      let start_own : 0 + j ≡ j = omega arith in
      ap (λ n. slice_index_or all_stored n []) start
      ∙ stored-at private_in name_in [] (program_of a).procedures (first + j) (moved_procedure here q)
      (own-procedure a v place s stands j q at)
      ∙ procedure-same j (λ k lower own. same-below bound k (omega (arith, lower, less)) own) q (in-at code.procedures j q at)
      ∙ sym (stored-at private_own name_own [] code.procedures j q at)
      ∙ ap (λ n. slice_index_or own_stored n []) start_own

  -- each own procedure stores the same
  pub stored-same : (j : ℕ) → j < length code.procedures → slice_index_or all_stored (first + j) [] ≡ slice_index_or own_stored j []
  stored-same j within = same-below (suc j) j (omega arith) within
