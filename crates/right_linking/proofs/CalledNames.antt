-- A system's procedures call own earlier ones, and those that its children offer.
use Rattle.std.specs.Prelude.{◌≡◌, ◌⊎◌, ℕ, ◌+◌, ◌-◌, ◌<◌, ◌≤◌, if◌then◌else◌, List, [], map, flat_map, length, slice_get, Contains, Option, Some}
use Rattle.std.proofs.Common.{ap, subst, arith, inl, inr}
use Rattle.std.proofs.lemmas.Bool.{cases_lt, lt-ltb}
use Rattle.std.proofs.lemmas.List.{length-append}
use Rattle.modules_profile.specs.declared.ChildUse.{ChildUse}
use Rattle.modules_profile.specs.LocalSystem.{LocalSystem}
use Rattle.c_syntax.specs.Tree.{StructTree, ProcedureTree}
use Rattle.c_syntax.specs.Lawful.{Reach, IsLawfulProcedure}
use Rattle.c_syntax.specs.Tree.{struct_fields}
use Rattle.emit_shape.specs.Heads.{Head, head_of, public_heads}
use Rattle.emit_shape.specs.LocalShape.{callable}
use Rattle.emit_shape.specs.Reads.{CallSite, calls_in}
use Rattle.emit_shape.specs.Relocation.{Relocation, moved_number, moved_procedure}
use Rattle.emit_shape.specs.SystemTree.{SystemTree}
use Rattle.right_claim.specs.Alone.{CallsWithin, alone, bare_procedures, behind_bare}
use Rattle.modules_profile.proofs.lemmas.Members.{of-map, in-at, at-map, at-right}
use Rattle.right_linking.specs.Parts.{Parts, all_systems, IsCodedAs, Views}
use Rattle.right_linking.proofs.FirstPlaces.{mapped-length}
use Rattle.right_linking.proofs.SystemPlaces.{member}
use Rattle.right_linking.proofs.LawfulBodies.{CallsEarlier, calls-earlier, lawful-at}

module _ (a : Parts) (v : Views a) (place : ℕ) (s : Option ℕ) (stands : slice_get (all_systems a) place ≡ Some s) where
  known : IsCodedAs a place s (v.at s)
  known = v.each place s stands

  abbrev local : LocalSystem
  local = (v.at s).local

  abbrev code : SystemTree
  code = (v.at s).code

  abbrev pub bare : Relocation
  bare = behind_bare local code

  abbrev pub structs : List StructTree
  structs = (alone local code a.pures).structs

  -- what a procedure's body reaches after these
  abbrev pub reach_behind : List ProcedureTree → ProcedureTree → Reach
  reach_behind before q = record {
    pures = a.pures;
    structs = structs;
    procedures = before;
    fields = struct_fields structs bare.of;
    params = length q.params;
    of = bare.of;
  }

  -- each is lawful after those of its children and own earlier ones
  pub own-lawful : (j : ℕ) (q : ProcedureTree) → slice_get code.procedures j ≡ Some q →
      (before : List ProcedureTree) × (length before ≡ length (bare_procedures local) + j)
      × IsLawfulProcedure a.pures structs before (moved_procedure bare q)
  own-lawful j q at =
      let (before, long, lawful) =
      lawful-at a.pures structs [] (alone local code a.pures).procedures (length (bare_procedures local) + j) (moved_procedure bare q)
      (known.lawful.procedures a.pures a.prelude)
      (at-right (bare_procedures local) (map (moved_procedure bare) code.procedures) j (moved_procedure bare q)
      (at-map (moved_procedure bare) code.procedures j q at)) in
      (before, omega (arith, long), lawful)

  own-number : (k : ℕ) → k < length code.procedures → moved_number bare k ≡ length (bare_procedures local) + k
  own-number k less =
      ap (λ b. if b then length (bare_procedures local) + k else k - length code.procedures) (lt-ltb k (length code.procedures) less)

  -- the heads of what the children offer
  abbrev heads : List Head
  heads = flat_map (λ (u : ChildUse). public_heads u.header) local.children

  -- an own procedure before this one has the number, or one that the children offer
  abbrev MayBeCalled : ℕ → ℕ → Type 0
  MayBeCalled j k = (k < j) ⊎ ((length code.procedures ≤ k) × (k - length code.procedures < length heads))

  pub called : (j : ℕ) (q : ProcedureTree) → slice_get code.procedures j ≡ Some q →
      (k : ℕ) → Contains (map (λ c. c.procedure) (calls_in q.body)) k → MayBeCalled j k
  called j q at k has =
      let (before, long, lawful) = own-lawful j q at in
      let (site, there, is) = of-map (λ (c : CallSite). c.procedure) (calls_in q.body) k has in
      let earlier =
      member (CallsEarlier bare (reach_behind before q)) (calls_in q.body) site
      (calls-earlier bare (reach_behind before q) q.body lawful.body) there in
      let within =
      member (λ (c : CallSite). c.procedure < length (callable local code)) (calls_in q.body) site
      (member (CallsWithin local code) code.procedures q known.lawful.calls (in-at code.procedures j q at)) there in
      subst (MayBeCalled j) is
      (by site.procedure (λ less. omega (arith, long, earlier, own-number site.procedure less)) within)
    where
      by : (n : ℕ) → (n < length code.procedures → n < j) → n < length (callable local code) → MayBeCalled j n
      by n own within = elim (cases_lt n (length code.procedures)) [
        | inl less ↦ inl (own less)
        | inr more ↦
            inr (
              more,
              omega (
                arith,
                more,
                within,
                length-append (map head_of code.procedures) heads,
                mapped-length head_of code.procedures,
              ),
            )
      ]
