-- In a lawful program of the right shape each procedure is the root's or one of a system, and its calls are where they should be.
use Rattle.std.specs.Prelude.{◌≡◌, ℕ, zero, suc, ◌<◌, ◌==◌, Bool, List, [], ◌∷◌, map, length, slice_get, slice_index_or, Contains, Option, Some, unwrap_or}
use Rattle.std.specs.List.{AllByRecursion}
use Rattle.std.proofs.Common.{refl, sym, ap, subst, ◌∙◌, arith, zero-add, ◌⊎◌, inl, inr}
use Rattle.std.proofs.lemmas.Bool.Decides.{nat_tests}
use Rattle.std.proofs.lemmas.List.{length-map}
use Rattle.std.proofs.lemmas.List.Sorted.{IsPermutation-sym, Contains-permutation}
use Rattle.std.proofs.lemmas.Option.{get_or_from_slice_get}
use Rattle.diagram_meaning.specs.Diagram.{Diagram}
use Rattle.modules_profile.specs.Systems.{system_name, systems}
use Rattle.modules_profile.proofs.lemmas.Members.{in-none, in-cases, in-map, of-map, in-filter, in-at, at-in, at-below, below-at}
use Rattle.c_syntax.specs.declared.code.Target.TheVariants.{Own, Child}
use Rattle.c_syntax.specs.Tree.{StmtTree, assign, assign_at, branch, call, StmtTrees, no_stmts, more_stmts, StructTree, ProcedureTree, ProgramTree}
use Rattle.c_syntax.specs.Lawful.{IsLawful, IsLawfulStmt, AreLawfulStmts}
use Rattle.c_syntax.specs.RootFields.{root_struct, struct_named}
use Rattle.c_syntax.proofs.lemmas.NamePlaces.{position_from-named, map-at}
use Rattle.c_semantics.specs.NumberingLaws.{Calls, AllCalls}
use Rattle.emit_shape.specs.Names.{root_name}
use Rattle.emit_shape.specs.ProgramShape.{viewed, HasSystemShape, HasShape}
use Rattle.emit_shape.specs.Programs.{no_procedure, procedure_at, names_in, procedures_of, struct_place}
use Rattle.emit_shape.specs.Rules.{KeepsRules}
use Rattle.emit_shape.specs.Slots.{counters_in}
use Rattle.emit_inlined.proofs.lemmas.AtPositions.{reach_of, procedure-lawful, body-lawful}
use Rattle.emit_inlined.proofs.lemmas.CallCounts.{each-at}
use Rattle.emit_inlined.proofs.lemmas.KeptPlaces.{take-found}
use Rattle.right_uniform.proofs.Sites.{IsSited}
use Rattle.right_uniform.proofs.PublicCalls.{IsPublicInside, stmts-public, start-public, step-public}

-- what is at a position of a list
pub there-at : (xs : List ProcedureTree) (k : ℕ) → k < length xs → slice_get xs k ≡ Some (slice_index_or xs k no_procedure)
there-at [] k h = absurd (omega (arith, h))
there-at (x ∷ xs) zero h = refl
there-at (x ∷ xs) (suc k) h = there-at xs k (omega (arith, h))

pub member : {A : Type 0} (P : A → Type 0) (xs : List A) (x : A) → AllByRecursion P xs → Contains xs x → P x
member P xs x all has = let at = at-in xs x has in each-at P xs at.0 x all at.1

-- ---- Where procedures belong

-- the struct at a position is that of a system
pub record IsOfSystem (p : ProgramTree) (d : Diagram) (of : ℕ) : Type 0 where
  pub system : Option ℕ
  pub is_system : Contains (systems d.rows) system
  pub place : of ≡ struct_place p system

module _ (p : ProgramTree) (d : Diagram) (lawful : IsLawful p) where
  named-place : (k : ℕ) (st : StructTree) → slice_get p.structs k ≡ Some st → (name : List ℕ) → name ≡ st.name →
      unwrap_or (struct_named p name) 0 ≡ k
  named-place k st there name same =
      let within : k < length (map (λ (x : StructTree). x.name) p.structs) =
      (let below = at-below p.structs k st there in
      let long = length-map p.structs (λ (x : StructTree). x.name) in omega (arith, below, long)) in
      ap (λ n. unwrap_or (struct_named p n) 0) (same ∙ sym (map-at (λ (x : StructTree). x.name) p.structs k st [] there))
      ∙ ap (λ o. unwrap_or o 0) (position_from-named (λ (x : StructTree). x.name) p.structs 0 k lawful.struct_names within)
      ∙ zero-add k

  owner : (delays : List Bool) (hyper : ℕ) → HasShape p d delays hyper → (k : ℕ) → k < length p.structs →
      (k ≡ root_struct p) ⊎ IsOfSystem p d k
  owner delays hyper shape k inside =
      let (st, there) = below-at p.structs k inside in
      by st there
      (in-cases root_name st.name (map system_name (systems d.rows))
      (Contains-permutation (map (λ (x : StructTree). x.name) p.structs) (root_name ∷ map system_name (systems d.rows)) st.name
      (IsPermutation-sym (root_name ∷ map system_name (systems d.rows)) (map (λ (x : StructTree). x.name) p.structs) shape.structs)
      (in-map (λ (x : StructTree). x.name) p.structs st (in-at p.structs k st there))))
    where
      by : (st : StructTree) → slice_get p.structs k ≡ Some st →
          (root_name ≡ st.name) ⊎ Contains (map system_name (systems d.rows)) st.name → (k ≡ root_struct p) ⊎ IsOfSystem p d k
      by st there (inl is) = inl (sym (named-place k st there root_name is))
      by st there (inr has) =
          let (s, is_system, is) = of-map system_name (systems d.rows) st.name has in
          inr (record { system = s; is_system = is_system; place = sym (named-place k st there (system_name s) is) })

-- ---- Calls

module _ (p : ProgramTree) (m : ℕ) (q : ProcedureTree) where
  mutual
    stmt-sited : (s : StmtTree) → IsLawfulStmt (reach_of p m q) s → Calls (IsPublicInside p) s → Calls (IsSited p q) s
    stmt-sited (assign line f e) h g = tt
    stmt-sited (assign_at line f index e) h g = tt
    stmt-sited (branch line test a b) h g = (stmts-sited a h.1 g.0, stmts-sited b h.2 g.1)
    stmt-sited (call line k Own es) (x, there, of, count, all) g =
        let found = (take-found p.procedures k m x there).1 in (
          at-below p.procedures k x found,
          ap (λ (y : ProcedureTree). y.of) (get_or_from_slice_get p.procedures k x no_procedure found) ∙ sym of,
        )
    stmt-sited (call line k (Child f) es) (x, there, of, count, all) g =
        (at-below p.procedures k x (take-found p.procedures k m x there).1, g)

    stmts-sited : (ss : StmtTrees) → AreLawfulStmts (reach_of p m q) ss → AllCalls (IsPublicInside p) ss → AllCalls (IsSited p q) ss
    stmts-sited no_stmts h g = tt
    stmts-sited (more_stmts s ss) h g = (stmt-sited s h.0 g.0, stmts-sited ss h.1 g.1)

module _ (p : ProgramTree) (d : Diagram) (delays : List Bool) (hyper : ℕ) (lawful : IsLawful p) (shape : HasShape p d delays hyper) where
  -- a procedure of the struct of a system, or of the root
  pub own-has : (of m : ℕ) (q : ProcedureTree) → slice_get p.procedures m ≡ Some q → q.of ≡ of → Contains (procedures_of p of) q
  own-has of m q there is =
      in-filter (λ (x : ProcedureTree). x.of == of) p.procedures q (in-at p.procedures m q there) (grind (arith, nat_tests))

  inside-public : (m : ℕ) (q : ProcedureTree) → slice_get p.procedures m ≡ Some q → AllCalls (IsPublicInside p) q.body
  inside-public m q there =
      by (owner p d lawful delays hyper shape q.of (procedure-lawful p.pures p.structs p.procedures [] m q lawful.procedures there).of)
    where
      root-by : (q ≡ shape.root.start) ⊎ ((q ≡ shape.root.step) ⊎ Contains [] q) → AllCalls (IsPublicInside p) q.body
      root-by (inl is) = subst (λ (x : ProcedureTree). AllCalls (IsPublicInside p) x.body) (sym is) (start-public p d hyper shape.root)
      root-by (inr (inl is)) = subst (λ (x : ProcedureTree). AllCalls (IsPublicInside p) x.body) (sym is) (step-public p d hyper shape.root)
      root-by (inr (inr has)) = absurd (in-none q has)

      either : (shape.root.start ≡ q) ⊎ Contains (shape.root.step ∷ []) q → AllCalls (IsPublicInside p) q.body
      either (inl is) = root-by (inl (sym is))
      either (inr has) = second (in-cases shape.root.step q [] has)
        where
          second : (shape.root.step ≡ q) ⊎ Contains [] q → AllCalls (IsPublicInside p) q.body
          second (inl is) = root-by (inr (inl (sym is)))
          second (inr none) = root-by (inr (inr none))

      by : (q.of ≡ root_struct p) ⊎ IsOfSystem p d q.of → AllCalls (IsPublicInside p) q.body
      by (inl is) = either
          (in-cases shape.root.start q (shape.root.step ∷ [])
          (Contains-permutation (procedures_of p (root_struct p)) (shape.root.start ∷ shape.root.step ∷ []) q
          (IsPermutation-sym (shape.root.start ∷ shape.root.step ∷ []) (procedures_of p (root_struct p)) shape.root.only)
          (own-has (root_struct p) m q there is)))
      by (inr is) =
          let system : HasSystemShape p d delays is.system =
          member (HasSystemShape p d delays) (systems d.rows) is.system shape.each is.is_system in
          stmts-public p (struct_place p is.system) (viewed system.view) q q.body
          (member (KeepsRules (names_in p (struct_place p is.system)) (viewed system.view) (counters_in system.fields.slots))
          (procedures_of p (struct_place p is.system)) q system.rules (own-has (struct_place p is.system) m q there is.place)).calls

  pub all-sited : (m : ℕ) → m < length p.procedures → AllCalls (IsSited p (procedure_at p m)) (procedure_at p m).body
  all-sited m inside =
      let q = procedure_at p m in
      let there = there-at p.procedures m inside in
      stmts-sited p m q q.body (body-lawful p m q lawful.procedures there) (inside-public m q there)
