-- A program of the right shape has as many output procedures of a system as the system has functions.
use Rattle.std.specs.Prelude.{◌≡◌, ℕ, zero, suc, ◌+◌, ◌<◌, ◌≤◌, not, ◌==◌, List, [], ◌∷◌, ◌++◌, map, length, slice_get, slice_index_or, Contains, Option, Some, unwrap_or, codes, decimal, bytes_eq, refl}
use Rattle.std.specs.List.{list_any, position_from, range_with_len}
use Rattle.std.proofs.Common.{sym, ap, subst, ◌∙◌, arith, inl, inr, eq-eqb, true≢false}
use Rattle.std.proofs.lemmas.List.{length-append, length-map}
use Rattle.std.proofs.lemmas.List.FromFn.{length-range_with_len}
use Rattle.std.proofs.lemmas.List.Sorted.{Contains-permutation, IsPermutation-sym, length_permutation}
use Rattle.diagram_meaning.specs.Diagram.{Diagram}
use Rattle.modules_profile.specs.Systems.{system_name, systems}
use Rattle.modules_profile.proofs.lemmas.LawfulSteps.{short-filter}
use Rattle.modules_profile.proofs.lemmas.Members.{in-none, in-first, in-rest, in-cases, in-map, of-map, in-filter, in-at}
use Rattle.c_syntax.specs.Tree.{StructTree, no_struct, PureTree, ProcedureTree, ProgramTree}
use Rattle.c_syntax.specs.Lawful.{AreProcedures}
use Rattle.c_syntax.specs.RootFields.{root_struct}
use Rattle.emit_shape.specs.Names.{root_name, out_name}
use Rattle.emit_shape.specs.Heads.{Head, head_of, public_heads, out_head, out_heads}
use Rattle.emit_shape.specs.Faces.{out_count}
use Rattle.emit_shape.specs.Programs.{struct_at, procedures_of, struct_place}
use Rattle.right_linking.proofs.lemmas.AssembledNames.{bytes-same, bytes-apart, front-one, root-apart}
use Rattle.right_linking.proofs.lemmas.AssembledChildren.{prefix-range, any-true, any-false}
use Rattle.right_refined.proofs.lemmas.PlainNames.{system-plain}
use Rattle.right_refined.proofs.Lists.{name-place}
use Rattle.right_refined.proofs.OwnNames.{split, own-front, own-apart}
use Rattle.right_refined.proofs.PublicProcedures.{IsShaped, system, header, count, own, shown, rest, out-stands}

-- each procedure is of one of the structs
of-struct : (pures : List PureTree) (structs : List StructTree) (earlier hs : List ProcedureTree) (h : ProcedureTree) →
    AreProcedures pures structs earlier hs → Contains hs h → h.of < length structs
of-struct pures structs earlier [] h are has = absurd (in-none h has)
of-struct pures structs earlier (x ∷ xs) h are has = elim (in-cases x h xs has) [
  | inl same ↦ subst (λ (z : ProcedureTree). z.of < length structs) same are.0.of
  | inr more ↦ of-struct pures structs (earlier ++ x ∷ []) xs h are.1 more
]

module _ (p : ProgramTree) (d : Diagram) (shaped : IsShaped p d) where
  -- ---- No other procedure of the program has the name of one function more

  -- the struct of a name is where its procedures say
  struct-found : (h : ProcedureTree) (name : List ℕ) → Contains p.procedures h → (struct_at p h.of).name ≡ name →
      position_from (λ st. bytes_eq st.name name) 0 p.structs ≡ Some h.of
  struct-found h name inside is =
      let below = of-struct p.pures p.structs [] p.procedures h shaped.lawful.procedures inside in
      let at = at-struct p.structs h.of below in
      name-place (λ (st : StructTree). st.name) p.structs h.of (struct_at p h.of) name shaped.lawful.struct_names at is
    where
      at-struct : (xs : List StructTree) (k : ℕ) → k < length xs → slice_get xs k ≡ Some (slice_index_or xs k no_struct)
      at-struct [] k within = absurd (omega (arith, within))
      at-struct (x ∷ xs) zero within = refl
      at-struct (x ∷ xs) (suc k) within = at-struct xs k (omega (arith, within))

  -- so it is one of those
  own-there : (h : ProcedureTree) (k : ℕ) → Contains p.procedures h → k ≡ h.of → Contains (procedures_of p k) h
  own-there h k inside same = in-filter (λ (x : ProcedureTree). x.of == k) p.procedures h inside (eq-eqb h.of k (sym same))

  abbrev next : (s : Option ℕ) → Contains (systems d.rows) s → List ℕ
  next s has = system_name s ++ 95 ∷ (codes "out" ++ decimal (1 + count p d shaped s has))

  root-other : (s : Option ℕ) (rest other : List ℕ) → root_name ++ 95 ∷ rest ≡ system_name s ++ 95 ∷ other → ⊥
  root-other s rest other same =
      let one = front-one root_name (system_name s) rest other refl (system-plain s) same in
      true≢false (sym (bytes-same (system_name s) root_name (sym one)) ∙ root-apart s)

  of-system : (s : Option ℕ) (has : Contains (systems d.rows) s) (h : ProcedureTree) → Contains p.procedures h → h.name ≡ next s has →
      (t : Option ℕ) → Contains (systems d.rows) t → (struct_at p h.of).name ≡ system_name t → ⊥
  of-system s has h inside same t among is =
      let placed = ap (λ k. unwrap_or k 0) (struct-found h (system_name t) inside is) in
      let front = own-front p d shaped t among h (own-there h (struct_place p t) inside placed) in
      let one : system_name t ≡ system_name s =
      front-one (system_name t) (system_name s) front.0 (codes "out" ++ decimal (1 + count p d shaped s has)) (system-plain t)
      (system-plain s) (sym front.1 ∙ same) in
      let here = ap (λ k. unwrap_or k 0) (struct-found h (system_name s) inside (is ∙ one)) in
      own-apart p d shaped s has h (own-there h (struct_place p s) inside here) same

  of-root_struct : (s : Option ℕ) (has : Contains (systems d.rows) s) (h : ProcedureTree) → Contains p.procedures h →
      h.name ≡ next s has → (struct_at p h.of).name ≡ root_name → ⊥
  of-root_struct s has h inside same is =
      let placed = ap (λ k. unwrap_or k 0) (struct-found h root_name inside is) in
      let which = Contains-permutation (procedures_of p (root_struct p)) (shaped.shape.root.start ∷ shaped.shape.root.step ∷ []) h
      (IsPermutation-sym (shaped.shape.root.start ∷ shaped.shape.root.step ∷ []) (procedures_of p (root_struct p)) shaped.shape.root.only)
      (own-there h (root_struct p) inside placed) in
      elim (in-cases shaped.shape.root.start h (shaped.shape.root.step ∷ []) which) [
        | inl first ↦ begins (codes "start") shaped.shape.root.start first (ap (λ (z : Head). z.name) shaped.shape.root.start_head)
        | inr second ↦ elim (in-cases shaped.shape.root.step h [] second) [
          | inl is_step ↦ begins (codes "step") shaped.shape.root.step is_step (ap (λ (z : Head). z.name) shaped.shape.root.step_head)
          | inr none ↦ absurd (in-none h none)
        ]
      ]
    where
      begins : (end : List ℕ) (z : ProcedureTree) → z ≡ h → z.name ≡ root_name ++ 95 ∷ end → ⊥
      begins end z this named =
          root-other s end (codes "out" ++ decimal (1 + count p d shaped s has))
          (sym named ∙ ap (λ (y : ProcedureTree). y.name) this ∙ same)

  none-next : (s : Option ℕ) (has : Contains (systems d.rows) s) (h : ProcedureTree) → Contains p.procedures h → h.name ≡ next s has → ⊥
  none-next s has h inside same =
      let below = of-struct p.pures p.structs [] p.procedures h shaped.lawful.procedures inside in
      let named = Contains-permutation (map (λ (st : StructTree). st.name) p.structs) (root_name ∷ map system_name (systems d.rows))
      (struct_at p h.of).name
      (IsPermutation-sym (root_name ∷ map system_name (systems d.rows)) (map (λ (st : StructTree). st.name) p.structs) shaped.shape.structs)
      (in-map (λ (st : StructTree). st.name) p.structs (struct_at p h.of) (struct-in p.structs h.of below)) in
      elim (in-cases root_name (struct_at p h.of).name (map system_name (systems d.rows)) named) [
        | inl root ↦ of-root_struct s has h inside same (sym root)
        | inr other ↦
            let t = of-map system_name (systems d.rows) (struct_at p h.of).name other in of-system s has h inside same t.0 t.1 (sym t.2)
      ]
    where
      struct-in : (xs : List StructTree) (k : ℕ) → k < length xs → Contains xs (slice_index_or xs k no_struct)
      struct-in [] k within = absurd (omega (arith, within))
      struct-in (x ∷ xs) zero within = in-first x xs
      struct-in (x ∷ xs) (suc k) within = in-rest x (slice_index_or xs k no_struct) xs (struct-in xs k (omega (arith, within)))

  -- ---- How many

  module _ (s : Option ℕ) (has : Contains (systems d.rows) s) where
    fits : count p d shaped s has ≤ length p.procedures
    fits = omega (
      arith,
      length_permutation (public_heads (header p d shaped s has)) (shown p d shaped s has) (system p d shaped s has).heads,
      short-filter (λ (z : Head). not z.private) (map head_of (own p d shaped s has)),
      length-map (own p d shaped s has) head_of,
      short-filter (λ (x : ProcedureTree). x.of == struct_place p s) p.procedures,
      length-append (out_heads (header p d shaped s has)) (rest p d shaped s has),
      length-map (range_with_len 1 (count p d shaped s has)) (out_head (header p d shaped s has)),
      length-range_with_len 1 (count p d shaped s has),
    )

    pub counted : out_count p s ≡ count p d shaped s has
    counted =
        prefix-range (λ j. list_any (λ (x : ProcedureTree). bytes_eq x.name (out_name s j)) p.procedures) 1 (length p.procedures)
        (count p d shaped s has) fits (λ k low high. let w = out-stands p d shaped s has k low high in
        any-true (λ (x : ProcedureTree). bytes_eq x.name (out_name s k)) p.procedures w.procedure
        (in-at p.procedures w.number w.procedure w.there) (bytes-same w.procedure.name (out_name s k) w.named))
        (any-false (λ (x : ProcedureTree). bytes_eq x.name (out_name s (1 + count p d shaped s has))) p.procedures
        (λ x inside. bytes-apart x.name (out_name s (1 + count p d shaped s has))
        (λ same. none-next s has x inside (same ∙ split p d shaped s has (codes "out") (decimal (1 + count p d shaped s has))))))
