-- The first instance is the root's.
use Rattle.std.specs.Prelude.{◌≡◌, ℕ, zero, suc, ◌+◌, List, [], ◌∷◌, ◌++◌, length, slice_get, slice_index_or, Some, unwrap_or, codes, refl}
use Rattle.std.proofs.Common.{sym, ap, subst, ◌∙◌, arith, length-append}
use Rattle.std.proofs.lemmas.Option.{get_or_from_slice_get}
use Rattle.modules_profile.proofs.lemmas.Members.{at-left, at-right}
use Rattle.c_syntax.specs.Tree.{StructTree, ProgramTree}
use Rattle.c_syntax.specs.Lawful.{IsLawful}
use Rattle.c_syntax.specs.RootFields.{root_struct}
use Rattle.c_interpreter.specs.Instances.{StructInstance, whole_instance, field_instances, struct_instances, instance_at}
use Rattle.right_driving.proofs.Lists.{name-place}

-- those of the earlier structs stay
kept : (earlier : List (List StructInstance)) (structs : List StructTree) (k : ℕ) (xs : List StructInstance) →
    slice_get earlier k ≡ Some xs →
    slice_get (struct_instances earlier structs) k ≡ Some xs
kept earlier [] k xs at = at
kept earlier (s ∷ structs) k xs at =
    let own : List StructInstance = whole_instance (length earlier) ∷ field_instances earlier 0 s.fields in
    kept (earlier ++ own ∷ []) structs k xs (at-left earlier (own ∷ []) k xs at)

-- the instances of a struct begin with the whole
abbrev Begins : List (List StructInstance) → ℕ → Type 0
Begins all k = (more : List StructInstance) × (slice_get all k ≡ Some (whole_instance k ∷ more))

begins : (earlier : List (List StructInstance)) (structs : List StructTree) (k : ℕ) (s : StructTree) → slice_get structs k ≡ Some s →
    Begins (struct_instances earlier structs) (length earlier + k)
begins earlier [] k s at = absurd (let wrong : ⊥ = cc at in wrong)
begins earlier (t ∷ structs) zero s at =
    let more : List StructInstance = field_instances earlier 0 t.fields in
    let own : List StructInstance = whole_instance (length earlier) ∷ more in
    let none_more : length earlier ≡ length earlier + 0 = omega arith in (
      more,
      subst (λ n. slice_get (struct_instances earlier (t ∷ structs)) n ≡ Some (whole_instance n ∷ more)) none_more
          (kept (earlier ++ own ∷ []) structs (length earlier) own
          (subst (λ n. slice_get (earlier ++ own ∷ []) n ≡ Some own) (sym none_more) (at-right earlier (own ∷ []) 0 own refl))),
    )
begins earlier (t ∷ structs) (suc k) s at =
    let own : List StructInstance = whole_instance (length earlier) ∷ field_instances earlier 0 t.fields in
    let later = begins (earlier ++ own ∷ []) structs k s at in
    let long = length-append earlier (own ∷ []) in
    let place : length (earlier ++ own ∷ []) + k ≡ length earlier + suc k = omega (arith, long) in
    (later.0, subst (λ n. slice_get (struct_instances earlier (t ∷ structs)) n ≡ Some (whole_instance n ∷ later.0)) place later.1)

pub first-is-root : (p : ProgramTree) → IsLawful p → instance_at p 0 ≡ Some (whole_instance (root_struct p))
first-is-root p lawful =
    let root = lawful.root in
    let place : root_struct p ≡ root.of =
    ap (λ o. unwrap_or o 0)
    (name-place (λ (s : StructTree). s.name) p.structs root.of root.struct (codes "root") lawful.struct_names root.struct_there
    root.struct_name) in
    let (more, at) = begins [] p.structs root.of root.struct root.struct_there in
    let none_more : 0 + root.of ≡ root.of = omega arith in
    let here : slice_get (struct_instances [] p.structs) root.of ≡ Some (whole_instance root.of ∷ more) =
    subst (λ n. slice_get (struct_instances [] p.structs) n ≡ Some (whole_instance n ∷ more)) none_more at in
    ap (λ k. slice_get (slice_index_or (struct_instances [] p.structs) k []) 0) place
    ∙ ap (λ xs. slice_get xs 0) (get_or_from_slice_get (struct_instances [] p.structs) root.of (whole_instance root.of ∷ more) [] here)
    ∙ ap (λ k. Some (whole_instance k)) (sym place)
