-- What is at each position of a program's procedures: a procedure of a system, or one of the root's.
use Rattle.std.specs.Prelude.{◌≡◌, ◌⊎◌, ℕ, zero, suc, ◌+◌, ◌<◌, ◌≤◌, List, [], ◌∷◌, ◌++◌, map, flat_map, length, drop, sum_by, slice_get, Option, Some}
use Rattle.std.proofs.Common.{refl, sym, ap, subst, ◌∙◌, arith, inl, inr}
use Rattle.std.proofs.lemmas.List.{length-append}
use Rattle.std.proofs.lemmas.List.Sums.{sum_by-cons}
use Rattle.std.proofs.lemmas.Option.{none-some}
use Rattle.modules_profile.proofs.lemmas.Members.{in-at, at-map, map-at, at-append, at-right, at-below}
use Rattle.c_syntax.specs.Tree.{ProcedureTree, StructTree}
use Rattle.c_syntax.specs.Lawful.{procedure_names}
use Rattle.emit_shape.specs.SystemTree.{SystemTree}
use Rattle.emit_shape.specs.Relocation.{moved_procedure}
use Rattle.emit_shape.specs.Assembled.{code_at, moved_struct, first_procedure, relocation_of, root_structure}
use Rattle.right_linking.specs.Parts.{Parts, program_of, all_systems, Views}
use Rattle.right_linking.proofs.lemmas.AssembledNames.{procedure-belongs}
use Rattle.right_linking.proofs.lemmas.AssembledPlaces.{down, length-down, mapped-length, code-is, system-of, structs-down, procedures-down, own-procedure}
use Rattle.right_program_rules.proofs.Lists.{at-parts, distinct-place}
use Rattle.right_program_rules.proofs.FunctionNames.{procedure_name, procedures_at, root_both, root-cases, root-other, procedures-differ}

module _ (a : Parts) (v : Views a) where
  -- an own procedure of a system, at its place
  pub record IsOwn (k : ℕ) (q : ProcedureTree) : Type 0 where
    pub place : ℕ
    pub system : Option ℕ
    pub stands : slice_get (all_systems a) place ≡ Some system
    pub number : ℕ
    pub own : ProcedureTree
    pub there : slice_get (v.at system).code.procedures number ≡ Some own
    pub is : moved_procedure (relocation_of a.codes place) own ≡ q
    pub at : k ≡ first_procedure a.codes place + number

  -- how many come before those of the root
  abbrev pub before_root : ℕ
  before_root = length (flat_map (procedures_at a v) (down (length a.codes)))

  -- one of the root's
  pub record IsOfRoot (k : ℕ) (q : ProcedureTree) : Type 0 where
    pub number : ℕ
    pub at : before_root + number ≡ k
    pub there : slice_get (root_both a v) number ≡ Some q

  own-at : (k : ℕ) (q : ProcedureTree) → slice_get (program_of a).procedures k ≡ Some q → (i : ℕ) → i < length a.codes → (j : ℕ) →
      slice_get (procedures_at a v i) j ≡ Some q → IsOwn k q
  own-at k q at i below j here =
      let t = system-of a i below in
      let known = v.each i t.0 t.1 in
      let from = map-at (moved_procedure (relocation_of a.codes i)) (code_at a.codes i).procedures j q here in
      let own = subst (λ (code : SystemTree). slice_get code.procedures j ≡ Some from.0) (code-is a i t.0 (v.at t.0) known) from.1 in
      let place = own-procedure a v i t.0 t.1 j from.0 own in
      record {
        place = i;
        system = t.0;
        stands = t.1;
        number = j;
        own = from.0;
        there = own;
        is = from.2;
        at = distinct-place (procedure_names (program_of a).procedures) k (first_procedure a.codes i + j) q.name (procedures-differ a v)
            (at-map procedure_name (program_of a).procedures k q at)
            (at-map procedure_name (program_of a).procedures (first_procedure a.codes i + j)
            (moved_procedure (relocation_of a.codes i) from.0) place
            ∙ ap (λ z. Some (procedure_name z)) from.2);
      }

  pub at-position : (k : ℕ) (q : ProcedureTree) → slice_get (program_of a).procedures k ≡ Some q → IsOwn k q ⊎ IsOfRoot k q
  at-position k q at =
      let down_at = subst (λ ps. slice_get ps k ≡ Some q) (procedures-down a (length a.codes) refl) at in
      elim (at-append (flat_map (procedures_at a v) (down (length a.codes))) (root_both a v) k q down_at) [
        | inl here ↦
            let part = at-parts (procedures_at a v) (length a.codes) k q here in
            inl (own-at k q at part.0 part.2 part.1 part.3)
        | inr last ↦ inr (record { number = last.0; at = last.1; there = last.2 })
      ]

  pub root-at : (j : ℕ) (q : ProcedureTree) → slice_get (root_both a v) j ≡ Some q →
      slice_get (program_of a).procedures (before_root + j) ≡ Some q
  root-at j q at =
      subst (λ ps. slice_get ps (before_root + j) ≡ Some q) (sym (procedures-down a (length a.codes) refl))
      (at-right (flat_map (procedures_at a v) (down (length a.codes))) (root_both a v) j q at)

  -- all procedures of the systems come before the root's
  pub own-before : (place : ℕ) (s : Option ℕ) → slice_get (all_systems a) place ≡ Some s → (j : ℕ) (q : ProcedureTree) →
      slice_get (v.at s).code.procedures j ≡ Some q → first_procedure a.codes place + j < before_root
  own-before place s stands j q at =
      elim (at-append (flat_map (procedures_at a v) (down (length a.codes))) (root_both a v)
      (first_procedure a.codes place + j) moved here) [
        | inl front ↦ at-below (flat_map (procedures_at a v) (down (length a.codes))) (first_procedure a.codes place + j) moved front
        | inr last ↦ absurd (wrong last.0 last.2)
      ]
    where
      moved : ProcedureTree
      moved = moved_procedure (relocation_of a.codes place) q

      here : slice_get (flat_map (procedures_at a v) (down (length a.codes)) ++ root_both a v)
          (first_procedure a.codes place + j) ≡ Some moved
      here = subst (λ ps. slice_get ps (first_procedure a.codes place + j) ≡ Some moved) (procedures-down a (length a.codes) refl)
          (own-procedure a v place s stands j q at)

      wrong : (i : ℕ) → slice_get (root_both a v) i ≡ Some moved → ⊥
      wrong i there =
          let root = root-cases a v moved (in-at (root_both a v) i moved there) in
          root-other a v place s q.name root.0 stands
          (procedure-belongs a place s (v.at s) (v.each place s stands) q (in-at (v.at s).code.procedures j q at)) root.1

  -- ---- Structs

  pub structs-long : length (program_of a).structs ≡ length a.codes + 1
  structs-long =
      let g : ℕ → StructTree = λ i. moved_struct a.codes (code_at a.codes i) in
      let both = length-append (map g (down (length a.codes))) (root_structure a.codes a.root a.hyper ∷ []) in
      let made = mapped-length g (down (length a.codes)) in
      let long = length-down (length a.codes) in
      ap length (structs-down a) ∙ omega (arith, both, made, long)

-- ---- Later codes come first

abbrev procedure_count : SystemTree → ℕ
procedure_count c = length c.procedures

drop-nothing : (n : ℕ) → drop {A = SystemTree} n [] ≡ []
drop-nothing zero = refl
drop-nothing (suc n) = refl

sum-drop : (xs : List SystemTree) (k : ℕ) (x : SystemTree) → slice_get xs k ≡ Some x →
    sum_by procedure_count (drop k xs) ≡ procedure_count x + sum_by procedure_count (drop (suc k) xs)
sum-drop [] k x at = absurd (none-some x at)
sum-drop (y ∷ ys) zero x at =
    let same : y ≡ x = cc at in
    sum_by-cons procedure_count y ys ∙ ap (λ (c : SystemTree). procedure_count c + sum_by procedure_count ys) same
sum-drop (y ∷ ys) (suc k) x at = sum-drop ys k x at

sum-less : (xs : List SystemTree) (k n : ℕ) → k ≤ n → sum_by procedure_count (drop n xs) ≤ sum_by procedure_count (drop k xs)
sum-less [] k n le = let one = ap (sum_by procedure_count) (drop-nothing k) in let two = ap (sum_by procedure_count) (drop-nothing n) in
    omega (arith, one, two)
sum-less (y ∷ ys) zero zero le = omega arith
sum-less (y ∷ ys) zero (suc n) le =
    let rest = sum-less ys zero n (omega arith) in
    let first = sum_by-cons procedure_count y ys in omega (arith, rest, first)
sum-less (y ∷ ys) (suc k) zero le = absurd (omega (arith, le))
sum-less (y ∷ ys) (suc k) (suc n) le = sum-less ys k n (omega (arith, le))

-- the procedures of a later code come before those of an earlier one
pub later-first : (xs : List SystemTree) (place inner : ℕ) (x : SystemTree) → place < inner → slice_get xs inner ≡ Some x →
    first_procedure xs inner + length x.procedures ≤ first_procedure xs place
later-first xs place inner x later at =
    let here = sum-drop xs inner x at in
    let rest = sum-less xs (place + 1) inner (omega (arith, later)) in
    let next : inner + 1 ≡ suc inner = omega arith in
    let same = ap (λ n. sum_by procedure_count (drop n xs)) next in
    omega (arith, here, rest, same)
