-- The procedures of a system after those of its children: each by its number, seeing those before it.
use Rattle.std.specs.Prelude.{◌≡◌, ℕ, zero, suc, ◌+◌, ◌<◌, List, [], ◌∷◌, ◌++◌, length, slice_get, take, Some}
use Rattle.std.proofs.Common.{sym, ap, subst, ◌∙◌, arith, add-zero}
use Rattle.std.proofs.lemmas.List.{append_assoc, append-nil, get_or_append_left, length-append}
use Rattle.std.proofs.lemmas.Option.{same_Some, none-some}
use Rattle.std.proofs.Math.Seq.{get_or-append_seam}
use Rattle.c_syntax.specs.declared.code.CType.{CType}
use Rattle.c_syntax.specs.Tree.{ProcedureTree}
use Rattle.c_semantics.specs.Values.{Function}
use Rattle.c_semantics.specs.Machine.{Routine, no_routine, routine_at, routine_with}
use Rattle.right_relation.specs.Relation.{numbered_routines}

module _ (functions : List Function) (types : List CType) (numbers : ℕ → ℕ) where
  abbrev routines : ℕ → List Routine → List ProcedureTree → List Routine
  routines k earlier ps = numbered_routines functions types numbers k earlier ps

  abbrev first : ℕ → List Routine → ProcedureTree → Routine
  first k earlier q = routine_with functions types earlier (numbers k) q

  -- they are after the earlier ones
  pub stand-behind : (k : ℕ) (earlier : List Routine) (ps : List ProcedureTree) → (own : List Routine) ×
      (routines k earlier ps ≡ earlier ++ own)
  stand-behind k earlier [] = ([], sym (append-nil earlier))
  stand-behind k earlier (q ∷ ps) =
      let rest = stand-behind (k + 1) (earlier ++ first k earlier q ∷ []) ps in
      (first k earlier q ∷ rest.0, rest.1 ∙ append_assoc earlier (first k earlier q ∷ []) rest.0)

  stand-before : (k : ℕ) (earlier : List Routine) (ps : List ProcedureTree) (i : ℕ) → i < length earlier →
      routine_at (routines k earlier ps) i ≡ routine_at earlier i
  stand-before k earlier ps i below =
      let b = stand-behind k earlier ps in
      ap (λ rs. routine_at rs i) b.1 ∙ get_or_append_left earlier b.0 no_routine i below

  -- each sees those before it
  pub stands-at : (k : ℕ) (earlier : List Routine) (ps : List ProcedureTree) (j : ℕ) (p : ProcedureTree) → slice_get ps j ≡ Some p →
      routine_at (routines k earlier ps) (length earlier + j)
      ≡ routine_with functions types (routines k earlier (take j ps)) (numbers (k + j)) p
  stands-at k earlier [] j p at = absurd (none-some p at)
  stands-at k earlier (q ∷ ps) zero p at =
      let r : Routine = first k earlier q in
      rw (add-zero, add-zero) (stand-before (k + 1) (earlier ++ r ∷ []) ps (length earlier) (omega (arith, length-append earlier (r ∷ [])))
      ∙ get_or-append_seam earlier r [] no_routine ∙ ap (routine_with functions types earlier (numbers k)) (same_Some q p at))
  stands-at k earlier (q ∷ ps) (suc j) p at =
      let r : Routine = first k earlier q in
      let e : length (earlier ++ r ∷ []) + j ≡ length earlier + suc j = omega (arith, length-append earlier (r ∷ [])) in
      let d : k + 1 + j ≡ k + suc j = omega arith in
      subst (λ n. routine_at (routines (k + 1) (earlier ++ r ∷ []) ps) n
      ≡ routine_with functions types (routines (k + 1) (earlier ++ r ∷ []) (take j ps)) (numbers (k + suc j)) p) e
      (subst (λ n. routine_at (routines (k + 1) (earlier ++ r ∷ []) ps) (length (earlier ++ r ∷ []) + j)
      ≡ routine_with functions types (routines (k + 1) (earlier ++ r ∷ []) (take j ps)) (numbers n) p) d
      (stands-at (k + 1) (earlier ++ r ∷ []) ps j p at))

pub take-at : {A : Type 0} (xs : List A) (n k : ℕ) (x : A) → k < n → slice_get xs k ≡ Some x → slice_get (take n xs) k ≡ Some x
take-at [] n k x below at = absurd (none-some x at)
take-at (y ∷ ys) zero k x below at = absurd (omega (arith, below))
take-at (y ∷ ys) (suc n) zero x below at = at
take-at (y ∷ ys) (suc n) (suc k) x below at = take-at ys n k x (omega (arith, below)) at
