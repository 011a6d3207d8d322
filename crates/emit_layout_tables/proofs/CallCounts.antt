-- Which groups are called more than once, and which have nodes.
use Rattle.std.proofs.Common.{◌≡◌, ℕ, suc, not, eqb, ltb, List, [], ◌∷◌, length, min, refl, sym, ap, ◌∙◌, arith, inl, inr}
use Rattle.std.proofs.lemmas.Bool.{lt-ltb, le-ltb, ne_eqb, cases_lt}
use Rattle.emit_system_spec.specs.Groups.{has_some}

-- a count that goes up to 2 alone says whether there is more than one
pub more-than-one : (n m : ℕ) → min n 2 ≡ min m 2 → ltb 1 n ≡ ltb 1 m
more-than-one n m e = elim (cases_lt 1 n) [
  | inl above ↦ lt-ltb 1 n above ∙ sym (lt-ltb 1 m (omega (arith, above, e)))
  | inr below ↦ le-ltb 1 n below ∙ sym (le-ltb 1 m (omega (arith, below, e)))
]

pub has-some-is : (ks : List ℕ) → has_some ks ≡ not (eqb (length ks) 0)
has-some-is [] = refl
has-some-is (k ∷ ks) = sym (ap not (ne_eqb (suc (length ks)) 0 (λ e. omega (arith, e))))
