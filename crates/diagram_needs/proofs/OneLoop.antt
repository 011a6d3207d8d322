-- At most one loop is reported, and none where there is no loop.
use Rattle.std.specs.Prelude.{◌≡◌, ℕ, ◌≤◌, IsTrue, List, [], ◌∷◌}
use Rattle.std.specs.FinMap.{slice_cmp-IsAntisymmetric, nat_cmp-IsAntisymmetric}
use Rattle.std.specs.declared.cmp.Ordering.{Ordering}
use Rattle.std.specs.declared.cmp.Ordering.TheVariants.{Less, Equal, Greater}
use Rattle.std.specs.Ordering.{nat_cmp, is_le, ordering_reverse}
use Rattle.std.specs.Cmp.Lexicographic.{slice_cmp}
use Rattle.std.proofs.Common.{arith, sym, ap, subst, ◌∙◌, true≢false}
use Rattle.std.proofs.lemmas.Cmp.{nat_list_cmp_total}
use Rattle.diagram_meaning.specs.Walk.{HasNoLoop, IsLeastFrom, IsLeastLoop}
use Rattle.diagram_needs.specs.LoopLaws.{ToldLoopIsOne}

-- where neither of two comes after the other, they are equal
both-first : (r s : Ordering) → r ≡ ordering_reverse s → IsTrue (is_le r) → IsTrue (is_le s) → r ≡ Equal
both-first r Less e p q = absurd (true≢false (sym p ∙ ap is_le e))
both-first r Equal e p q = e
both-first r Greater e p q = absurd (true≢false (sym q))

same-list : (xs ys : List ℕ) → IsTrue (is_le (slice_cmp nat_cmp xs ys)) → IsTrue (is_le (slice_cmp nat_cmp ys xs)) → xs ≡ ys
same-list xs ys p q = slice_cmp-IsAntisymmetric nat_cmp-IsAntisymmetric xs ys
    (both-first (slice_cmp nat_cmp xs ys) (slice_cmp nat_cmp ys xs) (nat_list_cmp_total.antisymm xs ys) p q)

module _ (needs : ℕ → List ℕ) where
  same-path : (a : ℕ) (path other : List ℕ) → IsLeastFrom needs a path → IsLeastFrom needs a other → path ≡ other
  same-path a path other p q =
      let few = p.shortest other q.is_loop in
      let many = q.shortest path p.is_loop in
      same-list path other (p.least other q.is_loop (omega arith)) (q.least path p.is_loop (omega arith))

  same-loop : (loop other : List ℕ) → IsLeastLoop needs loop → IsLeastLoop needs other → loop ≡ other
  same-loop [] other p q = absurd p
  same-loop (a ∷ path) [] p q = absurd q
  same-loop (a ∷ path) (b ∷ other) p q =
      let low : a ≤ b = (p.least_row (b ∷ other) q.is_loop).0 in
      let high : b ≤ a = (q.least_row (a ∷ path) p.is_loop).0 in
      let same : a ≡ b = omega arith in
      let rest = same-path a path other p (subst (λ c. IsLeastFrom needs c other) (sym same) q) in
      λ i. same i ∷ rest i

  -- not both: a loop that is reported is a loop
  pub told-not-none : HasNoLoop needs → (loop : List ℕ) → IsLeastLoop needs loop → ⊥
  told-not-none none [] l = l
  told-not-none none (a ∷ path) l = none (a ∷ path) l.is_loop

pub told_loop_is_one : ToldLoopIsOne
told_loop_is_one = same-loop
