-- The subsystems around a system: the system itself, and those around its row.
use Rattle.std.specs.Prelude.{◌≡◌, ℕ, zero, suc, ◌≤◌, ◌<◌, List, [], ◌∷◌, length, Option, Some, None, if◌then◌else◌, ⊤}
use Rattle.std.proofs.Common.{refl, ap, arith}
use Rattle.diagram_meaning.specs.declared.table.Row.{Row}
use Rattle.diagram_meaning.specs.Rows.{row_at, is_system, outward, enclosing, around}
use Rattle.diagram_meaning.specs.WellFormed.{IsNested, IsOwner}

-- a subsystem's number is below n
abbrev Below : ℕ → Option ℕ → Type 0
Below n None = ⊤
Below n (Some e) = e < n

owner-below : (rows : List Row) (e : ℕ) (o : Option ℕ) → IsOwner rows e o → Below e o
owner-below rows e None h = tt
owner-below rows e (Some f) h = h.0

below-le : (n m : ℕ) (o : Option ℕ) → n ≤ m → Below n o → Below m o
below-le n m None le h = tt
below-le n m (Some e) le h = omega arith

module _ (rows : List Row) (s : Option ℕ) (nested : IsNested rows) where
  -- more steps than a number has make no difference
  outward-enough : (n m : ℕ) (o : Option ℕ) → n ≤ length rows → Below n o → Below m o → outward rows s n o ≡ outward rows s m o
  outward-enough zero zero o len a b = refl
  outward-enough zero (suc m) None len a b = refl
  outward-enough zero (suc m) (Some e) len a b = absurd (omega arith)
  outward-enough (suc n) zero None len a b = refl
  outward-enough (suc n) zero (Some e) len a b = absurd (omega arith)
  outward-enough (suc n) (suc m) None len a b = refl
  outward-enough (suc n) (suc m) (Some e) len a b =
      let owner = owner-below rows e (row_at rows e).owner (nested.owned e (omega arith)) in
      ap (λ l. e ∷ (if is_system s e then [] else l))
      (outward-enough n m (row_at rows e).owner (omega arith) (below-le e n (row_at rows e).owner (omega arith) owner)
      (below-le e m (row_at rows e).owner (omega arith) owner))

  -- the subsystems around the rows of subsystem e
  pub enclosing-step : (e : ℕ) → e < length rows → enclosing rows s (Some e) ≡ e ∷ around rows s e
  enclosing-step e h = by (length rows) refl
    where
      by : (n : ℕ) → length rows ≡ n →
          outward rows s n (Some e) ≡ e ∷ (if is_system s e then [] else enclosing rows s (row_at rows e).owner)
      by zero q = absurd (omega arith)
      by (suc n) q =
          let owner = owner-below rows e (row_at rows e).owner (nested.owned e h) in
          ap (λ l. e ∷ (if is_system s e then [] else l))
          (outward-enough n (length rows) (row_at rows e).owner (omega arith)
          (below-le e n (row_at rows e).owner (omega arith) owner)
          (below-le e (length rows) (row_at rows e).owner (omega arith) owner))
