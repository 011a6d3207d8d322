-- The subsystems around a row: those before it, and with them all rows between.
use Rattle.std.specs.Prelude.{◌≡◌, ◌⊎◌, ℕ, zero, suc, ◌+◌, ◌<◌, ◌≤◌, List, ◌∷◌, length, Contains, Option, Some, None}
use Rattle.std.proofs.Common.{sym, subst, arith, inl, inr}
use Rattle.diagram_meaning.specs.declared.table.Row.{Row}
use Rattle.diagram_meaning.specs.Rows.{row_at, outward, enclosing}
use Rattle.diagram_meaning.specs.WellFormed.{IsNested, IsOwner, FollowsIn}
use Rattle.diagram_meaning.proofs.lemmas.Enclosing.{enclosing-step}
use Rattle.modules_profile.proofs.lemmas.Members.{in-none, in-first, in-rest, in-cases}

module _ (rows : List Row) (nested : IsNested rows) where
  abbrev pub owner : ℕ → Option ℕ
  owner b = (row_at rows b).owner

  -- the subsystem rows from a system outward
  abbrev pub above : Option ℕ → List ℕ
  above o = enclosing rows None o

  above-row : (e : ℕ) → e < length rows → above (Some e) ≡ e ∷ above (owner e)
  above-row e below = enclosing-step rows None nested e below

  no-one : (x : ℕ) → Contains (above None) x → ⊥
  no-one x h = by (length rows) h
    where
      by : (n : ℕ) → Contains (outward rows None n None) x → ⊥
      by zero k = in-none x k
      by (suc n) k = in-none x k

  above-cases : (x e : ℕ) → e < length rows → Contains (above (Some e)) x → (e ≡ x) ⊎ Contains (above (owner e)) x
  above-cases x e below h = in-cases e x (above (owner e)) (subst (λ xs. Contains xs x) (above-row e below) h)

  pub above-first : (e : ℕ) → e < length rows → Contains (above (Some e)) e
  above-first e below = subst (λ xs. Contains xs e) (sym (above-row e below)) (in-first e (above (owner e)))

  above-rest : (e x : ℕ) → e < length rows → Contains (above (owner e)) x → Contains (above (Some e)) x
  above-rest e x below h = subst (λ xs. Contains xs x) (sym (above-row e below)) (in-rest e x (above (owner e)) h)

  before : (k : ℕ) (o : Option ℕ) (b x : ℕ) → IsOwner rows b o → b < length rows → b ≤ k → Contains (above o) x → x < b
  before k None b x owned below few h = absurd (no-one x h)
  before zero (Some e) b x owned below few h = absurd (let low = owned.0 in omega (arith, low, few))
  before (suc k) (Some e) b x owned below few h =
      let low : e < b = owned.0 in
      let inside : e < length rows = omega (arith, low, below) in
      elim (above-cases x e inside h) [
        | inl same ↦ omega (arith, same, low)
        | inr more ↦ let less = before k (owner e) e x (nested.owned e inside) inside (omega (arith, low, few)) more in
            omega (arith, less, low)
      ]

  -- a subsystem around a row is before it
  pub is-before : (b x : ℕ) → b < length rows → Contains (above (owner b)) x → x < b
  is-before b x below h = before b (owner b) b x (nested.owned b below) below (omega arith) h

  outer : (k : ℕ) (o : Option ℕ) (b x y : ℕ) → IsOwner rows b o → b < length rows → b ≤ k → Contains (above o) x →
      Contains (above (owner x)) y → Contains (above o) y
  outer k None b x y owned below few h more = absurd (no-one x h)
  outer zero (Some e) b x y owned below few h more = absurd (let low = owned.0 in omega (arith, low, few))
  outer (suc k) (Some e) b x y owned below few h more =
      let low : e < b = owned.0 in
      let inside : e < length rows = omega (arith, low, below) in
      above-rest e y inside (elim (above-cases x e inside h) [
        | inl same ↦ subst (λ i. Contains (above (owner i)) y) (sym same) more
        | inr rest ↦ outer k (owner e) e x y (nested.owned e inside) inside (omega (arith, low, few)) rest more
      ])

  -- what is around a subsystem around a row is around that row
  pub is-outer : (b x y : ℕ) → b < length rows → Contains (above (owner b)) x → Contains (above (owner x)) y → Contains (above (owner b)) y
  is-outer b x y below h more = outer b (owner b) b x y (nested.owned b below) below (omega arith) h more

  one-back : (b x : ℕ) → x < b → suc b < length rows → Contains (above (owner (suc b))) x → Contains (above (owner b)) x
  one-back b x low below h = by (owner (suc b)) (nested.in_order b below) h
    where
      inside : b < length rows
      inside = omega (arith, below)

      same : (p : ℕ) → b ≡ p → (p ≡ x) ⊎ Contains (above (owner p)) x → Contains (above (owner b)) x
      same p e (inl is) = absurd (omega (arith, e, is, low))
      same p e (inr more) = subst (λ i. Contains (above (owner i)) x) (sym e) more

      around : (p : ℕ) → Contains (above (owner b)) p → (p ≡ x) ⊎ Contains (above (owner p)) x → Contains (above (owner b)) x
      around p k (inl is) = subst (Contains (above (owner b))) is k
      around p k (inr more) = is-outer b p x inside k more

      by : (o : Option ℕ) → FollowsIn rows b o → Contains (above o) x → Contains (above (owner b)) x
      by None follows k = absurd (no-one x k)
      by (Some p) follows k = elim (in-cases b p (above (owner b)) follows) [
        | inl e ↦ same p e (above-cases x p (omega (arith, e, inside)) k)
        | inr more ↦ around p more (above-cases x p (let less = is-before b p inside more in omega (arith, less, inside)) k)
      ]

  -- rows between a subsystem and a row inside it are inside it
  pub between : (k b x c : ℕ) → c + k ≡ b → b < length rows → x < c → Contains (above (owner b)) x → Contains (above (owner c)) x
  between zero b x c e below low h = subst (λ i. Contains (above (owner i)) x) (let same : b ≡ c = omega (arith, e) in same) h
  between (suc k) zero x c e below low h = absurd (omega (arith, e))
  between (suc k) (suc b) x c e below low h =
      between k b x c (omega (arith, e)) (omega (arith, below)) low (one-back b x (omega (arith, e, low)) below h)
