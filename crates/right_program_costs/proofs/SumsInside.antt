-- A sum over all systems inside a system is at least that over its children, each with all inside it.
use Rattle.std.specs.Prelude.{◌≡◌, ◌⊎◌, ℕ, suc, ◌+◌, ◌<◌, ◌≤◌, Bool, true, false, ◌&&◌, ◌||◌, ◌==◌, cond, List, length, slice_get, Contains, Option, Some, refl}
use Rattle.std.proofs.Common.{sym, ap, subst, ◌∙◌, arith, inl, inr, true≢false, eq-eqb}
use Rattle.std.proofs.lemmas.Bool.{eqb-true}
use Rattle.diagram_meaning.specs.declared.table.Row.{Row}
use Rattle.diagram_meaning.specs.Rows.{row_at, row_numbers, is_inside}
use Rattle.diagram_blocks.specs.Kinds.{is_subsystem}
use Rattle.diagram_meaning.specs.WellFormed.{IsNested}
use Rattle.diagram_meaning.proofs.lemmas.Tests.{or-cases}
use Rattle.modules_profile.specs.Systems.{systems_inside}
use Rattle.modules_profile.proofs.lemmas.Members.{in-at, at-in, in-range, of-range, of-filter}
use Rattle.right_program_costs.proofs.Sums.{total, total-add, total-kept, total-le, counted-at, at-most-one, by-owner}
use Rattle.right_linking.proofs.lemmas.SystemsUnder.{IsChildRow, Under, under-later, inside-under, own-inside, more-inside, child-apart, one-child}

module _ (rows : List Row) (nested : IsNested rows) (n : Option ℕ) where
  below-all : (x : ℕ) → Contains (row_numbers rows) x → x < length rows
  below-all x has = let high = (of-range 0 (length rows) x has).1 in omega arith

  -- row x is the child e, or under it
  abbrev is-of : ℕ → ℕ → Bool
  is-of x e = (x == e) || is_inside rows (Some e) x

  same-child : (x e f : ℕ) → x < length rows → IsChildRow rows n e → IsChildRow rows n f → is-of x e ≡ true → is-of x f ≡ true → e ≡ f
  same-child x e f below one two a b = by (or-cases (x == e) (is_inside rows (Some e) x) a)
      (or-cases (x == f) (is_inside rows (Some f) x) b)
    where
      by : ((x == e) ≡ true) ⊎ (is_inside rows (Some e) x ≡ true) → ((x == f) ≡ true) ⊎ (is_inside rows (Some f) x ≡ true) → e ≡ f
      by (inl p) (inl q) = sym (eqb-true x e p) ∙ eqb-true x f q
      by (inl p) (inr q) =
          let u = inside-under rows nested f (suc x) x (omega arith) below q in
          absurd (child-apart rows nested n e f u.0 one two (subst (λ z. Under rows f u.0 z) (eqb-true x e p) u.1))
      by (inr p) (inl q) =
          let u = inside-under rows nested e (suc x) x (omega arith) below p in
          absurd (child-apart rows nested n f e u.0 two one (subst (λ z. Under rows e u.0 z) (eqb-true x f q) u.1))
      by (inr p) (inr q) =
          let u = inside-under rows nested e (suc x) x (omega arith) below p in
          let w = inside-under rows nested f (suc x) x (omega arith) below q in
          one-child rows nested n e f u.0 w.0 x one two u.1 w.1

  module _ (f : ℕ → ℕ) (e : ℕ) (child : IsChildRow rows n e) where
    abbrev sub : ℕ → Bool
    sub x = is_subsystem (row_at rows x).kind

    weigh : (x : ℕ) → x < length rows → (here : Bool) → (x == e) ≡ here → (inside around kind : Bool) →
        is_inside rows (Some e) x ≡ inside → is_inside rows n x ≡ around → sub x ≡ kind →
        cond here (f x) 0 + cond (kind && inside) (f x) 0 ≤ cond (kind && around) (cond (here || inside) (f x) 0) 0
    weigh x below true is inside around kind in_e in_n kind_is =
        let same : x ≡ e = eqb-true x e is in
        let kind_here : kind ≡ true = sym kind_is ∙ ap sub same ∙ child.subsystem in
        let around_here : around ≡ true = sym in_n ∙ ap (is_inside rows n) same ∙ own-inside rows nested n e child.in_table child.owner in
        by inside in_e kind around kind_here around_here
      where
        by : (inside : Bool) → is_inside rows (Some e) x ≡ inside → (kind around : Bool) → kind ≡ true → around ≡ true →
            cond true (f x) 0 + cond (kind && inside) (f x) 0 ≤ cond (kind && around) (cond (true || inside) (f x) 0) 0
        by false q true true k a = omega arith
        by true q true true k a =
            let u = inside-under rows nested e (suc x) x (omega arith) below q in
            let less = under-later rows nested e u.0 x below u.1 in
            let same = eqb-true x e is in absurd (omega (arith, less, same))
        by inside q false around k a = absurd (true≢false (sym k))
        by inside q true false k a = absurd (true≢false (sym a))
    weigh x below false is false around kind in_e in_n kind_is = by kind
      where
        by : (kind : Bool) → cond false (f x) 0 + cond (kind && false) (f x) 0 ≤ cond (kind && around) (cond (false || false) (f x) 0) 0
        by true = omega arith
        by false = omega arith
    weigh x below false is true around kind in_e in_n kind_is =
        let u = inside-under rows nested e (suc x) x (omega arith) below in_e in
        by around kind (sym in_n ∙ more-inside rows nested n e u.0 x below child.owner u.1)
      where
        by : (around kind : Bool) → around ≡ true →
            cond false (f x) 0 + cond (kind && true) (f x) 0 ≤ cond (kind && around) (cond (false || true) (f x) 0) 0
        by true true a = omega arith
        by true false a = omega arith
        by false kind a = absurd (true≢false (sym a))

    child-within : f e + total f (systems_inside rows (Some e)) ≤ total (λ x. cond (is-of x e) (f x) 0) (systems_inside rows n)
    child-within =
        let stands = at-in (row_numbers rows) e (in-range 0 (length rows) e (omega arith) (let below = child.in_table in omega arith)) in
        let own = counted-at (λ x. cond (x == e) (f x) 0) (row_numbers rows) stands.0 e stands.1 in
        let here : cond (e == e) (f e) 0 ≡ f e = ap (λ t. cond t (f e) 0) (eq-eqb e e refl) in
        let one = total-kept f (λ x. sub x && is_inside rows (Some e) x) (row_numbers rows) in
        let whole = total-kept (λ x. cond (is-of x e) (f x) 0) (λ x. sub x && is_inside rows n x) (row_numbers rows) in
        let both = total-add (λ x. cond (x == e) (f x) 0) (λ x. cond (sub x && is_inside rows (Some e) x) (f x) 0) (row_numbers rows) in
        let each = total-le (λ x. cond (x == e) (f x) 0 + cond (sub x && is_inside rows (Some e) x) (f x) 0)
        (λ x. cond (sub x && is_inside rows n x) (cond (is-of x e) (f x) 0) 0) (row_numbers rows)
        (λ x has. weigh x (below-all x has) (x == e) refl (is_inside rows (Some e) x) (is_inside rows n x) (sub x) refl refl refl) in
        omega (arith, own, here, one, whole, both, each)

  pub sum-inside : (f : ℕ → ℕ) (children : List ℕ) → ((e : ℕ) → Contains children e → IsChildRow rows n e) →
      ((i j e : ℕ) → slice_get children i ≡ Some e → slice_get children j ≡ Some e → i ≡ j) →
      total (λ e. f e + total f (systems_inside rows (Some e))) children ≤ total f (systems_inside rows n)
  sum-inside f children are once =
      let each = total-le (λ e. f e + total f (systems_inside rows (Some e)))
      (λ e. total (λ x. cond (is-of x e) (f x) 0) (systems_inside rows n)) children
      (λ e has. child-within f e (are e has)) in
      let owned = by-owner is-of f children (systems_inside rows n) (λ x has.
      let below = below-all x (of-filter (λ e. is_subsystem (row_at rows e).kind && is_inside rows n e) (row_numbers rows) x has).0 in
      at-most-one (is-of x) children (λ i k a b at to p q.
      let same = same-child x a b below (are a (in-at children i a at)) (are b (in-at children k b to)) p q in
      once i k a at (to ∙ ap Some (sym same)))) in
      omega (arith, each, owned)
