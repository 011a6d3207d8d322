-- Fields of which some were changed: each is as before or as after.
use Rattle.std.specs.Prelude.{◌≡◌, ◌⊎◌, ℕ, zero, suc, Bool, true, false, ◌==◌, ◌||◌, if◌then◌else◌, List, [], ◌∷◌, map, slice_get, Contains, Some, refl}
use Rattle.std.specs.List.{list_any}
use Rattle.std.proofs.Common.{sym, ap, subst, ◌∙◌, inl, inr, true≢false}
use Rattle.std.proofs.Math.Path.{fun_ext}
use Rattle.std.proofs.lemmas.Bool.{eq-eqb, eqb-true}
use Rattle.std.proofs.lemmas.Option.{same_Some, none-some}
use Rattle.modules_profile.proofs.lemmas.Members.{in-first, in-rest}
use Rattle.c_semantics.specs.Cells.{Cell, Cells, no_cells, more_cells, set_cell, cell_at}
use Rattle.emit_shape.specs.Slots.{Slot}
use Rattle.right_relation.specs.NodeStatements.{HasSlot, HasSlots}
use Rattle.right_relation.specs.Standing.{cells_of}
use Rattle.right_system_ticks.proofs.Tests.{any-in, any-of, not-true, same-test}

-- whether a field is one of these
abbrev pub is_one_of : List ℕ → ℕ → Bool
is_one_of fields f = list_any (λ g. g == f) fields

pub one-of : (fields : List ℕ) (f : ℕ) → Contains fields f → is_one_of fields f ≡ true
one-of fields f h = any-in (λ g. g == f) fields f h (eq-eqb f f refl)

pub none-of : (fields : List ℕ) (f : ℕ) → (Contains fields f → ⊥) → is_one_of fields f ≡ false
none-of fields f none = not-true (is_one_of fields f) (λ h.
    let some = any-of (λ g. g == f) fields h in
    none (subst (Contains fields) (eqb-true some.0 f some.2) some.1))

-- ---- Numbers of fields after the first

equal-suc : (i g : ℕ) → (suc i == suc g) ≡ (i == g)
equal-suc i g = same-test (suc i == suc g) (i == g)
    (λ h. let e : suc i ≡ suc g = eqb-true (suc i) (suc g) h in eq-eqb i g (let d : i ≡ g = cc e in d))
    (λ h. eq-eqb (suc i) (suc g) (ap suc (eqb-true i g h)))

zero-suc : (i : ℕ) → (zero == suc i) ≡ false
zero-suc i = not-true (zero == suc i) (λ h. let e : zero ≡ suc i = eqb-true zero (suc i) h in let wrong : ⊥ = cc e in wrong)

suc-zero : (i : ℕ) → (suc i == zero) ≡ false
suc-zero i = not-true (suc i == zero) (λ h. let e : suc i ≡ zero = eqb-true (suc i) zero h in let wrong : ⊥ = cc e in wrong)

module _ (P Q : Slot → Cell) where
  abbrev pub mixed : (ℕ → Bool) → List Slot → Cells
  mixed changed [] = no_cells
  mixed changed (x ∷ xs) = more_cells (if changed 0 then Q x else P x) (mixed (λ i. changed (suc i)) xs)

  pub mixed-at : (changed : ℕ → Bool) (xs : List Slot) (f : ℕ) (x : Slot) → slice_get xs f ≡ Some x →
      cell_at (mixed changed xs) f ≡ (if changed f then Q x else P x)
  mixed-at changed [] f x at = absurd (none-some x at)
  mixed-at changed (y ∷ ys) zero x at = ap (λ (z : Slot). if changed 0 then Q z else P z) (same_Some y x at)
  mixed-at changed (y ∷ ys) (suc f) x at = mixed-at (λ i. changed (suc i)) ys f x at

  pub mixed-set : (changed : ℕ → Bool) (xs : List Slot) (f : ℕ) (x : Slot) → slice_get xs f ≡ Some x →
      set_cell (mixed changed xs) f (Q x) ≡ mixed (λ i. (f == i) || changed i) xs
  mixed-set changed [] f x at = absurd (none-some x at)
  mixed-set changed (y ∷ ys) zero x at =
      ap (λ (z : Slot). more_cells (Q z) (mixed (λ i. changed (suc i)) ys)) (sym (same_Some y x at))
      ∙ ap (λ b. more_cells (if b || changed 0 then Q y else P y) (mixed (λ i. changed (suc i)) ys)) (sym (eq-eqb zero zero refl))
      ∙ ap (λ (c : ℕ → Bool). more_cells (if (0 == 0) || changed 0 then Q y else P y) (mixed c ys))
      (fun_ext (λ i. ap (λ b. b || changed (suc i)) (sym (zero-suc i))))
  mixed-set changed (y ∷ ys) (suc f) x at =
      ap (more_cells (if changed 0 then Q y else P y)) (mixed-set (λ i. changed (suc i)) ys f x at)
      ∙ ap (λ b. more_cells (if b || changed 0 then Q y else P y) (mixed (λ i. (f == i) || changed (suc i)) ys)) (sym (suc-zero f))
      ∙ ap (λ (c : ℕ → Bool). more_cells (if (suc f == 0) || changed 0 then Q y else P y) (mixed c ys))
      (fun_ext (λ i. ap (λ b. b || changed (suc i)) (sym (equal-suc f i))))

  pub mixed-none : (xs : List Slot) → mixed (λ i. false) xs ≡ cells_of (map P xs)
  mixed-none [] = refl
  mixed-none (x ∷ xs) = ap (more_cells (P x)) (mixed-none xs)

  pub mixed-all : (changed : ℕ → Bool) (xs : List Slot) →
      ((f : ℕ) (x : Slot) → slice_get xs f ≡ Some x → (changed f ≡ true) ⊎ (P x ≡ Q x)) → mixed changed xs ≡ cells_of (map Q xs)
  mixed-all changed [] each = refl
  mixed-all changed (x ∷ xs) each =
      ap (λ c. more_cells c (mixed (λ i. changed (suc i)) xs)) (by (changed 0) (each 0 x refl))
      ∙ ap (more_cells (Q x)) (mixed-all (λ i. changed (suc i)) xs (λ f y at. each (suc f) y at))
    where
      by : (t : Bool) → (t ≡ true) ⊎ (P x ≡ Q x) → (if t then Q x else P x) ≡ Q x
      by true h = refl
      by false (inl wrong) = absurd (true≢false (sym wrong))
      by false (inr same) = same

  pub mixed-slots : (changed : ℕ → Bool) (xs : List Slot) → ((x : Slot) → Contains xs x → HasSlot x (P x) × HasSlot x (Q x)) →
      HasSlots xs (mixed changed xs)
  mixed-slots changed [] each = tt
  mixed-slots changed (x ∷ xs) each = (by (changed 0), mixed-slots (λ i. changed (suc i)) xs (λ y h. each y (in-rest x y xs h)))
    where
      by : (t : Bool) → HasSlot x (if t then Q x else P x)
      by true = (each x (in-first x xs)).1
      by false = (each x (in-first x xs)).0
