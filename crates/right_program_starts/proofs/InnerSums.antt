-- Sums over the subsystems inside systems: those of its children are parts of that of a system.
use Rattle.std.specs.Prelude.{◌≡◌, ℕ, ◌+◌, ◌<◌, ◌≤◌, Bool, true, false, cond, ◌&&◌, ◌||◌, ◌==◌, List, filter, length, Contains, Option, Some, None, refl}
use Rattle.std.proofs.Common.{sym, ap, subst, arith, inl, inr, true≢false}
use Rattle.std.proofs.lemmas.Bool.{eq-eqb}
use Rattle.diagram_meaning.specs.declared.table.Row.{Row}
use Rattle.diagram_meaning.specs.Rows.{row_at, row_numbers, is_inside, same_system, rows_of, subsystems_of}
use Rattle.diagram_blocks.specs.Kinds.{is_subsystem}
use Rattle.diagram_meaning.specs.WellFormed.{IsNested}
use Rattle.diagram_meaning.proofs.lemmas.RestsOnNeeds.{same_system-equal}
use Rattle.diagram_meaning.proofs.lemmas.Tests.{and-left, and-right, or-cases, eq-from}
use Rattle.modules_profile.specs.Systems.{systems_inside}
use Rattle.modules_profile.proofs.lemmas.Members.{in-range}
use Rattle.modules_profile.proofs.lemmas.PortRows.{of-subsystems}
use Rattle.right_program_starts.proofs.Sums.{total, total-le, total-add, total-kept, kept-less, counted, one-number, by-owner}
use Rattle.right_program_starts.proofs.NestedRows.{or-second, and-both, not-true, of-inside, inside-below, child-inside, inside-inner, IsUnder, one-child}

-- what is counted here, or inside, is counted outside
fits : (here inner outer owns : Bool) (n : ℕ) → (here ≡ true → inner ≡ false) → (here ≡ true → (outer ≡ true) × (owns ≡ true)) →
    (inner ≡ true → (outer ≡ true) × (owns ≡ true)) → cond here n 0 + cond inner n 0 ≤ cond outer (cond owns n 0) 0
fits false false outer owns n one first second = omega arith
fits true true outer owns n one first second = absurd (true≢false (one refl))
fits true false outer owns n one first second =
    let both = first refl in
    subst (λ t. n + 0 ≤ cond t (cond owns n 0) 0) (sym both.0) (subst (λ t. n + 0 ≤ cond t n 0) (sym both.1) (omega arith))
fits false true outer owns n one first second =
    let both = second refl in
    subst (λ t. 0 + n ≤ cond t (cond owns n 0) 0) (sym both.0) (subst (λ t. 0 + n ≤ cond t n 0) (sym both.1) (omega arith))

fewer : (mine sub owns : Bool) → cond mine (cond sub (cond owns 1 0) 0) 0 ≤ cond (mine && owns) 1 0
fewer true true true = omega arith
fewer true true false = omega arith
fewer true false owns = omega arith
fewer false sub owns = omega arith

module _ (rows : List Row) (nested : IsNested rows) (weigh : ℕ → ℕ) where
  -- that of a subsystem, and of all inside it
  abbrev pub whole : ℕ → ℕ
  whole e = weigh e + total weigh (systems_inside rows (Some e))

  abbrev owns : ℕ → ℕ → Bool
  owns x e = (e == x) || is_inside rows (Some e) x

  under : (x e : ℕ) → owns x e ≡ true → IsUnder rows nested e x
  under x e h = elim (or-cases (e == x) (is_inside rows (Some e) x) h) [ inl here ↦ inl (eq-from e x here) | inr there ↦ inr there ]

  -- what is in a subsystem inside a system is a part of what is in the system
  part : (s : Option ℕ) (e : ℕ) → e < length rows → is_subsystem (row_at rows e).kind ≡ true → is_inside rows s e ≡ true →
      whole e ≤ total weigh (filter (λ x. owns x e) (systems_inside rows s))
  part s e below sub inside =
      let inner = total-kept weigh (λ x. is_subsystem (row_at rows x).kind && is_inside rows (Some e) x) (row_numbers rows) in
      let outer = total-kept weigh (λ x. owns x e) (systems_inside rows s) in
      let outer_rows = total-kept (λ x. cond (owns x e) (weigh x) 0) (λ x. is_subsystem (row_at rows x).kind && is_inside rows s x)
      (row_numbers rows) in
      let itself = counted (λ x. cond (e == x) (weigh x) 0) (row_numbers rows) e (in-range 0 (length rows) e (omega arith) (omega arith)) in
      let value : cond (e == e) (weigh e) 0 ≡ weigh e = ap (λ t. cond t (weigh e) 0) (eq-eqb e e refl) in
      let split = total-add (λ x. cond (e == x) (weigh x) 0)
      (λ x. cond (is_subsystem (row_at rows x).kind && is_inside rows (Some e) x) (weigh x) 0) (row_numbers rows) in
      let each = total-le (λ x. cond (e == x) (weigh x) 0 + cond (is_subsystem (row_at rows x).kind && is_inside rows (Some e) x)
      (weigh x) 0)
      (λ x. cond (is_subsystem (row_at rows x).kind && is_inside rows s x) (cond (owns x e) (weigh x) 0) 0) (row_numbers rows)
      (λ x at. one x) in
      omega (arith, inner, outer, outer_rows, itself, value, split, each)
    where
      one : (x : ℕ) → cond (e == x) (weigh x) 0 + cond (is_subsystem (row_at rows x).kind && is_inside rows (Some e) x) (weigh x) 0
          ≤ cond (is_subsystem (row_at rows x).kind && is_inside rows s x) (cond (owns x e) (weigh x) 0) 0
      one x =
          fits (e == x) (is_subsystem (row_at rows x).kind && is_inside rows (Some e) x)
          (is_subsystem (row_at rows x).kind && is_inside rows s x) (owns x e) (weigh x)
          (λ here. not-true (is_subsystem (row_at rows x).kind && is_inside rows (Some e) x)
          (λ h. let low = inside-below rows nested e x (and-right (is_subsystem (row_at rows x).kind) (is_inside rows (Some e) x) h) in
          let same = eq-from e x here in omega (arith, low, same)))
          (λ here. (
            subst (λ y. (is_subsystem (row_at rows y).kind && is_inside rows s y) ≡ true) (eq-from e x here)
                (and-both (is_subsystem (row_at rows e).kind) (is_inside rows s e) sub inside),
            ap (λ t. t || is_inside rows (Some e) x) here,
          ))
          (λ inner. (
            and-both (is_subsystem (row_at rows x).kind) (is_inside rows s x)
                (and-left (is_subsystem (row_at rows x).kind) (is_inside rows (Some e) x) inner)
                (inside-inner rows nested s e x inside (and-right (is_subsystem (row_at rows x).kind) (is_inside rows (Some e) x) inner)),
            or-second (e == x) (is_inside rows (Some e) x)
                (and-right (is_subsystem (row_at rows x).kind) (is_inside rows (Some e) x) inner),
          ))

  -- a subsystem inside is in one child at most
  few : (s : Option ℕ) (x : ℕ) → x < length rows → total (λ e. cond (owns x e) 1 0) (subsystems_of rows s) ≤ 1
  few s x below =
      let subs = total-kept (λ e. cond (owns x e) 1 0) (λ b. is_subsystem (row_at rows b).kind) (rows_of rows s) in
      let own = total-kept (λ e. cond (is_subsystem (row_at rows e).kind) (cond (owns x e) 1 0) 0)
      (λ b. same_system (row_at rows b).owner s) (row_numbers rows) in
      let each = total-le (λ e. cond (same_system (row_at rows e).owner s)
      (cond (is_subsystem (row_at rows e).kind) (cond (owns x e) 1 0) 0) 0)
      (λ e. cond (same_system (row_at rows e).owner s && owns x e) 1 0) (row_numbers rows)
      (λ e at. fewer (same_system (row_at rows e).owner s) (is_subsystem (row_at rows e).kind) (owns x e)) in
      let one = one-number (λ e. same_system (row_at rows e).owner s && owns x e) (length rows) (λ e f first second here there.
      one-child rows nested s e f x below first second
      (same_system-equal (row_at rows e).owner s (and-left (same_system (row_at rows e).owner s) (owns x e) here))
      (same_system-equal (row_at rows f).owner s (and-left (same_system (row_at rows f).owner s) (owns x f) there))
      (under x e (and-right (same_system (row_at rows e).owner s) (owns x e) here))
      (under x f (and-right (same_system (row_at rows f).owner s) (owns x f) there))) in
      omega (arith, subs, own, each, one)

  pub children-within : (s : Option ℕ) → total whole (subsystems_of rows s) ≤ total weigh (systems_inside rows s)
  children-within s =
      let each = total-le whole (λ e. total weigh (filter (λ x. owns x e) (systems_inside rows s))) (subsystems_of rows s) (λ e at.
      let is = of-subsystems rows s e at in part s e is.0 is.2 (child-inside rows nested s e is.0 is.1)) in
      let sums = by-owner owns weigh (subsystems_of rows s) (systems_inside rows s) (λ x at. few s x (of-inside rows s x at).0) in
      omega (arith, each, sums)

  -- what is in a subsystem is a part of what is in the root
  pub part-of-all : (e : ℕ) → Contains (systems_inside rows None) e → whole e ≤ total weigh (systems_inside rows None)
  part-of-all e at =
      let is = of-inside rows None e at in
      let one = part None e is.0 is.1 is.2 in
      let less = kept-less weigh (λ x. owns x e) (systems_inside rows None) in
      omega (arith, one, less)
