-- A search that starts.
use Rattle.std.proofs.Common.{◌≡◌, refl, sym, ◌∙◌, ap, ℕ, zero, suc, ◌<◌, ◌≤◌, ℤ, Bool, true, false, List, [], ◌∷◌, length, arith, Some, None, ◌⊎◌, inl, inr, slice_get}
use Rattle.std.specs.Prelude.{nat_lt}
use Rattle.std.proofs.lemmas.Bool.Decides.{nat_tests}
use Rattle.std.proofs.lemmas.Option.{slice_get_past, slice_get_within}
use Rattle.std.proofs.Math.ListN.{get_or-eq_default}
use Rattle.lustre_syntax.specs.Plain.{file_tree}
use Rattle.lustre_flows.specs.Values.{value_of, value_at, read}
use Rattle.lustre_slots.specs.declared.placed.Source.TheVariants.{Row}
use Rattle.lustre_slot_laws.specs.Outcomes.{outcome, source_at}
use Rattle.lustre_evaluation.specs.declared.frames.Frame.{Frame}
use Rattle.lustre_evaluation.specs.Views.{before_by}
use Rattle.lustre_solver.specs.Searching.{Searching, untried, IsSearch, HasRoom, IsStarted}
use Rattle.lustre_solver.proofs.Staying.{untried-there}

untried-few : (tried : List Bool) → untried tried ≤ length tried
untried-few [] = omega arith
untried-few (true ∷ ts) = omega (arith, untried-few ts)
untried-few (false ∷ ts) = omega (arith, untried-few ts)

none-past : (row : List ℤ) (k : ℕ) → nat_lt k (length row) ≡ false → slice_get row k ≡ None
none-past row k is = slice_get_past row k (past k (length row) is)
  where
    past : (x y : ℕ) → nat_lt x y ≡ false → y ≤ x
    past x y is = grind (arith, nat_tests)

some-within : (row : List ℤ) (k : ℕ) (v : ℤ) → slice_get row k ≡ Some v → k < length row
some-within row k v is = slice_get_within row k v is

there-below : (row : List ℤ) (k : ℕ) → k < length row → (v : ℤ) × (slice_get row k ≡ Some v)
there-below [] k small = absurd (omega arith)
there-below (x ∷ xs) zero small = (x, refl)
there-below (x ∷ xs) (suc k) small = there-below xs k (omega arith)

less-or-not : (x y : ℕ) → (x < y) ⊎ (y ≤ x)
less-or-not x y = grind arith

test-below : (x y : ℕ) → nat_lt x y ≡ true → x < y
test-below x y is = grind (arith, nat_tests)

-- where the row gives what rows are the sources of
pub start-search : (frame : Frame) (row : List ℤ) (s : Searching) (n : ℕ) → HasRoom n s → IsStarted row s → length frame.sources.now ≡ n →
    ((slot : ℕ) → slot < length row → source_at frame.sources.now slot ≡ Row) → IsSearch frame s
start-search frame row s n room started size rows = record {
  sources = size ∙ sym room.now;
  size_tried = room.tried ∙ sym room.now;
  size_waiting = room.waiting ∙ sym room.now;
  room = omega (arith, untried-few s.tried, started.idle, room.now, room.tried);
  kept = λ slot v is.
      let inside : slot < length s.now = inside-is slot v is in
      let given : slice_get row slot ≡ Some v = sym (started.given slot inside) ∙ is in
      ap (λ source. value_of (outcome (file_tree frame.file.now) (before_by frame.begun frame.before.now) s.now slot source))
      (rows slot (some-within row slot v given)) ∙ ap (λ o. value_of (read o)) is;
  fresh = λ slot new.
      let there = untried-there s.tried slot new in
      let inside : slot < length s.now = omega (arith, room.now, room.tried) in
      started.given slot inside ∙ none-past row slot (sym (started.tried slot inside) ∙ new);
  waiting_there = λ i small. absurd (omega (arith, started.idle));
  waiting_tried = λ i small. absurd (omega (arith, started.idle));
  waiting_none = λ i small. absurd (omega (arith, started.idle));
  apart = λ i j less small. absurd (omega (arith, started.idle));
  chain = λ i small. absurd (omega (arith, started.idle));
  held = λ slot inside tried none.
      let there = there-below row slot (test-below slot (length row) (sym (started.tried slot inside) ∙ tried)) in
      let some : value_at s.now slot ≡ Some there.0 = started.given slot inside ∙ there.1 in
      absurd (cc);
}
  where
    inside-is : (slot : ℕ) (v : ℤ) → value_at s.now slot ≡ Some v → slot < length s.now
    inside-is slot v is =
        elim (less-or-not slot (length s.now)) as (λ c. slot < length s.now) [
          | inl less ↦ less
          | inr past ↦ let none : value_at s.now slot ≡ None = get_or-eq_default s.now None past in absurd (cc)
        ]
