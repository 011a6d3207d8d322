-- Groups of nodes, the set of functions of each, and the schedule that is made of them.
use Rattle.std.specs.Prelude.{◌≡◌, ◌⊎◌, ℕ, zero, suc, ◌+◌, ◌-◌, ◌/◌, ◌%◌, ◌<◌, ◌≤◌, Bool, true, false, not, ◌&&◌, ◌==◌, List, [], ◌∷◌, map, filter, length, slice_index, count_ones, Contains, IsBitSet, Option, Some, None, unwrap_or, refl}
use Rattle.std.specs.List.{position_from, range_with_len}
use Rattle.std.specs.Option.{is_some}
use Rattle.std.proofs.Common.{sym, ap, subst, ◌∙◌, arith, inl, inr, get_or}
use Rattle.std.proofs.lemmas.Bool.{cases_lt, cases_eq, eqb-true, eq-eqb, ne_eqb, false≢true}
use Rattle.std.proofs.lemmas.List.{get_or-map, get_or_past}
use Rattle.std.proofs.lemmas.List.Sorted.{Contains-permutation, IsPermutation-sym}
use Rattle.std.proofs.lemmas.Option.{slice_get-get_or, get_or_from_slice_get}
use Rattle.std.proofs.lemmas.Nat.{ones_le_self, zero_from_ones}
use Rattle.std.proofs.lemmas.Nat.Bits.{bit_at-zero, bit_at_lowest, bit_at-suc}
use Rattle.base_core.specs.Interface.{different}
use Rattle.base_core.proofs.lemmas.Different.{has}
use Rattle.base_graph.proofs.lemmas.Bits.{one-from_set, set-from_one}
use Rattle.modules_clusters.specs.Classes.{place_of}
use Rattle.modules_clusters.specs.Grouping.{ComesBefore, AreGroups}
use Rattle.modules_clusters.specs.NodeGroups.{NodeGroups}
use Rattle.modules_clusters.proofs.lemmas.FirstPlaces.{is_some-position, found-at, has-head, has-tail}
use Rattle.base_core.specs.Ports.{has_bit}
use Rattle.modules_profile.proofs.lemmas.MaskBits.{in-different, set-has, has-set}
use Rattle.modules_profile.proofs.lemmas.Members.{in-none, in-cases, in-first, in-rest, in-at, at-in, at-below, in-filter, of-filter, in-range, of-range, at-map, at-range}
use Rattle.modules_schedule.specs.SystemSchedule.{SystemSchedule}
use Rattle.modules_schedule.specs.Scheduling.{is_unheld, nodes_of_group, groups_holding, schedule_for}
use Rattle.emit_system_spec.specs.Groups.{group_nodes}
use Rattle.right_system_ticks.specs.Holding.{called_groups, calls_group}
use Rattle.right_system_ticks.proofs.Tests.{both-true, true-both, any-in, any-of}

-- ---- The set of a node is at its group

has-in : (xs : List ℕ) (x : ℕ) → Contains xs x → has xs x ≡ true
has-in [] x h = absurd (in-none x h)
has-in (y ∷ ys) x h = elim (in-cases y x ys h) [
  | inl same ↦ subst (λ z. has (y ∷ ys) z ≡ true) same (has-head ys y)
  | inr more ↦ has-tail ys y x (has-in ys x more)
]

placed : (xs : List ℕ) (x : ℕ) → Contains xs x → (place_of xs x < length xs) × (get_or xs (place_of xs x) 0 ≡ x)
placed xs x h = by (position_from (λ y. y == x) 0 xs) refl
  where
    by : (o : Option ℕ) → position_from (λ y. y == x) 0 xs ≡ o → (unwrap_or o 0 < length xs) × (get_or xs (unwrap_or o 0) 0 ≡ x)
    by None e = absurd (false≢true (sym (ap is_some e) ∙ is_some-position (λ y. y == x) 0 xs ∙ has-in xs x h))
    by (Some k) e =
        let f = found-at (λ y. y == x) 0 xs k e in
        let here : k ≡ k - 0 = omega arith in
        (let below = f.1 in omega (arith, below), ap (λ i. get_or xs i 0) here ∙ eqb-true (get_or xs (k - 0) 0) x f.2)

pub in-index : (xs : List ℕ) (a : ℕ) → a < length xs → Contains xs (get_or xs a 0)
in-index xs a below = in-at xs a (get_or xs a 0) (slice_get-get_or xs a 0 below)

-- what is among the different members of a list is one of its members
pub of-different : (xs : List ℕ) (x : ℕ) → Contains (different xs) x → Contains xs x
of-different [] x h = h
of-different (y ∷ ys) x h = elim (in-cases y x (filter (λ z. not (z == y)) (different ys)) h) [
  | inl same ↦ subst (Contains (y ∷ ys)) same (in-first y ys)
  | inr more ↦ in-rest y x ys (of-different ys x (of-filter (λ z. not (z == y)) (different ys) x more).0)
]

-- ---- Bits

-- a number has a bit, or is nothing
pub some-bit : (d n : ℕ) → n ≤ d → 0 < n → (k : ℕ) × IsBitSet n k
some-bit zero n low some = absurd (omega (arith, low, some))
some-bit (suc d) n low some = by (cases_eq (n % 2) 1) (λ half. some-bit d (n / 2) (omega (arith, low)) half)
  where
    by : (n % 2 ≡ 1) ⊎ (n % 2 ≡ 1 → ⊥) → (0 < n / 2 → (k : ℕ) × IsBitSet (n / 2) k) → (k : ℕ) × IsBitSet n k
    by (inl odd) later = (0, set-from_one n 0 (bit_at_lowest n ∙ odd))
    by (inr even) later =
        let none : n % 2 ≡ 0 = odd-or-even (n % 2) (omega arith) even in
        let rest = later (omega (arith, some, none)) in
        (suc rest.0, set-from_one n (suc rest.0) (bit_at-suc n rest.0 ∙ one-from_set (n / 2) rest.0 rest.1))
      where
        odd-or-even : (r : ℕ) → r < 2 → (r ≡ 1 → ⊥) → r ≡ 0
        odd-or-even zero low apart = refl
        odd-or-even (suc zero) low apart = absurd (apart refl)
        odd-or-even (suc (suc r)) low apart = absurd (omega (arith, low))

pub nothing-set : (k : ℕ) → IsBitSet 0 k → ⊥
nothing-set k set = let one : 1 ≡ 0 = sym (one-from_set 0 k set) ∙ bit_at-zero k in omega (arith, one)

none-ones : count_ones 0 ≡ 0
none-ones = let low = ones_le_self 0 in omega (arith, low)

-- ---- Groups

module _ (sets : List ℕ) (groups : NodeGroups) (are : AreGroups sets groups) where
  -- the set of a node is at its group
  pub stands : (a : ℕ) → a < length sets →
      (slice_index groups.of a < length groups.holds) × (slice_index groups.holds (slice_index groups.of a) ≡ slice_index sets a)
  stands a below =
      let set = get_or sets a 0 in
      let group : get_or groups.of a 0 ≡ place_of groups.holds set =
      ap (λ (of : List ℕ). get_or of a 0) are.of ∙ get_or-map (place_of groups.holds) sets a 0 0 below in
      subst (λ k. (k < length groups.holds) × (get_or groups.holds k 0 ≡ set)) (sym group)
      (placed groups.holds set (Contains-permutation (different sets) groups.holds set are.sets
      (in-different sets set (in-index sets a below))))

  before-apart : (a b : ℕ) → ComesBefore sets a b → a ≡ b → ⊥
  before-apart a b (inl more) same = let e = ap count_ones same in omega (arith, more, e)
  before-apart a b (inr both) same = let less = both.1 in let e = ap (place_of sets) same in omega (arith, less, e)

  -- groups with one set are one
  pub one-group : (i k : ℕ) → i < length groups.holds → k < length groups.holds → slice_index groups.holds i ≡ slice_index groups.holds k →
      i ≡ k
  one-group i k below_i below_k same = by (cases_lt i k) (cases_lt k i)
    where
      by : (i < k) ⊎ (k ≤ i) → (k < i) ⊎ (i ≤ k) → i ≡ k
      by (inl low) high = absurd (before-apart (slice_index groups.holds i) (slice_index groups.holds k) (are.in_order i k low below_k)
          same)
      by (inr least) (inl low) =
          absurd (before-apart (slice_index groups.holds k) (slice_index groups.holds i) (are.in_order k i low below_i) (sym same))
      by (inr least) (inr most) = omega (arith, least, most)

  -- each group has a node
  pub has-node : (g : ℕ) → g < length groups.holds → (a : ℕ) × (a < length sets) × (slice_index groups.of a ≡ g)
  has-node g below =
      let set = slice_index groups.holds g in
      let member : Contains sets set = of-different sets set
      (Contains-permutation groups.holds (different sets) set (IsPermutation-sym (different sets) groups.holds are.sets)
      (in-index groups.holds g below)) in
      let a = at-in sets set member in
      let low : a.0 < length sets = at-below sets a.0 set a.1 in
      let its = stands a.0 low in
      (a.0, low, one-group (slice_index groups.of a.0) g its.0 below (its.1 ∙ get_or_from_slice_get sets a.0 set 0 a.1))

  -- the group that no function holds is the last
  pub unheld-last : (i g : ℕ) → i < g → g < length groups.holds → is_unheld groups i ≡ true → ⊥
  unheld-last i g low below none = by (are.in_order i g low below)
    where
      nothing : slice_index groups.holds i ≡ 0
      nothing = eqb-true (slice_index groups.holds i) 0 none

      no_ones : count_ones (slice_index groups.holds i) ≡ 0
      no_ones = ap count_ones nothing ∙ none-ones

      by : ComesBefore sets (slice_index groups.holds i) (slice_index groups.holds g) → ⊥
      by (inl more) = omega (arith, more, no_ones)
      by (inr (same, later)) =
          let other : slice_index groups.holds g ≡ 0 = zero_from_ones (slice_index groups.holds g) (sym same ∙ no_ones) in
          let one : i ≡ g = one-group i g (omega (arith, low, below)) below (nothing ∙ sym other) in
          omega (arith, one, low)

-- a group with a bit is held
pub bit-held : (groups : NodeGroups) (g k : ℕ) → IsBitSet (slice_index groups.holds g) k → is_unheld groups g ≡ false
bit-held groups g k set = ne_eqb (slice_index groups.holds g) 0 (λ none. nothing-set k (subst (λ n. IsBitSet n k) none set))

-- ---- The schedule

module _ (order : List ℕ) (groups : NodeGroups) (count : ℕ) where
  abbrev schedule : SystemSchedule
  schedule = schedule_for order groups count

  abbrev in_group : ℕ → ℕ → Bool
  in_group g k = (slice_index groups.of k == g) && not (is_unheld groups g)

  pub nodes-are : (g : ℕ) → g < length groups.holds → group_nodes schedule g ≡ nodes_of_group order groups g
  nodes-are g below =
      get_or_from_slice_get (map (nodes_of_group order groups) (range_with_len 0 (length groups.holds))) g (nodes_of_group order groups g)
      []
      (at-map (nodes_of_group order groups) (range_with_len 0 (length groups.holds)) g g
      (at-range 0 (length groups.holds) g below ∙ ap Some (let e : 0 + g ≡ g = omega arith in e)))

  -- the nodes of a group
  pub of-group : (g k : ℕ) → Contains (group_nodes schedule g) k →
      (g < length groups.holds) × Contains order k × (slice_index groups.of k ≡ g) × (is_unheld groups g ≡ false)
  of-group g k h = by (cases_lt g (length groups.holds))
    where
      not-not : (b : Bool) → not b ≡ true → b ≡ false
      not-not true e = sym e
      not-not false e = refl

      by : (g < length groups.holds) ⊎ (length groups.holds ≤ g) →
          (g < length groups.holds) × Contains order k × (slice_index groups.of k ≡ g) × (is_unheld groups g ≡ false)
      by (inl below) =
          let m = of-filter (in_group g) order k (subst (λ ks. Contains ks k) (nodes-are g below) h) in
          let parts = both-true (slice_index groups.of k == g) (not (is_unheld groups g)) m.1 in
          (below, m.0, eqb-true (slice_index groups.of k) g parts.0, not-not (is_unheld groups g) parts.1)
      by (inr past) =
          let long = length-made in
          absurd (in-none k (subst (λ ks. Contains ks k)
          (get_or_past (map (nodes_of_group order groups) (range_with_len 0 (length groups.holds))) g [] (omega (arith, past, long))) h))
        where
          length-made : length (map (nodes_of_group order groups) (range_with_len 0 (length groups.holds))) ≡ length groups.holds
          length-made = made (nodes_of_group order groups) 0 (length groups.holds)
            where
              made : (f : ℕ → List ℕ) (a n : ℕ) → length (map f (range_with_len a n)) ≡ n
              made f a zero = refl
              made f a (suc n) = ap suc (made f (a + 1) n)

  pub in-group : (g k : ℕ) → g < length groups.holds → Contains order k → slice_index groups.of k ≡ g → is_unheld groups g ≡ false →
      Contains (group_nodes schedule g) k
  in-group g k below among is held =
      subst (λ ks. Contains ks k) (sym (nodes-are g below))
      (in-filter (in_group g) order k among
      (true-both (slice_index groups.of k == g) (not (is_unheld groups g)) (eq-eqb (slice_index groups.of k) g is) (ap not held)))

  -- the groups of a function
  pub called-are : (j : ℕ) → 0 < j → j ≤ count → called_groups schedule j ≡ groups_holding groups.holds (j - 1)
  called-are j some most =
      get_or_from_slice_get (map (groups_holding groups.holds) (range_with_len 0 count)) (j - 1) (groups_holding groups.holds (j - 1)) []
      (at-map (groups_holding groups.holds) (range_with_len 0 count) (j - 1) (j - 1)
      (at-range 0 count (j - 1) (omega (arith, some, most)) ∙ ap Some (let e : 0 + (j - 1) ≡ j - 1 = omega arith in e)))

  pub of-called : (j g : ℕ) → 0 < j → j ≤ count → Contains (called_groups schedule j) g →
      (g < length groups.holds) × IsBitSet (slice_index groups.holds g) (j - 1)
  of-called j g some most h =
      let m = of-filter (λ g. has_bit (slice_index groups.holds g) (j - 1)) (range_with_len 0 (length groups.holds)) g
      (subst (λ gs. Contains gs g) (called-are j some most) h) in
      let range = of-range 0 (length groups.holds) g m.0 in
      (let low = range.1 in omega (arith, low), has-set (slice_index groups.holds g) (j - 1) m.1)

  pub in-called : (j g : ℕ) → 0 < j → j ≤ count → g < length groups.holds → IsBitSet (slice_index groups.holds g) (j - 1) →
      Contains (called_groups schedule j) g
  in-called j g some most below set =
      subst (λ gs. Contains gs g) (sym (called-are j some most))
      (in-filter (λ g. has_bit (slice_index groups.holds g) (j - 1)) (range_with_len 0 (length groups.holds)) g
      (in-range 0 (length groups.holds) g (omega arith) (omega (arith, below))) (set-has (slice_index groups.holds g) (j - 1) set))

-- a function calls the groups that are among its groups
pub calls-of : (schedule : SystemSchedule) (j g : ℕ) → calls_group schedule j g ≡ true → Contains (called_groups schedule j) g
calls-of schedule j g h =
    let i = any-of (λ i. i == g) (called_groups schedule j) h in
    subst (Contains (called_groups schedule j)) (eqb-true i.0 g i.2) i.1

pub calls-in : (schedule : SystemSchedule) (j g : ℕ) → Contains (called_groups schedule j) g → calls_group schedule j g ≡ true
calls-in schedule j g h = any-in (λ i. i == g) (called_groups schedule j) g h (eq-eqb g g refl)
