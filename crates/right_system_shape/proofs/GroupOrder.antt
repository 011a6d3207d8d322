-- The groups with nodes are those that functions hold, and come first, each at its number.
use Rattle.std.specs.Prelude.{◌≡◌, refl, ℕ, zero, suc, ◌+◌, ◌^◌, ◌<◌, ◌≤◌, Bool, true, false, not, ◌&&◌, ◌==◌, cond, List, [], ◌∷◌, map, filter, length, slice_get, slice_index, slice_index_or, bit_and, count_ones, IsBitSet, unwrap_or, Contains, Some, ◌⊎◌}
use Rattle.std.specs.List.{position_from, range_with_len}
use Rattle.std.proofs.Common.{sym, ap, subst, ◌∙◌, arith, inl, inr, true≢false}
use Rattle.std.proofs.lemmas.Bool.{eq-eqb, eqb-true, and_from, cases_lt}
use Rattle.std.proofs.lemmas.List.FromFn.{length-map-range_with_len}
use Rattle.std.proofs.lemmas.List.Sorted.{Contains-permutation, IsPermutation-sym}
use Rattle.std.proofs.lemmas.Nat.{zero_from_ones, ones_le_self}
use Rattle.base_core.specs.Interface.{different}
use Rattle.modules_clusters.specs.Classes.{place_of}
use Rattle.modules_clusters.specs.Grouping.{AreGroups, ComesBefore}
use Rattle.modules_clusters.specs.NodeGroups.{NodeGroups}
use Rattle.modules_profile.specs.LocalSystem.{LocalSystem}
use Rattle.modules_profile.specs.SystemProfile.{SystemProfile}
use Rattle.modules_profile.proofs.lemmas.Members.{in-none, in-first, in-rest, map-at, range-at, in-cases, in-at, at-in, at-map, at-below, at-range, in-filter, of-filter, of-range}
use Rattle.modules_profile.proofs.lemmas.MaskBits.{in-different, has-set}
use Rattle.modules_profile.proofs.lemmas.InputMasks.{no-bit as empty-bit}
use Rattle.modules_schedule.specs.SystemSchedule.{SystemSchedule}
use Rattle.modules_schedule.specs.Scheduling.{is_unheld, nodes_of_group, groups_holding}
use Rattle.emit_system_spec.specs.Groups.{group_nodes, has_some, code_groups}
use Rattle.emit_system_spec.specs.Schedules.{IsScheduleOf}
use Rattle.right_system_shape.proofs.Callees.{get-index}

-- ---- Lists

-- where a test passes up to a place, the place stays
kept-at : (t : ℕ → Bool) (a n k : ℕ) → k < n → ((i : ℕ) → i ≤ k → t (a + i) ≡ true) → slice_get (filter t (range_with_len a n)) k
    ≡ Some (a + k)
kept-at t a zero k below passes = absurd (omega arith)
kept-at t a (suc n) k below passes =
    let first : t a ≡ true = ap t (let stay : a ≡ a + 0 = omega arith in stay) ∙ passes 0 (omega arith) in
    ap (λ r. slice_get (cond r (a ∷ filter t (range_with_len (a + 1) n)) (filter t (range_with_len (a + 1) n))) k) first
    ∙ by k below passes (λ k below passes. kept-at t (a + 1) n k below passes)
  where
    by : (k : ℕ) → k < suc n → ((i : ℕ) → i ≤ k → t (a + i) ≡ true) →
        ((k : ℕ) → k < n → ((i : ℕ) → i ≤ k → t (a + 1 + i) ≡ true) → slice_get (filter t (range_with_len (a + 1) n)) k
        ≡ Some (a + 1 + k)) →
        slice_get (a ∷ filter t (range_with_len (a + 1) n)) k ≡ Some (a + k)
    by zero below passes later = ap Some (let stay : a ≡ a + 0 = omega arith in stay)
    by (suc k) below passes later =
        later k (omega arith) (λ i h. ap t (let next : a + 1 + i ≡ a + suc i = omega arith in next) ∙ passes (suc i) (omega arith))
        ∙ ap Some (let next : a + 1 + k ≡ a + suc k = omega arith in next)

some-in : (xs : List ℕ) (x : ℕ) → Contains xs x → has_some xs ≡ true
some-in [] x h = absurd (in-none x h)
some-in (y ∷ ys) x h = refl

index-get : (xs : List ℕ) (k x : ℕ) → slice_get xs k ≡ Some x → slice_index xs k ≡ x
index-get xs k x e = get-index xs k 0 x e

get-below : (xs : List ℕ) (k : ℕ) → k < length xs → slice_get xs k ≡ Some (slice_index xs k)
get-below [] k h = absurd (omega arith)
get-below (x ∷ xs) zero h = refl
get-below (x ∷ xs) (suc k) h = get-below xs k (omega arith)

of-different : (xs : List ℕ) (x : ℕ) → Contains (different xs) x → Contains xs x
of-different [] x h = h
of-different (y ∷ ys) x h = elim (in-cases y x (filter (λ z. not (z == y)) (different ys)) h) [
  | inl same ↦ subst (Contains (y ∷ ys)) same (in-first y ys)
  | inr more ↦ in-rest y x ys (of-different ys x (of-filter (λ z. not (z == y)) (different ys) x more).0)
]

-- a member's first place has it
pub place-has : (xs : List ℕ) (x i : ℕ) → Contains xs x → (j : ℕ) × (position_from (λ y. y == x) i xs ≡ Some (i + j)) ×
    (slice_get xs j ≡ Some x)
place-has [] x i h = absurd (in-none x h)
place-has (y ∷ ys) x i h = by (y == x) refl (in-cases y x ys h) (λ more. place-has ys x (i + 1) more)
  where
    by : (t : Bool) → (y == x) ≡ t → (y ≡ x) ⊎ Contains ys x →
        (Contains ys x → (j : ℕ) × (position_from (λ y. y == x) (i + 1) ys ≡ Some (i + 1 + j)) × (slice_get ys j ≡ Some x)) →
        (j : ℕ) × (cond t (Some i) (position_from (λ y. y == x) (i + 1) ys) ≡ Some (i + j)) × (slice_get (y ∷ ys) j ≡ Some x)
    by true e h later = (0, ap Some (let stay : i ≡ i + 0 = omega arith in stay), ap Some (eqb-true y x e))
    by false e (inl same) later = absurd (true≢false (sym (eq-eqb y x same) ∙ e))
    by false e (inr more) later = let m = later more in
        (suc m.0, m.1 ∙ ap Some (let next : i + 1 + m.0 ≡ i + suc m.0 = omega arith in next), m.2)

pub place-of-has : (xs : List ℕ) (x : ℕ) → Contains xs x → slice_get xs (place_of xs x) ≡ Some x
place-of-has xs x h =
    let m = place-has xs x 0 h in
    ap (λ o. slice_get xs (unwrap_or o 0)) m.1 ∙ ap (slice_get xs) (let same : 0 + m.0 ≡ m.0 = omega arith in same) ∙ m.2

-- ---- Groups

module _ (clusters : List ℕ) (groups : NodeGroups) (are : AreGroups clusters groups) where
  no-before-itself : (x : ℕ) → ComesBefore clusters x x → ⊥
  no-before-itself x (inl less) = omega arith
  no-before-itself x (inr both) = let less = both.1 in omega arith

  in-holds : (x : ℕ) → Contains clusters x → Contains groups.holds x
  in-holds x h = Contains-permutation (different clusters) groups.holds x are.sets (in-different clusters x h)

  of-holds : (x : ℕ) → Contains groups.holds x → Contains clusters x
  of-holds x h = of-different clusters x (Contains-permutation groups.holds (different clusters) x
      (IsPermutation-sym (different clusters) groups.holds are.sets) h)

  -- no two groups are held alike
  one-group : (i j : ℕ) → i < length groups.holds → j < length groups.holds → slice_index groups.holds i ≡ slice_index groups.holds j →
      i ≡ j
  one-group i j low high same = elim (cases_lt i j) [
    | inl before ↦ absurd (no-before-itself (slice_index groups.holds j)
        (subst (λ x. ComesBefore clusters x (slice_index groups.holds j)) same (are.in_order i j before high)))
    | inr behind ↦ elim (cases_lt j i) [
      | inl before ↦ absurd (no-before-itself (slice_index groups.holds i)
          (subst (λ x. ComesBefore clusters x (slice_index groups.holds i)) (sym same) (are.in_order j i before low)))
      | inr other ↦ omega arith
    ]
  ]

  -- each node's group is one of its set
  pub group-of : (a : ℕ) → a < length clusters → (slice_index groups.of a < length groups.holds) ×
      (slice_index groups.holds (slice_index groups.of a) ≡ slice_index clusters a)
  group-of a below =
      let cluster = get-below clusters a below in
      let held = in-holds (slice_index clusters a) (in-at clusters a (slice_index clusters a) cluster) in
      let place : slice_index groups.of a ≡ place_of groups.holds (slice_index clusters a) =
      ap (λ of. slice_index of a) are.of ∙ index-get (map (place_of groups.holds) clusters) a
      (place_of groups.holds (slice_index clusters a)) (at-map (place_of groups.holds) clusters a (slice_index clusters a) cluster) in
      let at = place-of-has groups.holds (slice_index clusters a) held in (
        subst (λ k. k < length groups.holds) (sym place) (at-below groups.holds (place_of groups.holds (slice_index clusters a))
            (slice_index clusters a) at),
        ap (slice_index groups.holds) place ∙ index-get groups.holds (place_of groups.holds (slice_index clusters a))
            (slice_index clusters a) at,
      )

  -- each group is that of a node
  pub node-in : (g : ℕ) → g < length groups.holds → (a : ℕ) × (a < length clusters) × (slice_index groups.of a ≡ g)
  node-in g below =
      let set = get-below groups.holds g below in
      let m = at-in clusters (slice_index groups.holds g)
      (of-holds (slice_index groups.holds g) (in-at groups.holds g (slice_index groups.holds g) set)) in
      let inside = at-below clusters m.0 (slice_index groups.holds g) m.1 in
      let of = group-of m.0 inside in
      (m.0, inside, one-group (slice_index groups.of m.0) g of.0 below (of.1 ∙ index-get clusters m.0 (slice_index groups.holds g) m.1))

  -- before a held group all are held
  pub held-before : (i g : ℕ) → i ≤ g → g < length groups.holds → is_unheld groups g ≡ false → is_unheld groups i ≡ false
  held-before i g low high held = by (is_unheld groups i) refl
    where
      none-before : slice_index groups.holds i ≡ 0 → ComesBefore clusters (slice_index groups.holds i) (slice_index groups.holds g) → ⊥
      none-before none (inl less) = let few = ones_le_self (slice_index groups.holds i) in omega (arith, none, few, less)
      none-before none (inr both) =
          let few = ones_le_self (slice_index groups.holds i) in
          let alike = both.0 in
          let zero_ones : count_ones (slice_index groups.holds g) ≡ 0 = omega (arith, none, few, alike) in
          true≢false (sym (eq-eqb (slice_index groups.holds g) 0 (zero_from_ones (slice_index groups.holds g) zero_ones)) ∙ held)

      by : (t : Bool) → is_unheld groups i ≡ t → t ≡ false
      by false e = refl
      by true e =
          let none : slice_index groups.holds i ≡ 0 = eqb-true (slice_index groups.holds i) 0 e in
          elim (cases_lt i g) [
            | inl before ↦ absurd (none-before none (are.in_order i g before high))
            | inr other ↦ let same : i ≡ g = omega arith in absurd (true≢false (sym e ∙ ap (is_unheld groups) same ∙ held))
          ]

-- ---- Groups of a schedule

module _ (local : LocalSystem) (profile : SystemProfile) (schedule : SystemSchedule) (is : IsScheduleOf local profile schedule) where
  abbrev order : List ℕ
  order = is.order

  abbrev groups : NodeGroups
  groups = is.groups

  pub many-groups : length schedule.groups ≡ length groups.holds
  many-groups = ap (λ (s : SystemSchedule). length s.groups) is.is_schedule ∙ length-map-range_with_len (nodes_of_group order groups) 0
      (length groups.holds)

  pub nodes-are : (g : ℕ) → g < length groups.holds → group_nodes schedule g ≡ nodes_of_group order groups g
  nodes-are g below =
      ap (λ (s : SystemSchedule). slice_index_or s.groups g []) is.is_schedule
      ∙ get-index (map (nodes_of_group order groups) (range_with_len 0 (length groups.holds))) g [] (nodes_of_group order groups g)
      (at-map (nodes_of_group order groups) (range_with_len 0 (length groups.holds)) g g
      (at-range 0 (length groups.holds) g below ∙ ap Some (let none : 0 + g ≡ g = omega arith in none)))

  -- a held group has a node
  held-has : (g : ℕ) → g < length groups.holds → is_unheld groups g ≡ false → has_some (group_nodes schedule g) ≡ true
  held-has g below held =
      let a = node-in is.clusters groups is.are_groups g below in
      let count = is.are_clusters.one_each in
      let inside = a.1 in
      let ordered = is.is_order.has_all a.0 (omega (arith, count, inside)) in
      let passes : ((slice_index groups.of a.0 == g) && not (is_unheld groups g)) ≡ true =
      and_from _ _ (eq-eqb (slice_index groups.of a.0) g a.2) (ap not held) in
      ap has_some (nodes-are g below) ∙ some-in (nodes_of_group order groups g) a.0
      (in-filter (λ k. (slice_index groups.of k == g) && not (is_unheld groups g)) order a.0 ordered passes)

  -- it is at its number
  pub held-at : (g : ℕ) → g < length groups.holds → is_unheld groups g ≡ false → slice_get (code_groups schedule) g ≡ Some g
  held-at g below held =
      let none : 0 + g ≡ g = omega arith in
      kept-at (λ g. has_some (group_nodes schedule g)) 0 (length schedule.groups) g (let many = many-groups in omega (arith, many))
      (λ i low. subst (λ k. has_some (group_nodes schedule k) ≡ true) (let same : i ≡ 0 + i = omega arith in same)
      (held-has i (omega arith) (held-before is.clusters groups is.are_groups i g low below held)))
      ∙ ap Some none

  -- the groups of a function are held by it
  pub of-function : (j : ℕ) (gs : List ℕ) (g : ℕ) → slice_get schedule.functions j ≡ Some gs → Contains gs g →
      (g < length groups.holds) × (not (bit_and (slice_index groups.holds g) (2 ^ j) == 0) ≡ true)
  of-function j gs g at h =
      let there = subst (λ fs. slice_get fs j ≡ Some gs) (ap (λ (s : SystemSchedule). s.functions) is.is_schedule) at in
      let m = map-at (groups_holding groups.holds) (range_with_len 0 (length profile.functions)) j gs there in
      let number = (range-at 0 (length profile.functions) j m.0 m.1).1 in
      let same : m.0 ≡ j = omega (arith, number) in
      let f = of-filter (λ g. not (bit_and (slice_index groups.holds g) (2 ^ m.0) == 0)) (range_with_len 0 (length groups.holds)) g
      (subst (λ xs. Contains xs g) (sym m.2) h) in
      let range = (of-range 0 (length groups.holds) g f.0).1 in
      (omega (arith, range), subst (λ j. not (bit_and (slice_index groups.holds g) (2 ^ j) == 0) ≡ true) same f.1)

  pub no-bit : (x j : ℕ) → not (bit_and x (2 ^ j) == 0) ≡ true → (x == 0) ≡ false
  no-bit x j has = by (x == 0) refl
    where
      by : (t : Bool) → (x == 0) ≡ t → t ≡ false
      by false e = refl
      by true e = absurd (empty-bit j
          (subst (λ n. IsBitSet n j) (eqb-true x 0 e) (has-set x j has)))

  pub function-held : (j : ℕ) (gs : List ℕ) (g : ℕ) → slice_get schedule.functions j ≡ Some gs → Contains gs g →
      slice_get (code_groups schedule) g ≡ Some g
  function-held j gs g at h =
      let of = of-function j gs g at h in
      held-at g of.0 (no-bit (slice_index groups.holds g) j of.1)
