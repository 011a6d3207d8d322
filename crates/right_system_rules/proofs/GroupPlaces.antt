-- Each group that a function calls has nodes, and is at its number among the groups that have some.
use Rattle.std.specs.Prelude.{◌≡◌, ℕ, zero, suc, ◌+◌, ◌-◌, ◌^◌, ◌<◌, ◌≤◌, Bool, true, false, not, ◌&&◌, ◌==◌, cond, List, [], ◌∷◌, filter, length, slice_get, slice_index, count_ones, bit_and, unwrap_or, Contains, Option, Some, None}
use Rattle.std.specs.List.{range_with_len, position_from}
use Rattle.std.specs.Option.{is_some}
use Rattle.std.proofs.Common.{refl, sym, ap, subst, ◌∙◌, arith, inl, inr, get_or, true≢false}
use Rattle.std.proofs.lemmas.Bool.{cases_order, cases_eq, and_from, eq-eqb, ne_eqb, eqb-true, false≢true}
use Rattle.std.proofs.lemmas.List.{get_or-map, length-map}
use Rattle.std.proofs.lemmas.List.FromFn.{length-range_with_len}
use Rattle.std.proofs.lemmas.List.Sorted.{Contains-permutation, IsPermutation-sym}
use Rattle.std.proofs.lemmas.Option.{slice_get-get_or, get_or_from_slice_get}
use Rattle.std.proofs.lemmas.Nat.{ones_le_self, zero_from_ones, and_le_l}
use Rattle.base_core.specs.Interface.{different}
use Rattle.base_core.proofs.lemmas.Different.{has}
use Rattle.modules_clusters.specs.Classes.{place_of}
use Rattle.modules_clusters.specs.Grouping.{ComesBefore, AreGroups}
use Rattle.modules_clusters.specs.NodeGroups.{NodeGroups}
use Rattle.modules_clusters.proofs.lemmas.FirstPlaces.{is_some-position, found-at, has-head, has-tail}
use Rattle.diagram_meaning.proofs.lemmas.ByRow.{map_range-at}
use Rattle.modules_schedule.specs.SystemSchedule.{SystemSchedule}
use Rattle.modules_schedule.specs.Scheduling.{is_unheld, nodes_of_group, groups_holding, schedule_for}
use Rattle.modules_profile.specs.LocalSystem.{LocalSystem}
use Rattle.modules_profile.specs.SystemProfile.{SystemProfile}
use Rattle.modules_profile.proofs.lemmas.Members.{in-none, in-cases, in-filter, of-filter, of-map, of-range, in-at, at-in, at-below}
use Rattle.modules_profile.proofs.lemmas.MaskBits.{in-different}
use Rattle.emit_system_spec.specs.Schedules.{IsScheduleOf}
use Rattle.emit_system_spec.specs.Groups.{group_nodes, has_some, code_groups}
use Rattle.right_system_rules.proofs.Lists.{of-different}

has-in : (xs : List ℕ) (x : ℕ) → Contains xs x → has xs x ≡ true
has-in [] x h = absurd (in-none x h)
has-in (y ∷ ys) x h = elim (in-cases y x ys h) [
  | inl same ↦ subst (λ z. has (y ∷ ys) z ≡ true) same (has-head ys y)
  | inr more ↦ has-tail ys y x (has-in ys x more)
]

first-place : (xs : List ℕ) (x : ℕ) → Contains xs x → (place_of xs x < length xs) × (get_or xs (place_of xs x) 0 ≡ x)
first-place xs x h = by (position_from (λ y. y == x) 0 xs) refl
  where
    by : (o : Option ℕ) → position_from (λ y. y == x) 0 xs ≡ o → (unwrap_or o 0 < length xs) × (get_or xs (unwrap_or o 0) 0 ≡ x)
    by None e = absurd (false≢true (sym (ap is_some e) ∙ is_some-position (λ y. y == x) 0 xs ∙ has-in xs x h))
    by (Some k) e =
        let f = found-at (λ y. y == x) 0 xs k e in
        let here : k ≡ k - 0 = omega arith in
        (let below = f.1 in omega (arith, below), ap (λ i. get_or xs i 0) here ∙ eqb-true (get_or xs (k - 0) 0) x f.2)

some-member : (xs : List ℕ) (x : ℕ) → Contains xs x → has_some xs ≡ true
some-member [] x h = absurd (in-none x h)
some-member (y ∷ ys) x h = refl

-- the numbers before the first that fails are at their places
kept-place : (p : ℕ → Bool) (a n g : ℕ) → ((k : ℕ) → k ≤ g → p (a + k) ≡ true) → g < n →
    slice_get (filter p (range_with_len a n)) g ≡ Some (a + g)
kept-place p a zero g passes below = absurd (omega arith)
kept-place p a (suc n) g passes below =
    let zero_more : a + 0 ≡ a = omega arith in
    let here : p a ≡ true = subst (λ k. p k ≡ true) zero_more (passes 0 (omega arith)) in
    ap (λ t. slice_get (cond t (a ∷ filter p (range_with_len (a + 1) n)) (filter p (range_with_len (a + 1) n))) g) here
    ∙ by g passes below (λ k. kept-place p (a + 1) n k)
  where
    by : (g : ℕ) → ((k : ℕ) → k ≤ g → p (a + k) ≡ true) → g < suc n →
        ((h : ℕ) → ((k : ℕ) → k ≤ h → p (a + 1 + k) ≡ true) → h < n →
        slice_get (filter p (range_with_len (a + 1) n)) h ≡ Some (a + 1 + h)) →
        slice_get (a ∷ filter p (range_with_len (a + 1) n)) g ≡ Some (a + g)
    by zero passes below later = let same : a ≡ a + 0 = omega arith in ap Some same
    by (suc g) passes below later =
        let next : a + 1 + g ≡ a + suc g = omega arith in
        later g
        (λ k low. let same : a + suc k ≡ a + 1 + k = omega arith in subst (λ i. p i ≡ true) same (passes (suc k) (omega arith)))
        (omega arith)
        ∙ ap Some next

-- a set isn't before itself
not-before : (holds : List ℕ) (a b : ℕ) → a ≡ b → ComesBefore holds a b → ⊥
not-before holds a b same (inl fewer) = omega (arith, ap count_ones same, fewer)
not-before holds a b same (inr (equal, first)) = omega (arith, ap (place_of holds) same, first)

module _ (order clusters : List ℕ) (groups : NodeGroups) (are : AreGroups clusters groups)
    (has_all : (k : ℕ) → k < length clusters → Contains order k) (count : ℕ) where
  abbrev schedule : SystemSchedule
  schedule = schedule_for order groups count

  abbrev set : ℕ → ℕ
  set g = get_or groups.holds g 0

  same-set : (g h : ℕ) → g < length groups.holds → h < length groups.holds → set g ≡ set h → g ≡ h
  same-set g h low high same = elim (cases_order g h) [
    | inl equal ↦ equal
    | inr apart ↦ elim apart [
      | inl less ↦ absurd (not-before clusters (set g) (set h) same (are.in_order g h less high))
      | inr more ↦ absurd (not-before clusters (set h) (set g) (sym same) (are.in_order h g more low))
    ]
  ]

  -- the group of a node has its set
  group-is : (k g : ℕ) → k < length clusters → g < length groups.holds → get_or clusters k 0 ≡ set g → get_or groups.of k 0 ≡ g
  group-is k g below inside same =
      let group : get_or groups.of k 0 ≡ place_of groups.holds (get_or clusters k 0) =
      ap (λ (of : List ℕ). get_or of k 0) are.of ∙ get_or-map (place_of groups.holds) clusters k 0 0 below in
      let member : Contains groups.holds (get_or clusters k 0) =
      Contains-permutation (different clusters) groups.holds (get_or clusters k 0) are.sets
      (in-different clusters (get_or clusters k 0) (in-at clusters k (get_or clusters k 0) (slice_get-get_or clusters k 0 below))) in
      let first = first-place groups.holds (get_or clusters k 0) member in
      group ∙ same-set (place_of groups.holds (get_or clusters k 0)) g first.0 inside (first.1 ∙ same)

  -- a group that a function holds has a node
  held-some : (g : ℕ) → g < length groups.holds → (set g ≡ 0 → ⊥) → has_some (group_nodes schedule g) ≡ true
  held-some g inside held =
      let nodes : group_nodes schedule g ≡ nodes_of_group order groups g =
      map_range-at (nodes_of_group order groups) (length groups.holds) 0 g [] inside g (omega arith) in
      let member : Contains clusters (set g) =
      of-different clusters (set g) (Contains-permutation groups.holds (different clusters) (set g)
      (IsPermutation-sym (different clusters) groups.holds are.sets)
      (in-at groups.holds g (set g) (slice_get-get_or groups.holds g 0 inside))) in
      let k = at-in clusters (set g) member in
      let below = at-below clusters k.0 (set g) k.1 in
      let here : get_or groups.of k.0 0 ≡ g = group-is k.0 g below inside (get_or_from_slice_get clusters k.0 (set g) 0 k.1) in
      let unheld : is_unheld groups g ≡ false = ne_eqb (set g) 0 held in
      let passes : ((slice_index groups.of k.0 == g) && not (is_unheld groups g)) ≡ true = and_from _ _ (eq-eqb _ _ here) (ap not unheld) in
      ap has_some nodes
      ∙ some-member (nodes_of_group order groups g) k.0
      (in-filter (λ k. (slice_index groups.of k == g) && not (is_unheld groups g)) order k.0 (has_all k.0 below) passes)

  held-before : (g h : ℕ) → h ≤ g → g < length groups.holds → (set g ≡ 0 → ⊥) → set h ≡ 0 → ⊥
  held-before g h low inside held none = elim (cases_eq h g) [
    | inl same ↦ held (ap set (sym same) ∙ none)
    | inr other ↦ by (are.in_order h g (omega arith) inside)
  ]
    where
      by : ComesBefore clusters (set h) (set g) → ⊥
      by (inl fewer) = let zero = ap count_ones none in let few = ones_le_self 0 in omega (arith, zero, few, fewer)
      by (inr (equal, first)) =
          held (zero_from_ones (set g) (let zero = ap count_ones none in let few = ones_le_self 0 in omega (arith, zero, few, equal)))

  held-place : (g : ℕ) → g < length groups.holds → (set g ≡ 0 → ⊥) → slice_get (code_groups schedule) g ≡ Some g
  held-place g inside held =
      let long : length schedule.groups ≡ length groups.holds =
      length-map (range_with_len 0 (length groups.holds)) (nodes_of_group order groups) ∙ length-range_with_len 0 (length groups.holds) in
      let same : 0 + g ≡ g = omega arith in
      kept-place (λ h. has_some (group_nodes schedule h)) 0 (length schedule.groups) g
      (λ k low. let at : k ≡ 0 + k = omega arith in
      subst (λ h. has_some (group_nodes schedule h) ≡ true) at (held-some k (omega arith) (held-before g k low inside held)))
      (omega (arith, long))
      ∙ ap Some same

  called-place : (gs : List ℕ) (g : ℕ) → Contains schedule.functions gs → Contains gs g → slice_get (code_groups schedule) g ≡ Some g
  called-place gs g h k =
      let j = of-map (groups_holding groups.holds) (range_with_len 0 count) gs h in
      let f = of-filter (λ g. not (bit_and (slice_index groups.holds g) (2 ^ j.0) == 0)) (range_with_len 0 (length groups.holds)) g
      (subst (λ l. Contains l g) (sym j.2) k) in
      let inside = (of-range 0 (length groups.holds) g f.0).1 in
      held-place g (omega arith) (λ none. not-held (slice_index groups.holds g) (2 ^ j.0) none f.1)
    where
      not-held : (x y : ℕ) → x ≡ 0 → not (bit_and x y == 0) ≡ true → ⊥
      not-held x y none held =
          let low = and_le_l x y in
          let zero : bit_and x y ≡ 0 = omega (arith, low, none) in
          true≢false (sym held ∙ ap not (eq-eqb (bit_and x y) 0 zero))

pub called_groups : (local : LocalSystem) (profile : SystemProfile) (schedule : SystemSchedule) → IsScheduleOf local profile schedule →
    (gs : List ℕ) (g : ℕ) → Contains schedule.functions gs → Contains gs g → slice_get (code_groups schedule) g ≡ Some g
called_groups local profile schedule is gs g h k =
    let long = is.are_clusters.one_each in
    subst (λ (s : SystemSchedule). slice_get (code_groups s) g ≡ Some g) (sym is.is_schedule)
    (called-place is.order is.clusters is.groups is.are_groups (λ n below. is.is_order.has_all n (omega (arith, long, below)))
    (length profile.functions) gs g
    (subst (λ (s : SystemSchedule). Contains s.functions gs) is.is_schedule h) k)
