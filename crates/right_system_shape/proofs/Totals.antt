-- Sums over lists, and over the nodes of a schedule, each of which occurs once in a group or in the update.
use Rattle.std.specs.Prelude.{◌≡◌, ◌≢◌, refl, ℕ, zero, suc, ◌+◌, ◌<◌, Bool, true, false, not, ◌&&◌, ◌==◌, cond, List, [], ◌∷◌, ◌++◌, map, flat_map, filter, count_by, length, slice_get, slice_index, Contains, Some, ◌⊎◌}
use Rattle.std.specs.List.{range_with_len}
use Rattle.std.proofs.Common.{sym, ap, ap₂, subst, ◌∙◌, arith, inl, inr, true≢false}
use Rattle.std.proofs.lemmas.Bool.{eqb-true, eq-eqb, cases_eq}
use Rattle.std.proofs.lemmas.List.Recursion.{is_count_by}
use Rattle.std.proofs.lemmas.Option.{same_Some, none-some}
use Rattle.base_graph.specs.NeedsGraph.{NeedsGraph}
use Rattle.base_graph.specs.OneOrder.{Follows}
use Rattle.modules_clusters.specs.NodeGroups.{NodeGroups}
use Rattle.modules_profile.specs.LocalSystem.{LocalSystem}
use Rattle.modules_profile.specs.SystemProfile.{SystemProfile}
use Rattle.modules_profile.proofs.lemmas.Members.{in-none, in-cases, in-first, in-rest, at-in, at-range, range-at, of-range}
use Rattle.modules_schedule.specs.SystemSchedule.{SystemSchedule}
use Rattle.modules_schedule.specs.Scheduling.{is_unheld, nodes_of_group}
use Rattle.emit_system_spec.specs.Groups.{group_nodes, has_some, code_groups}
use Rattle.emit_system_spec.specs.Schedules.{IsScheduleOf}
use Rattle.right_system_shape.proofs.AllOf.{in-left, in-right}
use Rattle.right_system_shape.proofs.GroupOrder.{group-of, nodes-are, many-groups}

abbrev pub total : {A : Type 0} → (A → ℕ) → List A → ℕ
total f [] = 0
total f (x ∷ xs) = f x + total f xs

abbrev pub one_if : Bool → ℕ
one_if t = cond t 1 0

pub total-append : {A : Type 0} (f : A → ℕ) (xs ys : List A) → total f (xs ++ ys) ≡ total f xs + total f ys
total-append f [] ys = omega arith
total-append f (x ∷ xs) ys = let rest = total-append f xs ys in omega (arith, rest)

pub total-flat : {A B : Type 0} (f : B → ℕ) (g : A → List B) (xs : List A) → total f (flat_map g xs) ≡ total (λ x. total f (g x)) xs
total-flat f g [] = refl
total-flat f g (x ∷ xs) = total-append f (g x) (flat_map g xs) ∙ ap (λ n. total f (g x) + n) (total-flat f g xs)

pub total-map : {A B : Type 0} (f : B → ℕ) (g : A → B) (xs : List A) → total f (map g xs) ≡ total (λ x. f (g x)) xs
total-map f g [] = refl
total-map f g (x ∷ xs) = ap (λ n. f (g x) + n) (total-map f g xs)

pub total-same : {A : Type 0} (f h : A → ℕ) (xs : List A) → ((x : A) → Contains xs x → f x ≡ h x) → total f xs ≡ total h xs
total-same f h [] each = refl
total-same f h (x ∷ xs) each = ap₂ ◌+◌ (each x (in-first x xs)) (total-same f h xs (λ y k. each y (in-rest x y xs k)))

pub total-none : {A : Type 0} (f : A → ℕ) (xs : List A) → ((x : A) → Contains xs x → f x ≡ 0) → total f xs ≡ 0
total-none f [] none = refl
total-none f (x ∷ xs) none = let here = none x (in-first x xs) in let rest = total-none f xs (λ y h. none y (in-rest x y xs h)) in
    omega (arith, here, rest)

pub total-plus : {A : Type 0} (f h : A → ℕ) (xs : List A) → total (λ x. f x + h x) xs ≡ total f xs + total h xs
total-plus f h [] = refl
total-plus f h (x ∷ xs) = let rest = total-plus f h xs in omega (arith, rest)

-- what fails a test counts nothing
pub total-kept : {A : Type 0} (f : A → ℕ) (p : A → Bool) (xs : List A) → ((x : A) → p x ≡ false → f x ≡ 0) → total f (filter p xs)
    ≡ total f xs
total-kept f p [] none = refl
total-kept {A} f p (x ∷ xs) none = by (p x) refl (total-kept f p xs none)
  where
    by : (t : Bool) → p x ≡ t → total f (filter p xs) ≡ total f xs → total f (cond t (x ∷ filter p xs) (filter p xs)) ≡ f x + total f xs
    by true e rest = ap (λ n. f x + n) rest
    by false e rest = let here = none x e in omega (arith, here, rest)

pub total-filter : {A : Type 0} (f : A → ℕ) (p : A → Bool) (xs : List A) → total f (filter p xs) ≡ total (λ x. cond (p x) (f x) 0) xs
total-filter f p [] = refl
total-filter {A} f p (x ∷ xs) = by (p x) (total-filter f p xs)
  where
    by : (t : Bool) → total f (filter p xs) ≡ total (λ x. cond (p x) (f x) 0) xs → total f (cond t (x ∷ filter p xs) (filter p xs))
        ≡ cond t (f x) 0 + total (λ x. cond (p x) (f x) 0) xs
    by true rest = ap (λ n. f x + n) rest
    by false rest = omega (arith, rest)

-- only what is at one place counts
pub total-only : {A : Type 0} (f : A → ℕ) (xs : List A) (k : ℕ) (x : A) → slice_get xs k ≡ Some x →
    ((i : ℕ) (y : A) → slice_get xs i ≡ Some y → i ≢ k → f y ≡ 0) → total f xs ≡ f x
total-only f [] k x at none = absurd (none-some x at)
total-only {A} f (y ∷ ys) zero x at none =
    let later = total-none f ys (λ z h. let m = at-in ys z h in none (suc m.0) z m.1 (λ e. omega (arith, e))) in
    let same : f y ≡ f x = ap f (same_Some y x at) in
    omega (arith, later, same)
total-only f (y ∷ ys) (suc k) x at none =
    let here = none 0 y refl (λ e. omega (arith, e)) in
    let rest = total-only f ys k x at (λ i z e apart. none (suc i) z e (λ same. apart (omega (arith, same)))) in
    omega (arith, here, rest)

pub count-total : {A : Type 0} (p : A → Bool) (xs : List A) → count_by p xs ≡ total (λ x. one_if (p x)) xs
count-total {A} p xs = sym (is_count_by (total (λ x. one_if (p x))) p refl step xs)
  where
    step : (x : A) (xs : List A) → one_if (p x) + total (λ x. one_if (p x)) xs ≡ cond (p x) (1 + total (λ x. one_if (p x)) xs)
        (total (λ x. one_if (p x)) xs)
    step x xs = by (p x)
      where
        by : (t : Bool) → one_if t + total (λ x. one_if (p x)) xs ≡ cond t (1 + total (λ x. one_if (p x)) xs) (total (λ x. one_if (p x)) xs)
        by true = refl
        by false = omega arith

pub filter-keeps : {A : Type 0} (p : A → Bool) (xs : List A) → ((x : A) → Contains xs x → p x ≡ true) → filter p xs ≡ xs
filter-keeps p [] each = refl
filter-keeps p (x ∷ xs) each =
    ap (λ t. cond t (x ∷ filter p xs) (filter p xs)) (each x (in-first x xs)) ∙ ap (λ rest. x ∷ rest)
    (filter-keeps p xs (λ y h. each y (in-rest x y xs h)))

-- ---- The order of nodes

-- no node of an order is among those placed before
follows-new : (g : NeedsGraph) (placed list : List ℕ) (b : ℕ) → Follows g placed list → Contains list b → Contains placed b → ⊥
follows-new g placed [] b follows h before = in-none b h
follows-new g placed (c ∷ list) b follows h before = elim (in-cases c b list h) [
  | inl same ↦ follows.0.may_stand.is_new (subst (Contains placed) (sym same) before)
  | inr more ↦ follows-new g (placed ++ c ∷ []) list b follows.1 more (in-left placed (c ∷ []) b before)
]

-- where one node alone counts, the order counts it once
pub order-counts : (g : NeedsGraph) (placed list : List ℕ) (w : ℕ → ℕ) (b : ℕ) → Follows g placed list → Contains list b →
    ((c : ℕ) → c ≢ b → w c ≡ 0) → total w list ≡ w b
order-counts g placed [] w b follows h only = absurd (in-none b h)
order-counts g placed (c ∷ list) w b follows h only = elim (cases_eq c b) [
  | inl same ↦
      let later = total-none w list (λ e k. only e (λ is. follows-new g (placed ++ c ∷ []) list e follows.1 k
      (in-right placed (c ∷ []) e (subst (Contains (c ∷ [])) (same ∙ sym is) (in-first c []))))) in
      let here : w c ≡ w b = ap w same in
      omega (arith, later, here)
  | inr other ↦
      let apart : c ≢ b = λ same. omega (arith, other, same) in
      let here = only c apart in
      let more : Contains list b = later (in-cases c b list h) apart in
      let rest = order-counts g (placed ++ c ∷ []) list w b follows.1 more only in
      omega (arith, here, rest)
]
  where
    later : (c ≡ b) ⊎ Contains list b → c ≢ b → Contains list b
    later (inl same) apart = absurd (apart same)
    later (inr more) apart = more

-- ---- Groups and the update

module _ (groups : NodeGroups) (w : ℕ → ℕ) where
  abbrev in_group : ℕ → ℕ → Bool
  in_group g k = (slice_index groups.of k == g) && not (is_unheld groups g)

  -- a node is in its group, where that is held
  one-group-counts : (k : ℕ) → slice_index groups.of k < length groups.holds →
      total (λ g. cond (in_group g k) (w k) 0) (range_with_len 0 (length groups.holds)) + cond
      (is_unheld groups (slice_index groups.of k)) (w k) 0 ≡ w k
  one-group-counts k below =
      let g = slice_index groups.of k in
      let none : 0 + g ≡ g = omega arith in
      let at = at-range 0 (length groups.holds) g below ∙ ap Some none in
      let alone = total-only (λ g. cond (in_group g k) (w k) 0) (range_with_len 0 (length groups.holds)) g g at
      (λ i h e apart. let number = (range-at 0 (length groups.holds) i h e).1 in other h (λ same. apart (omega (arith, number, same)))) in
      let here : cond (in_group g k) (w k) 0 ≡ cond (not (is_unheld groups g)) (w k) 0 =
      ap (λ t. cond (t && not (is_unheld groups g)) (w k) 0) (eq-eqb g g refl) in
      let both = split (is_unheld groups g) in
      omega (arith, alone, here, both)
    where
      other : (h : ℕ) → h ≢ slice_index groups.of k → cond (in_group h k) (w k) 0 ≡ 0
      other h apart = by (slice_index groups.of k == h) refl
        where
          by : (t : Bool) → (slice_index groups.of k == h) ≡ t → cond (t && not (is_unheld groups h)) (w k) 0 ≡ 0
          by true e = absurd (apart (sym (eqb-true (slice_index groups.of k) h e)))
          by false e = refl

      split : (t : Bool) → cond (not t) (w k) 0 + cond t (w k) 0 ≡ w k
      split true = omega arith
      split false = omega arith

  pub groups-count : (order : List ℕ) → ((k : ℕ) → Contains order k → slice_index groups.of k < length groups.holds) →
      total (λ g. total w (nodes_of_group order groups g)) (range_with_len 0 (length groups.holds)) + total w
      (filter (λ k. is_unheld groups (slice_index groups.of k)) order) ≡ total w order
  groups-count order below =
      ap₂ ◌+◌ (total-same (λ g. total w (nodes_of_group order groups g)) (λ g. total (λ k. cond (in_group g k) (w k) 0) order)
      (range_with_len 0 (length groups.holds)) (λ g h. total-filter w (in_group g) order))
      (total-filter w (λ k. is_unheld groups (slice_index groups.of k)) order)
      ∙ each order below
    where
      gs : List ℕ
      gs = range_with_len 0 (length groups.holds)

      each : (order : List ℕ) → ((k : ℕ) → Contains order k → slice_index groups.of k < length groups.holds) →
          total (λ g. total (λ k. cond (in_group g k) (w k) 0) order) gs + total (λ k. cond (is_unheld groups (slice_index groups.of k))
          (w k) 0) order ≡ total w order
      each [] below = let none = total-none (λ g. 0) gs (λ g h. refl) in omega (arith, none)
      each (k ∷ order) below =
          let first = one-group-counts k (below k (in-first k order)) in
          let rest = each order (λ e h. below e (in-rest k e order h)) in
          let both = total-plus (λ g. cond (in_group g k) (w k) 0) (λ g. total (λ k. cond (in_group g k) (w k) 0) order) gs in
          omega (arith, first, rest, both)

module _ (local : LocalSystem) (profile : SystemProfile) (schedule : SystemSchedule) (is : IsScheduleOf local profile schedule)
    (below : (k : ℕ) → Contains is.order k → k < length is.clusters) where
  -- groups and the update hold each node once
  pub schedule-counts : (w : ℕ → ℕ) → total (λ g. total w (group_nodes schedule g)) (code_groups schedule) + total w schedule.update
      ≡ total w is.order
  schedule-counts w =
      ap₂ ◌+◌ shown (ap (λ (s : SystemSchedule). total w s.update) is.is_schedule)
      ∙ groups-count is.groups w is.order (λ k h. (group-of is.clusters is.groups is.are_groups k (below k h)).0)
    where
      empty : (xs : List ℕ) → has_some xs ≡ false → total w xs ≡ 0
      empty [] h = refl
      empty (x ∷ xs) h = absurd (true≢false h)

      shown : total (λ g. total w (group_nodes schedule g)) (code_groups schedule)
          ≡ total (λ g. total w (nodes_of_group is.order is.groups g)) (range_with_len 0 (length is.groups.holds))
      shown =
          total-kept (λ g. total w (group_nodes schedule g)) (λ g. has_some (group_nodes schedule g))
          (range_with_len 0 (length schedule.groups)) (λ g h. empty (group_nodes schedule g) h)
          ∙ ap (λ n. total (λ g. total w (group_nodes schedule g)) (range_with_len 0 n)) (many-groups local profile schedule is)
          ∙ total-same (λ g. total w (group_nodes schedule g)) (λ g. total w (nodes_of_group is.order is.groups g))
          (range_with_len 0 (length is.groups.holds))
          (λ g h. ap (total w) (nodes-are local profile schedule is g (let high = (of-range 0 (length is.groups.holds) g h).1 in
          omega (arith, high))))
