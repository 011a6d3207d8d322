-- Groups with nodes come first, functions call them by rising number, and a group that two of them call has a counter.
use Rattle.std.specs.Prelude.{◌≡◌, ◌≢◌, ◌⊎◌, ℕ, zero, suc, ◌+◌, ◌-◌, ◌<◌, ◌≤◌, nat_lt, Bool, true, false, ◌==◌, cond, List, [], ◌∷◌, filter, flat_map, count_by, length, slice_get, slice_index, Contains, Some, refl}
use Rattle.std.specs.List.{range_with_len}
use Rattle.std.proofs.Common.{sym, ap, subst, ◌∙◌, arith, inl, inr}
use Rattle.std.proofs.lemmas.Bool.{cases_lt, eq-eqb}
use Rattle.std.proofs.lemmas.Bool.Decides.{nat_tests}
use Rattle.std.proofs.lemmas.List.{length-map}
use Rattle.std.proofs.lemmas.List.Sums.{sum_by-append, sum_by-cons}
use Rattle.std.proofs.lemmas.Option.{same_Some, none-some, get_or_from_slice_get}
use Rattle.modules_clusters.specs.NodeGroups.{NodeGroups}
use Rattle.modules_profile.specs.LocalSystem.{LocalSystem}
use Rattle.modules_profile.specs.SystemProfile.{SystemProfile}
use Rattle.base_core.specs.Ports.{has_bit}
use Rattle.modules_profile.proofs.lemmas.Members.{in-none, in-first, in-cases, in-filter, of-filter, in-range, of-range, below-at}
use Rattle.modules_schedule.specs.SystemSchedule.{SystemSchedule}
use Rattle.modules_schedule.specs.Scheduling.{is_unheld, groups_holding}
use Rattle.emit_system_spec.specs.Schedules.{IsScheduleOf}
use Rattle.emit_system_spec.specs.Fields.{call_count, shared_groups}
use Rattle.emit_system_spec.specs.Groups.{group_nodes, has_some, code_groups}
use Rattle.right_system_ticks.specs.Holding.{called_groups, calls_group}
use Rattle.right_system_ticks.specs.ScheduleLaws.{AreRising, HasGroups, GroupsStandFirst}
use Rattle.right_system_ticks.proofs.Tests.{true-false, not-true}
use Rattle.right_system_ticks.proofs.GroupSets.{bit-held, has-node, unheld-last, called-are, calls-in, calls-of}
use Rattle.right_system_ticks.proofs.GroupOrders.{group-count, grouped, in-its-group, calls-set}

-- ---- Numbers in order of which some are kept

-- where those below a kept one are kept, the kept ones are the first
kept-first : (p : ℕ → Bool) (a n : ℕ) → ((i k : ℕ) → a ≤ i → i < k → k < a + n → p k ≡ true → p i ≡ true) →
    filter p (range_with_len a n) ≡ range_with_len a (length (filter p (range_with_len a n)))
kept-first p a zero down = refl
kept-first p a (suc n) down =
    by (p a) refl (kept-first p (a + 1) n (λ i k low less high. down i k (omega (arith, low)) less (omega (arith, high))))
  where
    rest : List ℕ
    rest = filter p (range_with_len (a + 1) n)

    by : (t : Bool) → p a ≡ t → rest ≡ range_with_len (a + 1) (length rest) →
        cond t (a ∷ rest) rest ≡ range_with_len a (length (cond t (a ∷ rest) rest))
    by true e later = ap (λ ks. a ∷ ks) later
    by false e later = subst (λ ks. ks ≡ range_with_len a (length ks)) (sym (none rest (λ k h. h))) refl
      where
        none : (ks : List ℕ) → ((k : ℕ) → Contains ks k → Contains rest k) → ks ≡ []
        none [] among = refl
        none (k ∷ ks) among =
            let m = of-filter p (range_with_len (a + 1) n) k (among k (in-first k ks)) in
            let range = of-range (a + 1) n k m.0 in
            absurd (true-false (p a) (down a k (omega arith) (let low = range.0 in omega (arith, low))
            (let high = range.1 in omega (arith, high)) m.1) e)

-- kept numbers rise
pub kept-rising : (p : ℕ → Bool) (a n : ℕ) → AreRising (filter p (range_with_len a n))
kept-rising p a zero = tt
kept-rising p a (suc n) = by (p a) (kept-rising p (a + 1) n)
  where
    by : (t : Bool) → AreRising (filter p (range_with_len (a + 1) n)) →
        AreRising (cond t (a ∷ filter p (range_with_len (a + 1) n)) (filter p (range_with_len (a + 1) n)))
    by true later = (
      λ i h.
          let m = of-filter p (range_with_len (a + 1) n) i h in
          let low = (of-range (a + 1) n i m.0).0 in
          omega (arith, low),
      later,
    )
    by false later = later

-- ---- How often a number occurs in lists

counted-yes : (t : Bool) → t ≡ true → 1 ≤ cond t 1 0
counted-yes true e = omega arith
counted-yes false e = absurd (true-false true refl (sym e))

module _ (g : ℕ) where
  abbrev times : List ℕ → ℕ
  times xs = count_by (λ x. x == g) xs

  abbrev joint : List (List ℕ) → List ℕ
  joint xss = flat_map (λ (xs : List ℕ). xs) xss

  times-in : (xs : List ℕ) → Contains xs g → 1 ≤ times xs
  times-in [] h = absurd (in-none g h)
  times-in (x ∷ xs) h =
      let step = sum_by-cons (λ x. cond (x == g) 1 0) x xs in
      elim (in-cases x g xs h) [
        | inl same ↦ let one = counted-yes (x == g) (eq-eqb x g same) in omega (arith, step, one)
        | inr more ↦ let rest = times-in xs more in omega (arith, step, rest)
      ]

  times-one : (xss : List (List ℕ)) (k : ℕ) (xs : List ℕ) → slice_get xss k ≡ Some xs → Contains xs g → 1 ≤ times (joint xss)
  times-one [] k xs at h = absurd (none-some xs at)
  times-one (ys ∷ xss) zero xs at h =
      let both = sum_by-append (λ x. cond (x == g) 1 0) ys (joint xss) in
      let here = times-in ys (subst (λ zs. Contains zs g) (sym (same_Some ys xs at)) h) in
      omega (arith, both, here)
  times-one (ys ∷ xss) (suc k) xs at h =
      let both = sum_by-append (λ x. cond (x == g) 1 0) ys (joint xss) in
      let later = times-one xss k xs at h in
      omega (arith, both, later)

  -- what occurs in two lists occurs twice
  times-two : (xss : List (List ℕ)) (i k : ℕ) (xs zs : List ℕ) → i < k → slice_get xss i ≡ Some xs → slice_get xss k ≡ Some zs →
      Contains xs g → Contains zs g → 2 ≤ times (joint xss)
  times-two [] i k xs zs low at_i at_k one two = absurd (none-some xs at_i)
  times-two (ys ∷ xss) i zero xs zs low at_i at_k one two = absurd (omega (arith, low))
  times-two (ys ∷ xss) zero (suc k) xs zs low at_i at_k one two =
      let both = sum_by-append (λ x. cond (x == g) 1 0) ys (joint xss) in
      let here = times-in ys (subst (λ ws. Contains ws g) (sym (same_Some ys xs at_i)) one) in
      let later = times-one xss k zs at_k two in
      omega (arith, both, here, later)
  times-two (ys ∷ xss) (suc i) (suc k) xs zs low at_i at_k one two =
      let both = sum_by-append (λ x. cond (x == g) 1 0) ys (joint xss) in
      let later = times-two xss i k xs zs (omega (arith, low)) at_i at_k one two in
      omega (arith, both, later)

some-in : (ks : List ℕ) (k : ℕ) → Contains ks k → has_some ks ≡ true
some-in [] k h = absurd (in-none k h)
some-in (x ∷ ks) k h = refl

in-some : (ks : List ℕ) → has_some ks ≡ true → (k : ℕ) × Contains ks k
in-some [] h = absurd (true-false true refl (sym h))
in-some (x ∷ ks) h = (x, in-first x ks)

-- ---- Groups of a schedule

module _ (local : LocalSystem) (profile : SystemProfile) (schedule : SystemSchedule) (s : IsScheduleOf local profile schedule) where
  abbrev sets : NodeGroups
  sets = s.groups

  -- a group that some function holds has nodes
  held-some : (g : ℕ) → g < length sets.holds → is_unheld sets g ≡ false → has_some (group_nodes schedule g) ≡ true
  held-some g below held =
      let n = has-node s.clusters sets s.are_groups g below in
      let low : n.0 < s.nodes.graph.n = (let many = s.are_clusters.one_each in let few = n.1 in omega (arith, many, few)) in
      some-in (group_nodes schedule g) n.0
      (subst (λ i. Contains (group_nodes schedule i) n.0) n.2
      (in-its-group local profile schedule s n.0 low (ap (is_unheld sets) n.2 ∙ held)))

  some-held : (g : ℕ) → has_some (group_nodes schedule g) ≡ true → (g < length sets.holds) × (is_unheld sets g ≡ false)
  some-held g h =
      let k = in-some (group_nodes schedule g) h in
      let its = grouped local profile schedule s g k.0 k.1 in
      (its.0, its.3)

  abbrev kept : ℕ → Bool
  kept g = has_some (group_nodes schedule g)

  first : code_groups schedule ≡ range_with_len 0 (length (code_groups schedule))
  first = kept-first kept 0 (length schedule.groups) (λ i k low less high h.
      let its = some-held k h in
      let below = its.0 in
      held-some i (omega (arith, less, below))
      (not-true (is_unheld sets i) (λ none. unheld-last s.clusters sets s.are_groups i k less its.0 none)))

  in-code : (g : ℕ) → g < length sets.holds → is_unheld sets g ≡ false → g < length (code_groups schedule)
  in-code g below held =
      let long = group-count local profile schedule s in
      let m = in-filter kept (range_with_len 0 (length schedule.groups)) g
      (in-range 0 (length schedule.groups) g (omega arith) (omega (arith, below, long))) (held-some g below held) in
      let range = of-range 0 (length (code_groups schedule)) g (subst (λ gs. Contains gs g) first m) in
      let high = range.1 in
      omega (arith, high)

  functions-long : length schedule.functions ≡ length profile.functions
  functions-long =
      ap (λ (t : SystemSchedule). length t.functions) s.is_schedule
      ∙ length-map (range_with_len 0 (length profile.functions)) (groups_holding sets.holds) ∙ range-long 0 (length profile.functions)
    where
      range-long : (a n : ℕ) → length (range_with_len a n) ≡ n
      range-long a zero = refl
      range-long a (suc n) = ap suc (range-long (a + 1) n)

  function-at : (j : ℕ) → 0 < j → j ≤ length profile.functions → slice_get schedule.functions (j - 1) ≡ Some (called_groups schedule j)
  function-at j some most =
      let long = functions-long in
      let x = below-at schedule.functions (j - 1) (omega (arith, some, most, long)) in
      x.1 ∙ ap Some (sym (get_or_from_slice_get schedule.functions (j - 1) x.0 [] x.1))

  shared-by : (i j g : ℕ) → 0 < i → j ≤ length profile.functions → i < j → calls_group schedule i g ≡ true →
      calls_group schedule j g ≡ true →
      Contains (shared_groups schedule) g
  shared-by i j g some most less one two =
      let long = group-count local profile schedule s in
      let below = (calls-set local profile schedule s i g some (omega (arith, most, less)) one).0 in
      let many = times-two g schedule.functions (i - 1) (j - 1) (called_groups schedule i) (called_groups schedule j)
      (omega (arith, some, less)) (function-at i some (omega (arith, most, less))) (function-at j (omega (arith, some, less)) most)
      (calls-of schedule i g one) (calls-of schedule j g two) in
      in-filter (λ g. nat_lt 1 (call_count schedule g)) (range_with_len 0 (length schedule.groups)) g
      (in-range 0 (length schedule.groups) g (omega arith) (omega (arith, below, long))) (more (call_count schedule g) many)
    where
      more : (n : ℕ) → 2 ≤ n → nat_lt 1 n ≡ true
      more n h = grind (arith, nat_tests)

  has-groups : HasGroups profile schedule
  has-groups = record {
    functions = functions-long;
    first = first;
    called = λ j g some most h.
        let set = calls-set local profile schedule s j g some most (calls-in schedule j g h) in
        in-code g set.0 (bit-held sets g (j - 1) set.1);
    rising = λ j some most.
        subst AreRising (sym (ap (λ t. called_groups t j) s.is_schedule ∙ called-are s.order sets (length profile.functions) j some most))
        (kept-rising (λ g. has_bit (slice_index sets.holds g) (j - 1)) 0 (length sets.holds));
    shared = λ i j g some_i most_i some_j most_j apart one two. by i j g some_i most_i some_j most_j apart one two (cases_lt i j);
  }
    where
      by : (i j g : ℕ) → 0 < i → i ≤ length profile.functions → 0 < j → j ≤ length profile.functions → i ≢ j →
          calls_group schedule i g ≡ true → calls_group schedule j g ≡ true → (i < j) ⊎ (j ≤ i) → Contains (shared_groups schedule) g
      by i j g some_i most_i some_j most_j apart one two (inl less) = shared-by i j g some_i most_j less one two
      by i j g some_i most_i some_j most_j apart one two (inr least) =
          shared-by j i g some_j most_i (below j i least apart) two one
        where
          below : (j i : ℕ) → j ≤ i → (i ≡ j → ⊥) → j < i
          below j i least apart = elim (cases_lt j i) [ inl less ↦ less | inr most ↦ absurd (apart (omega (arith, least, most))) ]

pub groups_stand_first : GroupsStandFirst
groups_stand_first local profile schedule is = has-groups local profile schedule is.is_schedule
