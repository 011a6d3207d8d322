-- Which nodes were executed, and what counters say, where one group more was executed, and where functions were called.
use Rattle.std.specs.Prelude.{◌≡◌, ◌⊎◌, ℕ, suc, ◌<◌, ◌≤◌, Bool, true, false, ◌==◌, ◌||◌, ◌&&◌, if◌then◌else◌, List, [], ◌∷◌, bytes_eq, length, slice_get, Contains, Option, Some, None, pos, refl}
use Rattle.std.specs.Option.{option_map_or}
use Rattle.std.specs.List.{list_any, range_with_len}
use Rattle.std.proofs.Common.{sym, ap, subst, ◌∙◌, arith, inl, inr}
use Rattle.std.proofs.Math.Path.{fun_ext}
use Rattle.std.proofs.lemmas.Bool.{eq-eqb, eqb-true}
use Rattle.std.proofs.lemmas.Option.{same_Some}
use Rattle.std.proofs.lemmas.Slice.Eq.{bytes_eq-Decides}
use Rattle.modules_profile.specs.declared.nodes.Node.{Node}
use Rattle.modules_profile.specs.LocalSystem.{LocalSystem}
use Rattle.modules_profile.specs.SystemProfile.{SystemProfile}
use Rattle.modules_profile.specs.Locals.{own_header}
use Rattle.modules_profile.specs.LocalNodes.{same_node, node_list}
use Rattle.modules_profile.proofs.lemmas.Members.{at-in, in-range, of-range, of-filter}
use Rattle.modules_schedule.specs.SystemSchedule.{SystemSchedule}
use Rattle.emit_shape.specs.Names.{counter_name}
use Rattle.right_relation.specs.ExecutedNodes.{IsCounting}
use Rattle.right_relation.specs.Instances.{with_called}
use Rattle.right_relation.specs.Standing.{with_node, executed_by}
use Rattle.emit_system_spec.specs.Fields.{shared_groups}
use Rattle.emit_system_spec.specs.Groups.{group_nodes, code_groups, has_some}
use Rattle.right_system_ticks.specs.Holding.{called_groups, calls_group, done_by, with_group, is_node_at, is_among, with_node_at, with_nodes_at, executed_in, held, count_in}
use Rattle.right_system_ticks.specs.PlaceLaws.{HasFieldPlaces}
use Rattle.right_system_ticks.specs.ScheduleLaws.{HasGroups}
use Rattle.right_system_ticks.proofs.Tests.{same-test, both-true, true-both, one-true, true-first, true-second, not-true, true-false, any-in, any-of, any-same}

-- ---- Nodes

module _ (local : LocalSystem) where
  one-more : (executed : Node → Bool) (o : Option Node) (x : Node) →
      option_map_or (with_node executed) o executed x ≡ (option_map_or (same_node x) o false || executed x)
  one-more executed None x = refl
  one-more executed (Some y) x = refl

  either-order : (a b c : Bool) → (a || (b || c)) ≡ ((b || a) || c)
  either-order true true c = refl
  either-order true false c = refl
  either-order false true c = refl
  either-order false false c = refl

  -- nodes at these places more
  pub nodes-more : (executed : Node → Bool) (nodes : List ℕ) (x : Node) →
      with_nodes_at local executed nodes x ≡ (is_among local nodes x || executed x)
  nodes-more executed [] x = refl
  nodes-more executed (n ∷ nodes) x =
      nodes-more (with_node_at local executed n) nodes x
      ∙ ap (λ t. is_among local nodes x || t) (one-more executed (slice_get (node_list local) n) x)
      ∙ either-order (is_among local nodes x) (is_node_at local n x) (executed x)

  module _ (schedule : SystemSchedule) where
    -- a group more is its nodes more
    pub group-more : (done : ℕ → Bool) (g : ℕ) → g < length schedule.groups →
        with_nodes_at local (executed_in local schedule done) (group_nodes schedule g) ≡ executed_in local schedule (with_group done g)
    group-more done g below = fun_ext (λ x. nodes-more (executed_in local schedule done) (group_nodes schedule g) x ∙ same x)
      where
        all : List ℕ
        all = range_with_len 0 (length schedule.groups)

        among : Node → ℕ → Bool
        among x i = is_among local (group_nodes schedule i) x

        there : (x : Node) → (among x g || executed_in local schedule done x) ≡ true → executed_in local schedule (with_group done g) x
            ≡ true
        there x h = elim (one-true (among x g) (executed_in local schedule done x) h) [
          | inl here ↦ any-in (λ i. with_group done g i && among x i) all g (in-range 0 (length schedule.groups) g (omega arith)
              (omega arith))
              (true-both (with_group done g g) (among x g) (true-first (g == g) (done g) (eq-eqb g g refl)) here)
          | inr before ↦
              let some = any-of (λ i. done i && among x i) all before in
              let parts = both-true (done some.0) (among x some.0) some.2 in
              any-in (λ i. with_group done g i && among x i) all some.0 some.1
              (true-both (with_group done g some.0) (among x some.0) (true-second (some.0 == g) (done some.0) parts.0) parts.1)
        ]

        back : (x : Node) → executed_in local schedule (with_group done g) x ≡ true → (among x g || executed_in local schedule done x)
            ≡ true
        back x h =
            let some = any-of (λ i. with_group done g i && among x i) all h in
            let parts = both-true (with_group done g some.0) (among x some.0) some.2 in
            elim (one-true (some.0 == g) (done some.0) parts.0) [
              | inl same ↦ true-first (among x g) (executed_in local schedule done x) (ap (among x) (sym (eqb-true some.0 g same))
                  ∙ parts.1)
              | inr before ↦ true-second (among x g) (executed_in local schedule done x)
                  (any-in (λ i. done i && among x i) all some.0 some.1 (true-both (done some.0) (among x some.0) before parts.1))
            ]

        same : (x : Node) → (among x g || executed_in local schedule done x) ≡ executed_in local schedule (with_group done g) x
        same x = same-test (among x g || executed_in local schedule done x) (executed_in local schedule (with_group done g) x) (there x)
            (back x)

    -- the nodes that called functions hold are those of the groups that they call
    pub called-executed : (profile : SystemProfile) (called : ℕ → Bool) → HasGroups profile schedule →
        executed_by (own_header local profile) (held local schedule) called ≡ executed_in local schedule (done_by schedule called)
    called-executed profile called has = fun_ext (λ x. same-test
        (executed_by (own_header local profile) (held local schedule) called x) (executed_in local schedule (done_by schedule called) x)
        (there x) (back x))
      where
        functions : List ℕ
        functions = range_with_len 1 (length profile.functions)

        others : List ℕ
        others = range_with_len 1 (length schedule.functions)

        all : List ℕ
        all = range_with_len 0 (length schedule.groups)

        among : Node → ℕ → Bool
        among x g = is_among local (group_nodes schedule g) x

        -- a group that has code is one
        within : (g : ℕ) → g < length (code_groups schedule) → Contains all g
        within g below =
            (of-filter (λ i. has_some (group_nodes schedule i)) all g
            (subst (λ gs. Contains gs g) (sym has.first) (in-range 0 (length (code_groups schedule)) g (omega arith)
            (omega (arith, below))))).0

        there : (x : Node) → executed_by (own_header local profile) (held local schedule) called x ≡ true →
            executed_in local schedule (done_by schedule called) x ≡ true
        there x h =
            let j = any-of (λ j. called j && held local schedule j x) functions h in
            let parts = both-true (called j.0) (held local schedule j.0 x) j.2 in
            let g = any-of (among x) (called_groups schedule j.0) parts.1 in
            let range = of-range 1 (length profile.functions) j.0 j.1 in
            any-in (λ g. done_by schedule called g && among x g) all g.0
            (within g.0 (has.called j.0 g.0 (omega (arith, range.0)) (omega (arith, range.1)) g.1))
            (true-both (done_by schedule called g.0) (among x g.0)
            (any-in (λ j. called j && calls_group schedule j g.0) others j.0
            (subst (λ n. Contains (range_with_len 1 n) j.0) (sym has.functions) j.1)
            (true-both (called j.0) (calls_group schedule j.0 g.0) parts.0
            (any-in (λ i. i == g.0) (called_groups schedule j.0) g.0 g.1 (eq-eqb g.0 g.0 refl)))) g.2)

        back : (x : Node) → executed_in local schedule (done_by schedule called) x ≡ true →
            executed_by (own_header local profile) (held local schedule) called x ≡ true
        back x h =
            let g = any-of (λ g. done_by schedule called g && among x g) all h in
            let parts = both-true (done_by schedule called g.0) (among x g.0) g.2 in
            let j = any-of (λ j. called j && calls_group schedule j g.0) others parts.0 in
            let calls = both-true (called j.0) (calls_group schedule j.0 g.0) j.2 in
            let i = any-of (λ i. i == g.0) (called_groups schedule j.0) calls.1 in
            any-in (λ j. called j && held local schedule j x) functions j.0
            (subst (λ n. Contains (range_with_len 1 n) j.0) has.functions j.1)
            (true-both (called j.0) (held local schedule j.0 x) calls.0
            (any-in (among x) (called_groups schedule j.0) i.0 i.1 (ap (among x) (eqb-true i.0 g.0 i.2) ∙ parts.1)))

-- ---- Counters

module _ (schedule : SystemSchedule) where
  pub count-counts : (done : ℕ → Bool) → IsCounting (count_in schedule done)
  count-counts done name = by (list_any (λ g. done g && bytes_eq (counter_name (suc g)) name) (shared_groups schedule))
    where
      by : (t : Bool) → ((if t then pos 1 else pos 0) ≡ pos 0) ⊎ ((if t then pos 1 else pos 0) ≡ pos 1)
      by true = inr refl
      by false = inl refl

  count-same : (done other : ℕ → Bool) (name : List ℕ) →
      ((g : ℕ) → Contains (shared_groups schedule) g → bytes_eq (counter_name (suc g)) name ≡ true → done g ≡ other g) →
      count_in schedule done name ≡ count_in schedule other name
  count-same done other name same =
      ap (λ t. if t then pos 1 else pos 0)
      (any-same (λ g. done g && bytes_eq (counter_name (suc g)) name) (λ g. other g && bytes_eq (counter_name (suc g)) name)
      (shared_groups schedule) (λ g h. by g h (bytes_eq (counter_name (suc g)) name) refl))
    where
      by : (g : ℕ) → Contains (shared_groups schedule) g → (t : Bool) → bytes_eq (counter_name (suc g)) name ≡ t → (done g && t)
          ≡ (other g && t)
      by g h true e = ap (λ d. d && true) (same g h e)
      by g h false e = never (done g) ∙ sym (never (other g))
        where
          never : (d : Bool) → (d && false) ≡ false
          never true = refl
          never false = refl

  -- a group without a counter changes none
  pub count-unshared : (done : ℕ → Bool) (g : ℕ) → (Contains (shared_groups schedule) g → ⊥) →
      count_in schedule (with_group done g) ≡ count_in schedule done
  count-unshared done g none = fun_ext (λ name. count-same (with_group done g) done name (λ i h e. by i h (i == g) refl))
    where
      by : (i : ℕ) → Contains (shared_groups schedule) i → (t : Bool) → (i == g) ≡ t → (t || done i) ≡ done i
      by i h true e = absurd (none (subst (Contains (shared_groups schedule)) (eqb-true i g e) h))
      by i h false e = refl

  -- nor does one that was executed
  pub count-again : (done : ℕ → Bool) (g : ℕ) → done g ≡ true → with_group done g ≡ done
  count-again done g is = fun_ext (λ i. by i (i == g) refl)
    where
      by : (i : ℕ) → (t : Bool) → (i == g) ≡ t → (t || done i) ≡ done i
      by i true e = sym (ap done (eqb-true i g e) ∙ is)
      by i false e = refl

  pub count-done : (done : ℕ → Bool) (g : ℕ) → Contains (shared_groups schedule) g → done g ≡ true →
      count_in schedule done (counter_name (suc g)) ≡ pos 1
  count-done done g shared is =
      ap (λ t. if t then pos 1 else pos 0)
      (any-in (λ i. done i && bytes_eq (counter_name (suc i)) (counter_name (suc g))) (shared_groups schedule) g shared
      (true-both (done g) (bytes_eq (counter_name (suc g)) (counter_name (suc g))) is
      ((bytes_eq-Decides (counter_name (suc g)) (counter_name (suc g))).1 refl)))

  module _ (local : LocalSystem) (places : HasFieldPlaces local schedule) where
    -- of two groups with counters of one name there is one
    same-group : (g i : ℕ) → Contains (shared_groups schedule) g → Contains (shared_groups schedule) i →
        bytes_eq (counter_name (suc g)) (counter_name (suc i)) ≡ true → g ≡ i
    same-group g i one two same =
        let a = at-in (shared_groups schedule) g one in
        let b = at-in (shared_groups schedule) i two in
        same_Some g i (sym a.1 ∙ ap (slice_get (shared_groups schedule)) (places.counters_differ a.0 b.0 g i a.1 b.1 same) ∙ b.1)

    pub count-not-done : (done : ℕ → Bool) (g : ℕ) → Contains (shared_groups schedule) g → done g ≡ false →
        count_in schedule done (counter_name (suc g)) ≡ pos 0
    count-not-done done g shared is =
        ap (λ t. if t then pos 1 else pos 0)
        (not-true (list_any (λ i. done i && bytes_eq (counter_name (suc i)) (counter_name (suc g))) (shared_groups schedule))
        (λ h.
        let some = any-of (λ i. done i && bytes_eq (counter_name (suc i)) (counter_name (suc g))) (shared_groups schedule) h in
        let parts = both-true (done some.0) (bytes_eq (counter_name (suc some.0)) (counter_name (suc g))) some.2 in
        true-false (done g) (ap done (sym (same-group some.0 g some.1 shared parts.1)) ∙ parts.0) is))

    -- another counter stays
    pub count-other : (done : ℕ → Bool) (g i : ℕ) → Contains (shared_groups schedule) g → Contains (shared_groups schedule) i →
        (i ≡ g → ⊥) →
        count_in schedule (with_group done g) (counter_name (suc i)) ≡ count_in schedule done (counter_name (suc i))
    count-other done g i one two apart =
        count-same (with_group done g) done (counter_name (suc i)) (λ k h e. by k (same-group k i h two e) (k == g) refl)
      where
        by : (k : ℕ) → k ≡ i → (t : Bool) → (k == g) ≡ t → (t || done k) ≡ done k
        by k same true e = absurd (apart (sym same ∙ eqb-true k g e))
        by k same false e = refl

-- ---- Functions

-- the groups that were executed after one function more
pub function-more : (profile : SystemProfile) (schedule : SystemSchedule) (called : ℕ → Bool) (j g : ℕ) → HasGroups profile schedule →
    0 < j →
    j ≤ length profile.functions →
    done_by schedule (with_called called j) g ≡ (calls_group schedule j g || done_by schedule called g)
function-more profile schedule called j g has some most =
    same-test (done_by schedule (with_called called j) g) (calls_group schedule j g || done_by schedule called g) there back
  where
    functions : List ℕ
    functions = range_with_len 1 (length schedule.functions)

    there : done_by schedule (with_called called j) g ≡ true → (calls_group schedule j g || done_by schedule called g) ≡ true
    there h =
        let i = any-of (λ i. with_called called j i && calls_group schedule i g) functions h in
        let parts = both-true (with_called called j i.0) (calls_group schedule i.0 g) i.2 in
        elim (one-true (i.0 == j) (called i.0) parts.0) [
          | inl same ↦ true-first (calls_group schedule j g) (done_by schedule called g)
              (ap (λ k. calls_group schedule k g) (sym (eqb-true i.0 j same)) ∙ parts.1)
          | inr before ↦ true-second (calls_group schedule j g) (done_by schedule called g)
              (any-in (λ i. called i && calls_group schedule i g) functions i.0 i.1
              (true-both (called i.0) (calls_group schedule i.0 g) before parts.1))
        ]

    back : (calls_group schedule j g || done_by schedule called g) ≡ true → done_by schedule (with_called called j) g ≡ true
    back h = elim (one-true (calls_group schedule j g) (done_by schedule called g) h) [
      | inl calls ↦ any-in (λ i. with_called called j i && calls_group schedule i g) functions j
          (subst (λ n. Contains (range_with_len 1 n) j) (sym has.functions) (in-range 1 (length profile.functions) j (omega (arith, some))
          (omega (arith, most))))
          (true-both (with_called called j j) (calls_group schedule j g) (true-first (j == j) (called j) (eq-eqb j j refl)) calls)
      | inr before ↦
          let i = any-of (λ i. called i && calls_group schedule i g) functions before in
          let parts = both-true (called i.0) (calls_group schedule i.0 g) i.2 in
          any-in (λ i. with_called called j i && calls_group schedule i g) functions i.0 i.1
          (true-both (with_called called j i.0) (calls_group schedule i.0 g) (true-second (i.0 == j) (called i.0) parts.0) parts.1)
    ]
