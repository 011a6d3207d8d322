-- Which calls on children are executed, and what is left of them.
use Rattle.std.specs.Prelude.{◌≡◌, ◌⊎◌, ℕ, ◌<◌, ◌≤◌, Bool, true, false, not, ◌&&◌, ◌==◌, List, ◌++◌, map, flat_map, length, slice_get, Contains, IsPermutation, Option, Some, None, refl}
use Rattle.std.specs.List.{range_with_len}
use Rattle.std.proofs.Common.{sym, ap, subst, ◌∙◌, arith, inl, inr, true≢false}
use Rattle.std.proofs.Math.Path.{fun_ext}
use Rattle.std.proofs.lemmas.Bool.{cases_lt, and_parts, and_from, and_right, or_right}
use Rattle.std.proofs.lemmas.Option.{same_Some}
use Rattle.std.proofs.lemmas.List.Elements.{Contains-append_cases}
use Rattle.std.proofs.lemmas.List.Sorted.{Contains-permutation, IsPermutation-sym}
use Rattle.modules_profile.specs.declared.ChildUse.{ChildUse}
use Rattle.modules_profile.specs.declared.LocalRow.{LocalRow}
use Rattle.modules_profile.specs.declared.Node.{Node}
use Rattle.modules_profile.specs.declared.Node.TheVariants.{Row, Call}
use Rattle.modules_profile.specs.LocalSystem.{LocalSystem}
use Rattle.modules_profile.specs.SystemHeader.{SystemHeader}
use Rattle.modules_profile.specs.Headers.{header_functions}
use Rattle.modules_profile.specs.LawfulLocals.{IsLocal}
use Rattle.modules_profile.specs.LocalNodes.{calls_of, call_nodes, node_list}
use Rattle.modules_profile.proofs.lemmas.Members.{in-none, of-map, of-filter, in-filter, in-range, of-range, at-in, in-at, at-map, map-at, number-of}
use Rattle.modules_profile.proofs.lemmas.OwnRows.{differ-at, of-flat_map}
use Rattle.right_relation.specs.LocalTicks.{LocalTick}
use Rattle.right_relation.specs.Instances.{out, update, none_called, with_called}
use Rattle.right_relation.specs.Accounts.{newly_executed, newly_called}
use Rattle.right_relation.specs.Standing.{AreHeld, executed_by, is_call_executed, called_in}
use Rattle.right_program_costs.proofs.ActRows.{after_all, after-calls}
use Rattle.right_program_costs.proofs.SplitLists.{Splits, split, all-kept, any-more, any-never}

-- ---- Nodes that called functions hold

module _ (h : SystemHeader) (held : ℕ → Node → Bool) where
  abbrev functions : List ℕ
  functions = range_with_len 1 (length (header_functions h))

  pub executed-more : (called : ℕ → Bool) (j : ℕ) (x : Node) → executed_by h held called x ≡ true →
      executed_by h held (with_called called j) x ≡ true
  executed-more called j x is = any-more (λ i. called i && held i x) (λ i. with_called called j i && held i x) functions
      (λ i both. let parts = and_parts (called i) (held i x) both in
      and_from (with_called called j i) (held i x) (or-right (i) parts.0) parts.1) is
    where
      or-right : (i : ℕ) → called i ≡ true → with_called called j i ≡ true
      or-right i is = or_right (i == j) (called i) is

  pub executed-none : (x : Node) → executed_by h held none_called x ≡ false
  executed-none x = any-never (λ i. none_called i && held i x) functions (λ i. refl)

  pub executed-never : (called : ℕ → Bool) (x : Node) → ((i : ℕ) → held i x ≡ false) → executed_by h held called x ≡ false
  executed-never called x never = any-never (λ i. called i && held i x) functions (λ i. and_right (called i) (held i x) (never i))

-- ---- Children

module _ (local : LocalSystem) (lawful : IsLocal local) where
  -- a child has a row
  pub child-row : (k : ℕ) (u : ChildUse) → slice_get local.children k ≡ Some u →
      (e : ℕ) × Contains lawful.numbers e × (u.header.row ≡ Some e)
  child-row k u at = number-of (λ (w : ChildUse). w.header.row) local.children lawful.numbers u lawful.have_numbers
      (in-at local.children k u at)

  child-number : (k e : ℕ) (u : ChildUse) → slice_get local.children k ≡ Some u → u.header.row ≡ Some e →
      slice_get lawful.numbers k ≡ Some e
  child-number k e u at row =
      let there = at-map (λ (w : ChildUse). w.header.row) local.children k u at ∙ ap Some row in
      let n = map-at Some lawful.numbers k (Some e) (ap (λ os. slice_get os k) (sym lawful.have_numbers) ∙ there) in
      n.1 ∙ n.2

  one-child-use : (k i e : ℕ) (u w : ChildUse) → slice_get local.children k ≡ Some u → slice_get local.children i ≡ Some w →
      u.header.row ≡ Some e → w.header.row ≡ Some e → w ≡ u
  one-child-use k i e u w at to row row_w =
      let place = differ-at lawful.numbers k i e lawful.children_differ (child-number k e u at row) (child-number i e w to row_w) in
      same_Some w u (sym to ∙ ap (slice_get local.children) (sym place) ∙ at)

  -- a call that is a node is that of a function of a child
  call-is : (k e j : ℕ) (u : ChildUse) → slice_get local.children k ≡ Some u → u.header.row ≡ Some e →
      Contains (node_list local) (Call e j) →
      (0 < j) × (j ≤ length (header_functions u.header))
  call-is k e j u at row has = elim (Contains-append_cases (map (λ (r : LocalRow). Row r.row) local.rows)
      (flat_map call_nodes local.children) (Call e j) has) [
        | inl own ↦ let m = of-map (λ (r : LocalRow). Row r.row) local.rows (Call e j) own in absurd (let wrong : ⊥ = cc m.2 in wrong)
        | inr call ↦
            let m = of-flat_map call_nodes local.children (Call e j) call in
            let to = at-in local.children m.0 m.1 in
            by m.0 to.0 to.1 m.0.header.row refl m.2
      ]
    where
      by : (w : ChildUse) (i : ℕ) → slice_get local.children i ≡ Some w → (o : Option ℕ) → w.header.row ≡ o →
          Contains (calls_of o (length (header_functions w.header))) (Call e j) → (0 < j) × (j ≤ length (header_functions u.header))
      by w i to None is none = absurd (in-none (Call e j) none)
      by w i to (Some d) is among =
          let m = of-map (Call d) (range_with_len 1 (length (header_functions w.header))) (Call e j) among in
          let row_same : d ≡ e = cc m.2 in
          let function : m.0 ≡ j = cc m.2 in
          let range = of-range 1 (length (header_functions w.header)) m.0 m.1 in
          let one = one-child-use k i e u w at to row (is ∙ ap Some row_same) in
          let low = range.0 in
          let high = range.1 in
          subst (λ (z : ChildUse). (0 < j) × (j ≤ length (header_functions z.header))) one
          (omega (arith, low, function), omega (arith, high, function))

  module _ (h : SystemHeader) (held : ℕ → Node → Bool) (are_held : AreHeld local h held) (m : LocalTick)
      (k e : ℕ) (u : ChildUse) (at : slice_get local.children k ≡ Some u) (row : u.header.row ≡ Some e) where
    abbrev count : ℕ
    count = length (header_functions u.header)

    -- whether a call of the child is executed
    abbrev is-executed : (ℕ → Bool) → ℕ → Bool
    is-executed called i = executed_by h held called (Call e i)

    call-there : (executed : Node → Bool) → is_call_executed u.header.row executed ≡ (λ i. executed (Call e i))
    call-there executed = ap (λ o. is_call_executed o executed) row

    pub called-is : (executed : Node → Bool) (i : ℕ) → called_in true executed u i ≡ executed (Call e i)
    called-is executed i = ap (λ (f : ℕ → Bool). f i) (call-there executed)

    no-function : (called : ℕ → Bool) (i : ℕ) → ((0 < i) × (i ≤ count) → ⊥) → is-executed called i ≡ false
    no-function called i none = executed-never h held called (Call e i)
        (λ j. are_held.others j (Call e i) (λ has. none (call-is k e i u at row has)))

    executed-function : (called : ℕ → Bool) (i : ℕ) → is-executed called i ≡ true → (0 < i) × (i ≤ count)
    executed-function called i is = by (cases_lt 0 i) (cases_lt count i)
      where
        by : (0 < i) ⊎ (i ≤ 0) → (count < i) ⊎ (i ≤ count) → (0 < i) × (i ≤ count)
        by (inl low) (inr high) = (low, high)
        by (inr low) high = absurd (true≢false (sym is ∙ no-function called i (λ both. let some = both.0 in omega (arith, some, low))))
        by (inl low) (inl high) = absurd
            (true≢false (sym is ∙ no-function called i (λ both. let most = both.1 in omega (arith, most, high))))

    -- what is left after a call of function j, and what it calls, is what was left before
    pub left-splits : (called : ℕ → Bool) (j : ℕ) →
        IsPermutation (newly_called local h held m called update u)
        (newly_called local h held m called (out j) u ++ newly_called local h held m (with_called called j) update u)
    left-splits called j =
        split (called_in true (newly_executed local h held m called update) u)
        (called_in true (newly_executed local h held m called (out j)) u)
        (called_in true (newly_executed local h held m (with_called called j) update) u) (range_with_len 1 count) each
      where
        cases : (s t : Bool) → (s ≡ true → t ≡ true) → Splits (not s) (t && not s) (not t)
        cases true true more = inl (refl, refl, refl)
        cases true false more = absurd (true≢false (sym (more refl)))
        cases false true more = inr (inl (refl, refl, refl))
        cases false false more = inr (inr (refl, refl, refl))

        each : (i : ℕ) → Splits (called_in true (newly_executed local h held m called update) u i)
            (called_in true (newly_executed local h held m called (out j)) u i)
            (called_in true (newly_executed local h held m (with_called called j) update) u i)
        each i =
            subst (λ (t : Bool). Splits t (called_in true (newly_executed local h held m called (out j)) u i)
            (called_in true (newly_executed local h held m (with_called called j) update) u i))
            (sym (called-is (newly_executed local h held m called update) i))
            (subst (λ (t : Bool). Splits (newly_executed local h held m called update (Call e i)) t
            (called_in true (newly_executed local h held m (with_called called j) update) u i))
            (sym (called-is (newly_executed local h held m called (out j)) i))
            (subst (λ (t : Bool). Splits (newly_executed local h held m called update (Call e i))
            (newly_executed local h held m called (out j) (Call e i)) t)
            (sym (called-is (newly_executed local h held m (with_called called j) update) i))
            (cases (is-executed called i) (is-executed (with_called called j) i) (executed-more h held called j (Call e i)))))

    -- before any call all functions are left
    pub all-left : newly_called local h held m none_called update u ≡ range_with_len 1 count
    all-left = all-kept (called_in true (newly_executed local h held m none_called update) u) (range_with_len 1 count)
        (λ i. called-is (newly_executed local h held m none_called update) i ∙ ap not (executed-none h held (Call e i)))

    -- after the calls of a function's nodes those are called
    pub called-behind : (called : ℕ → Bool) (j : ℕ) (fs : List ℕ) → IsPermutation (newly_called local h held m called (out j) u) fs →
        after_all (called_in true (executed_by h held called) u) (map out fs) ≡ called_in true (executed_by h held (with_called called j)) u
    called-behind called j fs order = fun_ext
        (λ i. after-calls fs (called_in true (executed_by h held called) u)
        (called_in true (executed_by h held (with_called called j)) u) i (new i) (kept i) (which i))
      where
        new : (i : ℕ) → Contains fs i → called_in true (executed_by h held (with_called called j)) u i ≡ true
        new i has =
            let newly = of-filter (called_in true (newly_executed local h held m called (out j)) u) (range_with_len 1 count) i
            (Contains-permutation fs (newly_called local h held m called (out j) u) i
            (IsPermutation-sym (newly_called local h held m called (out j) u) fs order) has) in
            called-is (executed_by h held (with_called called j)) i
            ∙ (and_parts (is-executed (with_called called j) i) (not (is-executed called i))
            (sym (called-is (newly_executed local h held m called (out j)) i) ∙ newly.1)).0

        kept : (i : ℕ) → called_in true (executed_by h held called) u i ≡ true →
            called_in true (executed_by h held (with_called called j)) u i ≡ true
        kept i is = called-is (executed_by h held (with_called called j)) i
            ∙ executed-more h held called j (Call e i) (sym (called-is (executed_by h held called) i) ∙ is)

        which : (i : ℕ) → called_in true (executed_by h held (with_called called j)) u i ≡ true →
            (called_in true (executed_by h held called) u i ≡ true) ⊎ Contains fs i
        which i is = by (is-executed called i) refl
          where
            by : (t : Bool) → is-executed called i ≡ t → (called_in true (executed_by h held called) u i ≡ true) ⊎ Contains fs i
            by true was = inl (called-is (executed_by h held called) i ∙ was)
            by false fresh =
                let now = sym (called-is (executed_by h held (with_called called j)) i) ∙ is in
                let range = executed-function (with_called called j) i now in
                let low = range.0 in
                let high = range.1 in
                let passes : called_in true (newly_executed local h held m called (out j)) u i
                ≡ true = called-is (newly_executed local h held m called (out j)) i
                ∙ and_from (is-executed (with_called called j) i) (not (is-executed called i)) now (ap not fresh) in
                inr (Contains-permutation (newly_called local h held m called (out j) u) fs i order
                (in-filter (called_in true (newly_executed local h held m called (out j)) u) (range_with_len 1 count) i
                (in-range 1 count i (omega arith) (omega arith)) passes))

    -- before any call no function of a child is called
    pub none-called : (active : Bool) → called_in active (executed_by h held none_called) u ≡ none_called
    none-called true = fun_ext (λ i. called-is (executed_by h held none_called) i ∙ executed-none h held (Call e i))
    none-called false = refl
