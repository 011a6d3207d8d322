-- What accounts do to children, from which functions of each on: what the children add.
use Rattle.std.specs.Prelude.{◌≡◌, ◌⊎◌, ℕ, zero, suc, ◌+◌, ◌<◌, ◌≤◌, Bool, ◌==◌, if◌then◌else◌, List, [], ◌∷◌, ◌++◌, map, length, sum_by, slice_get, Contains, Some, refl}
use Rattle.std.specs.List.{enumerate_from}
use Rattle.std.proofs.Common.{sym, ap, subst, ◌∙◌, arith, inl, inr, add-zero}
use Rattle.std.proofs.lemmas.Bool.{cases_eq, eq-eqb, ne_eqb}
use Rattle.std.proofs.lemmas.List.{append-nil, append_assoc}
use Rattle.std.proofs.lemmas.List.Elements.{filter_map-append}
use Rattle.std.proofs.lemmas.List.Sums.{sum_by-cons}
use Rattle.std.proofs.lemmas.Option.{same_Some, none-some}
use Rattle.modules_profile.specs.declared.local.ChildUse.{ChildUse}
use Rattle.modules_profile.specs.LocalSystem.{LocalSystem}
use Rattle.modules_profile.proofs.lemmas.Members.{in-first, in-rest, of-enumerate, at-below}
use Rattle.modules_schedule.specs.SystemSchedule.{SystemSchedule}
use Rattle.c_semantics.specs.Machine.{LoggedCall, call_under}
use Rattle.emit_shape.specs.Slots.{Slot, instance}
use Rattle.right_relation.specs.Accounts.{log_along, most_along, stored_along}
use Rattle.right_relation.specs.Instances.{Act, called_after, InstanceTick, instance_at, call_inside, calls_inside}
use Rattle.emit_system_spec.specs.Fields.{child_field, code_slots}
use Rattle.right_system_ticks.specs.CodeAccounts.{Account, nothing_done, stores, calls_child, and_then, all_of}
use Rattle.right_system_ticks.specs.PlaceLaws.{HasFieldPlaces}
use Rattle.right_system_ticks.proofs.Tests.{if-not, if-yes}

-- ---- Acts one after another

abbrev pub after_all : (ℕ → Bool) → List Act → ℕ → Bool
after_all called [] = called
after_all called (a ∷ acts) = after_all (called_after called a) acts

after-append : (called : ℕ → Bool) (xs ys : List Act) → after_all called (xs ++ ys) ≡ after_all (after_all called xs) ys
after-append called [] ys = refl
after-append called (x ∷ xs) ys = after-append (called_after called x) xs ys

module _ (i : InstanceTick) where
  log-append : (called : ℕ → Bool) (xs ys : List Act) → log_along i called (xs ++ ys)
      ≡ log_along i called xs ++ log_along i (after_all called xs) ys
  log-append called [] ys = refl
  log-append called (x ∷ xs) ys =
      ap (λ l. i.log called x ++ l) (log-append (called_after called x) xs ys)
      ∙ sym (append_assoc (i.log called x) (log_along i (called_after called x) xs) (log_along i (after_all (called_after called x) xs) ys))

  most-append : (called : ℕ → Bool) (xs ys : List Act) →
      most_along i called (xs ++ ys) ≡ most_along i called xs + most_along i (after_all called xs) ys
  most-append called [] ys = omega arith
  most-append called (x ∷ xs) ys = let rest = most-append (called_after called x) xs ys in omega (arith, rest)

  stored-append : (called : ℕ → Bool) (xs ys : List Act) (path : List ℕ) (field : ℕ) →
      stored_along i called (xs ++ ys) path field ≡ stored_along i called xs path field + stored_along i (after_all called xs) ys path field
  stored-append called [] ys path field = omega arith
  stored-append called (x ∷ xs) ys path field = let rest = stored-append (called_after called x) xs ys path field in omega (arith, rest)

-- ---- Sums over children

sums-add : {A : Type 0} (f g h : A → ℕ) (xs : List A) → ((x : A) → Contains xs x → h x ≡ f x + g x) →
    sum_by h xs ≡ sum_by f xs + sum_by g xs
sums-add f g h [] each = refl
sums-add f g h (x ∷ xs) each =
    let one = sum_by-cons f x xs in
    let two = sum_by-cons g x xs in
    let both = sum_by-cons h x xs in
    let here = each x (in-first x xs) in
    let rest = sums-add f g h xs (λ y m. each y (in-rest x y xs m)) in
    omega (arith, one, two, both, here, rest)

sum-none : {A : Type 0} (f : A → ℕ) (xs : List A) → ((x : A) → Contains xs x → f x ≡ 0) → sum_by f xs ≡ 0
sum-none f [] each = refl
sum-none f (x ∷ xs) each =
    let step = sum_by-cons f x xs in
    let here = each x (in-first x xs) in
    let rest = sum-none f xs (λ y m. each y (in-rest x y xs m)) in
    omega (arith, step, here, rest)

-- all but one are nothing
sum-one : {A : Type 0} (f : ℕ × A → ℕ) (a i : ℕ) (xs : List A) (x : A) → slice_get xs i ≡ Some x →
    ((e : ℕ × A) → Contains (enumerate_from a xs) e → (e.0 ≡ a + i → ⊥) → f e ≡ 0) → sum_by f (enumerate_from a xs) ≡ f (a + i, x)
sum-one f a i [] x at others = absurd (none-some x at)
sum-one {A} f a zero (y ∷ xs) x at others =
    let step = sum_by-cons f (a, y) (enumerate_from (a + 1) xs) in
    let rest = sum-none f (enumerate_from (a + 1) xs) (λ e m. others e (in-rest (a, y) e (enumerate_from (a + 1) xs) m) (λ same.
    let low = (of-enumerate (a + 1) xs e m).1 in omega (arith, low, same))) in
    let here : f (a, y) ≡ f (a + 0, x) = λ i. f (let e : a ≡ a + 0 = omega arith in e i, same_Some y x at i) in
    omega (arith, step, rest, here)
sum-one {A} f a (suc i) (y ∷ xs) x at others =
    let step = sum_by-cons f (a, y) (enumerate_from (a + 1) xs) in
    let first = others (a, y) (in-first (a, y) (enumerate_from (a + 1) xs))
    (λ same. let wrong : a ≡ a + suc i = same in omega (arith, wrong)) in
    let rest = sum-one f (a + 1) i xs x at (λ e m apart. others e (in-rest (a, y) e (enumerate_from (a + 1) xs) m) (λ same.
    apart (same ∙ (let e : a + suc i ≡ a + 1 + i = omega arith in e)))) in
    let here : f (a + 1 + i, x) ≡ f (a + suc i, x) = ap (λ k. f (k, x)) (let e : a + 1 + i ≡ a + suc i = omega arith in e) in
    omega (arith, step, first, rest, here)

-- ---- Logs of a child

seen-inside : (f : ℕ) (log : List LoggedCall) → calls_inside f (map (call_under f) log) ≡ log
seen-inside f [] = refl
seen-inside f (c ∷ log) = rw (eq-eqb f f refl) (ap (λ l. c ∷ l) (seen-inside f log))

not-inside : (f g : ℕ) (log : List LoggedCall) → (f ≡ g → ⊥) → calls_inside f (map (call_under g) log) ≡ []
not-inside f g [] apart = refl
not-inside f g (c ∷ log) apart = rw (ne_eqb f g apart) (not-inside f g log apart)

-- ---- Accounts that lead from these functions of children to those

-- for each child, by place, the functions that were called
abbrev pub Functions : Type 0
Functions = ℕ → ChildUse → ℕ → Bool

module _ (local : LocalSystem) (schedule : SystemSchedule) (children : List InstanceTick) (places : HasFieldPlaces local schedule) where
  abbrev pub slots : List Slot
  slots = code_slots local schedule

  abbrev pub inner_at : ℕ → InstanceTick
  inner_at k = instance_at children k

  abbrev pub all_children : List (ℕ × ChildUse)
  all_children = enumerate_from 0 local.children

  pub record Goes (before after : Functions) (a : Account) : Type 0 where
    pub ends : (k : ℕ) (u : ChildUse) → slice_get local.children k ≡ Some u → after_all (before k u) (a.acts k) ≡ after k u
    pub inner : a.inner ≡ sum_by (λ (e : ℕ × ChildUse). most_along (inner_at e.0) (before e.0 e.1) (a.acts e.0)) all_children
    pub log : (f k : ℕ) (u : ChildUse) → slice_get slots f ≡ Some (instance k u) →
        calls_inside f a.log ≡ log_along (inner_at k) (before k u) (a.acts k)
    pub no_other_log : (f : ℕ) → ((k : ℕ) (u : ChildUse) → slice_get slots f ≡ Some (instance k u) → ⊥) → calls_inside f a.log ≡ []
    pub stored : (f k : ℕ) (u : ChildUse) (path : List ℕ) (field : ℕ) → slice_get slots f ≡ Some (instance k u) →
        a.stored (f ∷ path) field ≤ stored_along (inner_at k) (before k u) (a.acts k) path field

  child-at : (e : ℕ × ChildUse) → Contains all_children e → slice_get local.children e.0 ≡ Some e.1
  child-at e h =
      let k = of-enumerate 0 local.children e h in
      ap (slice_get local.children) (let same : e.0 ≡ k.0 = (let p = k.1 in omega (arith, p)) in same) ∙ k.2

  pub goes-then : (b c d : Functions) (x y : Account) → Goes b c x → Goes c d y → Goes b d (and_then x y)
  goes-then b c d x y one two = record {
    ends = λ k u at. after-append (b k u) (x.acts k) (y.acts k) ∙ ap (λ called. after_all called (y.acts k)) (one.ends k u at)
        ∙ two.ends k u at;
    inner =
        let sum = sums-add (λ (e : ℕ × ChildUse). most_along (inner_at e.0) (b e.0 e.1) (x.acts e.0))
        (λ (e : ℕ × ChildUse). most_along (inner_at e.0) (c e.0 e.1) (y.acts e.0))
        (λ (e : ℕ × ChildUse). most_along (inner_at e.0) (b e.0 e.1) (x.acts e.0 ++ y.acts e.0)) all_children
        (λ e h. most-append (inner_at e.0) (b e.0 e.1) (x.acts e.0) (y.acts e.0)
        ∙ ap (λ called. most_along (inner_at e.0) (b e.0 e.1) (x.acts e.0) + most_along (inner_at e.0) called (y.acts e.0))
        (one.ends e.0 e.1 (child-at e h))) in
        let first = one.inner in
        let second = two.inner in
        omega (arith, sum, first, second);
    log = λ f k u at.
        filter_map-append (call_inside f) x.log y.log
        ∙ ap (λ l. l ++ calls_inside f y.log) (one.log f k u at)
        ∙ ap (λ l. log_along (inner_at k) (b k u) (x.acts k) ++ l)
        (two.log f k u at ∙ ap (λ called. log_along (inner_at k) called (y.acts k)) (sym (one.ends k u (places.each f (instance k u) at))))
        ∙ sym (log-append (inner_at k) (b k u) (x.acts k) (y.acts k));
    no_other_log = λ f none.
        filter_map-append (call_inside f) x.log y.log
        ∙ ap (λ l. l ++ calls_inside f y.log) (one.no_other_log f none) ∙ two.no_other_log f none;
    stored = λ f k u path field at.
        let first = one.stored f k u path field at in
        let second = two.stored f k u path field at in
        let both = stored-append (inner_at k) (b k u) (x.acts k) (y.acts k) path field in
        let same = ap (λ called. stored_along (inner_at k) called (y.acts k) path field) (one.ends k u (places.each f (instance k u) at)) in
        omega (arith, first, second, both, same);
  }

  pub goes-to : (b c d : Functions) (x : Account) → ((k : ℕ) (u : ChildUse) → slice_get local.children k ≡ Some u → c k u ≡ d k u) →
      Goes b c x → Goes b d x
  goes-to b c d x same one = record {
    ends = λ k u at. one.ends k u at ∙ same k u at;
    inner = one.inner;
    log = one.log;
    no_other_log = one.no_other_log;
    stored = one.stored;
  }

  -- what is done to no child
  pub goes-stores : (b : Functions) (n : ℕ) (stored : List ℕ → ℕ → ℕ) →
      ((f : ℕ) (path : List ℕ) (field : ℕ) → stored (f ∷ path) field ≡ 0) →
      Goes b b (stores n stored)
  goes-stores b n stored none = record {
    ends = λ k u at. refl;
    inner = sym (sum-none (λ (e : ℕ × ChildUse). 0) all_children (λ e h. refl));
    log = λ f k u at. refl;
    no_other_log = λ f apart. refl;
    stored = λ f k u path field at. let nothing = none f path field in omega (arith, nothing);
  }

  -- the call of a procedure of a child
  module _ (n k : ℕ) (u : ChildUse) (at : slice_get local.children k ≡ Some u) (b d : Functions) (act : Act)
      (here : called_after (b k u) act ≡ d k u)
      (others : (i : ℕ) (v : ChildUse) → slice_get local.children i ≡ Some v → (i ≡ k → ⊥) → b i v ≡ d i v) where
    abbrev account : Account
    account = calls_child n (child_field local k) k (inner_at k) (b k u) act

    acts-here : (i : ℕ) → i ≡ k → account.acts i ≡ act ∷ []
    acts-here i same = if-yes (i == k) (act ∷ []) [] (eq-eqb i k same)

    acts-there : (i : ℕ) → (i ≡ k → ⊥) → account.acts i ≡ []
    acts-there i apart = if-not (i == k) (act ∷ []) [] (ne_eqb i k apart)

    child-is : (v : ChildUse) → slice_get local.children k ≡ Some v → u ≡ v
    child-is v at_v = same_Some u v (sym at ∙ at_v)

    -- where the child's field is
    field-is : (f i : ℕ) (v : ChildUse) → slice_get slots f ≡ Some (instance i v) → (i ≡ k) → f ≡ child_field local k
    field-is f i v at_f same =
        let at_i = places.each f (instance i v) at_f in
        let one : u ≡ v = same_Some u v (sym at ∙ ap (slice_get local.children) (sym same) ∙ at_i) in
        places.differ f (child_field local k) (instance i v) at_f
        (places.children k u at ∙ (λ p. Some (instance (sym same p) (one p))))

    other-field : (f i : ℕ) (v : ChildUse) → slice_get slots f ≡ Some (instance i v) → (i ≡ k → ⊥) → f ≡ child_field local k → ⊥
    other-field f i v at_f apart same =
        let e : Some (instance i v) ≡ Some (instance k u) = sym at_f ∙ ap (slice_get slots) same ∙ places.children k u at in
        apart (let p : i ≡ k = cc e in p)

    seen : (f i : ℕ) (v : ChildUse) → slice_get slots f ≡ Some (instance i v) → (i ≡ k) ⊎ (i ≡ k → ⊥) →
        calls_inside f account.log ≡ log_along (inner_at i) (b i v) (account.acts i)
    seen f i v at_f (inl same) =
        let at_k : slice_get local.children k ≡ Some v = ap (slice_get local.children) (sym same) ∙ places.each f (instance i v) at_f in
        ap (λ g. calls_inside g account.log) (field-is f i v at_f same)
        ∙ seen-inside (child_field local k) ((inner_at k).log (b k u) act)
        ∙ sym (append-nil ((inner_at k).log (b k u) act))
        ∙ (λ p. log_along (inner_at (sym same p)) (b (sym same p) (child-is v at_k p)) (act ∷ []))
        ∙ ap (log_along (inner_at i) (b i v)) (sym (acts-here i same))
    seen f i v at_f (inr apart) =
        not-inside f (child_field local k) ((inner_at k).log (b k u) act) (other-field f i v at_f apart)
        ∙ ap (log_along (inner_at i) (b i v)) (sym (acts-there i apart))

    kept : (f i : ℕ) (v : ChildUse) (path : List ℕ) (field : ℕ) → slice_get slots f ≡ Some (instance i v) → (i ≡ k) ⊎ (i ≡ k → ⊥) →
        account.stored (f ∷ path) field ≤ stored_along (inner_at i) (b i v) (account.acts i) path field
    kept f i v path field at_f (inl same) =
        let at_k : slice_get local.children k ≡ Some v = ap (slice_get local.children) (sym same) ∙ places.each f (instance i v) at_f in
        let is = if-yes (f == child_field local k) ((inner_at k).stored (b k u) act path field) 0
        (eq-eqb f (child_field local k) (field-is f i v at_f same)) in
        let along : (inner_at k).stored (b k u) act path field + 0 ≡ stored_along (inner_at i) (b i v) (account.acts i) path field =
        (λ p. stored_along (inner_at (sym same p)) (b (sym same p) (child-is v at_k p)) (act ∷ []) path field)
        ∙ ap (λ acts. stored_along (inner_at i) (b i v) acts path field) (sym (acts-here i same)) in
        omega (arith, is, along)
    kept f i v path field at_f (inr apart) =
        let is = if-not (f == child_field local k) ((inner_at k).stored (b k u) act path field) 0
        (ne_eqb f (child_field local k) (other-field f i v at_f apart)) in
        omega (arith, is)

    pub goes-child : Goes b d account
    goes-child = record {
      ends = λ i v at_i. elim (cases_eq i k) [
        | inl same ↦
            let at_k : slice_get local.children k ≡ Some v = ap (slice_get local.children) (sym same) ∙ at_i in
            ap (after_all (b i v)) (acts-here i same)
            ∙ (λ p. called_after (b (same p) (sym (child-is v at_k) p)) act) ∙ here
            ∙ (λ p. d (sym same p) (child-is v at_k p))
        | inr apart ↦ ap (after_all (b i v)) (acts-there i apart) ∙ others i v at_i apart
      ];
      inner =
          let f : ℕ × ChildUse → ℕ = λ e. most_along (inner_at e.0) (b e.0 e.1) (account.acts e.0) in
          let sum = sum-one f 0 k local.children u at (λ e h apart.
          ap (most_along (inner_at e.0) (b e.0 e.1)) (acts-there e.0 (λ same. apart (same ∙ (let z : k ≡ 0 + k = omega arith in z))))) in
          let place : f (0 + k, u) ≡ f (k, u) = ap (λ i. f (i, u)) (let z : 0 + k ≡ k = omega arith in z) in
          let own : f (k, u) ≡ (inner_at k).most (b k u) act + 0 = ap (most_along (inner_at k) (b k u)) (acts-here k refl) in
          omega (arith, sum, place, own);
      log = λ f i v at_f. seen f i v at_f (cases_eq i k);
      no_other_log = λ f none. not-inside f (child_field local k) ((inner_at k).log (b k u) act)
          (λ same. none k u (ap (slice_get slots) same ∙ places.children k u at));
      stored = λ f i v path field at_f. kept f i v path field at_f (cases_eq i k);
    }

  -- ---- Many accounts

  pub goes-each : {A : Type 0} (b : Functions) (f : A → Account) (xs : List A) → ((x : A) → Goes b b (f x)) → Goes b b (all_of (map f xs))
  goes-each b f [] each = goes-stores b 0 (λ path field. 0) (λ f path field. refl)
  goes-each b f (x ∷ xs) each = goes-then b b b (f x) (all_of (map f xs)) (each x) (goes-each b f xs each)

  -- the same act on each child
  module _ (n : ℕ) (c : Functions) (act : Act) where
    abbrev call_each : ℕ × ChildUse → Account
    call_each e = calls_child n (child_field local e.0) e.0 (inner_at e.0) (c e.0 e.1) act

    calls-each : (i : ℕ) (us : List ChildUse) (b d : Functions) →
        ((k : ℕ) (u : ChildUse) → slice_get us k ≡ Some u → slice_get local.children (i + k) ≡ Some u) →
        i + length us ≡ length local.children →
        ((k : ℕ) (u : ChildUse) → slice_get local.children k ≡ Some u → k < i → b k u ≡ d k u) →
        ((k : ℕ) (u : ChildUse) → slice_get local.children k ≡ Some u → i ≤ k → b k u ≡ c k u) →
        ((k : ℕ) (u : ChildUse) → slice_get local.children k ≡ Some u → i ≤ k → called_after (c k u) act ≡ d k u) →
        Goes b d (all_of (map call_each (enumerate_from i us)))
    calls-each i [] b d stand long first same next =
        goes-to b b d nothing_done (λ k u at. let low = at-below local.children k u at in first k u at (omega (arith, low, long)))
        (goes-stores b 0 (λ path field. 0) (λ f path field. refl))
    calls-each i (u ∷ us) b d stand long first same next =
        goes-then b middle d (call_each (i, u)) (all_of (map call_each (enumerate_from (i + 1) us)))
        (subst (λ called. Goes b middle (calls_child n (child_field local i) i (inner_at i) called act)) (same i u at (omega arith))
        (goes-child n i u at b middle act
        (ap (λ called. called_after called act) (same i u at (omega arith)) ∙ next i u at (omega arith)
        ∙ sym (if-yes (i == i) (d i u) (b i u) (eq-eqb i i refl)))
        (λ k v at_k apart. sym (if-not (k == i) (d k v) (b k v) (ne_eqb k i apart)))))
        (calls-each (i + 1) us middle d
        (λ k v at_k. subst (λ n. slice_get local.children n ≡ Some v) (let e : i + suc k ≡ i + 1 + k = omega arith in e)
        (stand (suc k) v at_k))
        (omega (arith, long))
        (λ k v at_k low. elim (cases_eq k i) [
          | inl is ↦ if-yes (k == i) (d k v) (b k v) (eq-eqb k i is)
          | inr apart ↦ if-not (k == i) (d k v) (b k v) (ne_eqb k i apart) ∙ first k v at_k (omega (arith, low, apart))
        ])
        (λ k v at_k above. if-not (k == i) (d k v) (b k v) (ne_eqb k i (λ is. let wrong : k ≡ i = is in omega (arith, above, wrong)))
        ∙ same k v at_k (omega (arith, above)))
        (λ k v at_k above. next k v at_k (omega (arith, above))))
      where
        at : slice_get local.children i ≡ Some u
        at = subst (λ n. slice_get local.children n ≡ Some u) (add-zero i) (stand 0 u refl)

        middle : Functions
        middle k v = if k == i then d k v else b k v

    pub goes-all : (d : Functions) → ((k : ℕ) (u : ChildUse) → slice_get local.children k ≡ Some u → called_after (c k u) act ≡ d k u) →
        Goes c d (all_of (map call_each (enumerate_from 0 local.children)))
    goes-all d next =
        calls-each 0 local.children c d (λ k u at. subst (λ n. slice_get local.children n ≡ Some u) (let e : k ≡ 0 + k = omega arith in e)
        at)
        (omega arith) (λ k u at low. absurd (omega (arith, low))) (λ k u at low. refl) (λ k u at low. next k u at)
