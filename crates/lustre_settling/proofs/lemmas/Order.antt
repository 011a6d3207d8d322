-- The order "each value that is there stays" on values, lists of them and instances.
use Rattle.std.specs.Prelude.{◌≡◌, ℕ, zero, suc, ℤ, List, [], ◌∷◌, ◌++◌, take, drop, length, replicate, slice_set, Option, Some, None, refl}
use Rattle.std.proofs.Common.{sym, ap, ap₂, subst, arith}
use Rattle.lustre_flows.specs.Values.{value_at}
use Rattle.lustre_flows.specs.Instances.{Instance, Instances, instance, no_calls, more_calls, values_in, calls_in, call_at, no_instance, with_items, with_call}
use Rattle.lustre_flows.specs.Ticks.{inside}
use Rattle.lustre_flows.specs.FlowLaws.{ValueStays, ValuesStay, Stays, AllStay}

-- ---- Values

pub value-stays-self : (v : Option ℤ) → ValueStays v v
value-stays-self None = tt
value-stays-self (Some v) = refl

pub value-stays-on : (u v w : Option ℤ) → ValueStays u v → ValueStays v w → ValueStays u w
value-stays-on None v w first next = tt
value-stays-on (Some u) v w first next = subst (λ x. ValueStays x w) first next

pub value-stays-both : (v w : Option ℤ) → ValueStays v w → ValueStays w v → v ≡ w
value-stays-both None None there back = refl
value-stays-both None (Some w) there back = back
value-stays-both (Some v) w there back = sym there

-- ---- Lists of values

pub values-stay-self : (vs : List (Option ℤ)) → ValuesStay vs vs
values-stay-self [] = tt
values-stay-self (v ∷ vs) = (value-stays-self v, values-stay-self vs)

pub values-stay-on : (us vs ws : List (Option ℤ)) → ValuesStay us vs → ValuesStay vs ws → ValuesStay us ws
values-stay-on [] [] ws first next = next
values-stay-on [] (v ∷ vs) ws first next = absurd first
values-stay-on (u ∷ us) [] ws first next = absurd first
values-stay-on (u ∷ us) (v ∷ vs) [] first next = absurd next
values-stay-on (u ∷ us) (v ∷ vs) (w ∷ ws) first next =
    (value-stays-on u v w first.0 next.0, values-stay-on us vs ws first.1 next.1)

pub values-stay-both : (vs ws : List (Option ℤ)) → ValuesStay vs ws → ValuesStay ws vs → vs ≡ ws
values-stay-both [] [] there back = refl
values-stay-both [] (w ∷ ws) there back = absurd there
values-stay-both (v ∷ vs) [] there back = absurd there
values-stay-both (v ∷ vs) (w ∷ ws) there back =
    ap₂ {C = List (Option ℤ)} (λ x xs. x ∷ xs) (value-stays-both v w there.0 back.0) (values-stay-both vs ws there.1 back.1)

pub values-stay-at : (vs ws : List (Option ℤ)) (k : ℕ) → ValuesStay vs ws → ValueStays (value_at vs k) (value_at ws k)
values-stay-at [] ws k stay = tt
values-stay-at (v ∷ vs) [] k stay = absurd stay
values-stay-at (v ∷ vs) (w ∷ ws) zero stay = stay.0
values-stay-at (v ∷ vs) (w ∷ ws) (suc k) stay = values-stay-at vs ws k stay.1

-- a value at a place stays there
pub value-kept : (vs ws : List (Option ℤ)) (k : ℕ) (v : ℤ) → ValuesStay vs ws → value_at vs k ≡ Some v → value_at ws k ≡ Some v
value-kept vs ws k v stay is = subst (λ x. ValueStays x (value_at ws k)) is (values-stay-at vs ws k stay)

pub values-stay-length : (vs ws : List (Option ℤ)) → ValuesStay vs ws → length vs ≡ length ws
values-stay-length [] [] stay = refl
values-stay-length [] (w ∷ ws) stay = absurd stay
values-stay-length (v ∷ vs) [] stay = absurd stay
values-stay-length (v ∷ vs) (w ∷ ws) stay = ap suc (values-stay-length vs ws stay.1)

pub values-stay-append : (us vs ws xs : List (Option ℤ)) → ValuesStay us vs → ValuesStay ws xs → ValuesStay (us ++ ws) (vs ++ xs)
values-stay-append [] [] ws xs first next = next
values-stay-append [] (v ∷ vs) ws xs first next = absurd first
values-stay-append (u ∷ us) [] ws xs first next = absurd first
values-stay-append (u ∷ us) (v ∷ vs) ws xs first next = (first.0, values-stay-append us vs ws xs first.1 next)

pub values-stay-take : (n : ℕ) (vs ws : List (Option ℤ)) → ValuesStay vs ws → ValuesStay (take n vs) (take n ws)
values-stay-take zero vs ws stay = tt
values-stay-take (suc n) [] [] stay = tt
values-stay-take (suc n) [] (w ∷ ws) stay = absurd stay
values-stay-take (suc n) (v ∷ vs) [] stay = absurd stay
values-stay-take (suc n) (v ∷ vs) (w ∷ ws) stay = (stay.0, values-stay-take n vs ws stay.1)

pub values-stay-drop : (n : ℕ) (vs ws : List (Option ℤ)) → ValuesStay vs ws → ValuesStay (drop n vs) (drop n ws)
values-stay-drop zero vs ws stay = stay
values-stay-drop (suc n) [] [] stay = tt
values-stay-drop (suc n) [] (w ∷ ws) stay = absurd stay
values-stay-drop (suc n) (v ∷ vs) [] stay = absurd stay
values-stay-drop (suc n) (v ∷ vs) (w ∷ ws) stay = values-stay-drop n vs ws stay.1

pub values-stay-set : (vs ws : List (Option ℤ)) (k : ℕ) (v w : Option ℤ) → ValuesStay vs ws → ValueStays v w →
    ValuesStay (slice_set vs k v) (slice_set ws k w)
values-stay-set [] [] k x y stay one = tt
values-stay-set [] (w ∷ ws) k x y stay one = absurd stay
values-stay-set (v ∷ vs) [] k x y stay one = absurd stay
values-stay-set (v ∷ vs) (w ∷ ws) zero x y stay one = (one, stay.1)
values-stay-set (v ∷ vs) (w ∷ ws) (suc k) x y stay one = (stay.0, values-stay-set vs ws k x y stay.1 one)

pub values-stay-items : (vs ws : List (Option ℤ)) (ks : List ℕ) (xs ys : List (Option ℤ)) → ValuesStay vs ws →
    ValuesStay xs ys → ValuesStay (with_items vs ks xs) (with_items ws ks ys)
values-stay-items vs ws [] xs ys stay items = stay
values-stay-items vs ws (k ∷ ks) [] [] stay items = stay
values-stay-items vs ws (k ∷ ks) [] (y ∷ ys) stay items = absurd items
values-stay-items vs ws (k ∷ ks) (x ∷ xs) [] stay items = absurd items
values-stay-items vs ws (k ∷ ks) (x ∷ xs) (y ∷ ys) stay items =
    values-stay-items (slice_set vs k x) (slice_set ws k y) ks xs ys (values-stay-set vs ws k x y stay items.0) items.1

pub nothing-stays : (n : ℕ) (ws : List (Option ℤ)) → length ws ≡ n → ValuesStay (replicate n None) ws
nothing-stays zero [] same = tt
nothing-stays zero (w ∷ ws) same = grind arith
nothing-stays (suc n) [] same = grind arith
nothing-stays (suc n) (w ∷ ws) same = (tt, nothing-stays n ws (omega arith))

-- ---- Instances

mutual
  pub stays-self : (i : Instance) → Stays i i
  stays-self (instance values calls) = (values-stay-self values, all-stay-self calls)

  pub all-stay-self : (calls : Instances) → AllStay calls calls
  all-stay-self no_calls = tt
  all-stay-self (more_calls first rest) = (stays-self first, all-stay-self rest)

mutual
  pub stays-on : (i j l : Instance) → Stays i j → Stays j l → Stays i l
  stays-on (instance us bs) (instance vs cs) (instance ws ds) first next =
      (values-stay-on us vs ws first.0 next.0, all-stay-on bs cs ds first.1 next.1)

  pub all-stay-on : (bs cs ds : Instances) → AllStay bs cs → AllStay cs ds → AllStay bs ds
  all-stay-on no_calls no_calls ds first next = next
  all-stay-on no_calls (more_calls c cs) ds first next = absurd first
  all-stay-on (more_calls b bs) no_calls ds first next = absurd first
  all-stay-on (more_calls b bs) (more_calls c cs) no_calls first next = absurd next
  all-stay-on (more_calls b bs) (more_calls c cs) (more_calls d ds) first next =
      (stays-on b c d first.0 next.0, all-stay-on bs cs ds first.1 next.1)

mutual
  pub stays-both : (i j : Instance) → Stays i j → Stays j i → i ≡ j
  stays-both (instance vs cs) (instance ws ds) there back =
      ap₂ instance (values-stay-both vs ws there.0 back.0) (all-stay-both cs ds there.1 back.1)

  pub all-stay-both : (cs ds : Instances) → AllStay cs ds → AllStay ds cs → cs ≡ ds
  all-stay-both no_calls no_calls there back = refl
  all-stay-both no_calls (more_calls d ds) there back = absurd there
  all-stay-both (more_calls c cs) no_calls there back = absurd there
  all-stay-both (more_calls c cs) (more_calls d ds) there back =
      ap₂ more_calls (stays-both c d there.0 back.0) (all-stay-both cs ds there.1 back.1)

pub values-of-staying : (i j : Instance) → Stays i j → ValuesStay (values_in i) (values_in j)
values-of-staying (instance vs cs) (instance ws ds) stay = stay.0

pub calls-of-staying : (i j : Instance) → Stays i j → AllStay (calls_in i) (calls_in j)
calls-of-staying (instance vs cs) (instance ws ds) stay = stay.1

pub call-stays : (cs ds : Instances) (k : ℕ) → AllStay cs ds → Stays (call_at cs k) (call_at ds k)
call-stays no_calls no_calls k stay = stays-self no_instance
call-stays no_calls (more_calls d ds) k stay = absurd stay
call-stays (more_calls c cs) no_calls k stay = absurd stay
call-stays (more_calls c cs) (more_calls d ds) zero stay = stay.0
call-stays (more_calls c cs) (more_calls d ds) (suc k) stay = call-stays cs ds k stay.1

pub inside-stays : (path : List ℕ) (i j : Instance) → Stays i j → Stays (inside path i) (inside path j)
inside-stays [] i j stay = stay
inside-stays (k ∷ path) i j stay =
    inside-stays path (call_at (calls_in i) k) (call_at (calls_in j) k)
    (call-stays (calls_in i) (calls_in j) k (calls-of-staying i j stay))

pub with-call-stays : (c d i j : Instance) → Stays c d → Stays i j → Stays (with_call c i) (with_call d j)
with-call-stays c d (instance vs cs) (instance ws ds) first stay = (stay.0, (first, stay.1))
