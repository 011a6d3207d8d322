-- The passes of a tick keep what there is, and come to rest after as many as there are names.
use Rattle.std.specs.Prelude.{◌≡◌, ◌⊎◌, ℕ, zero, suc, ◌+◌, ◌-◌, ◌<◌, ◌≤◌, ℤ, Bool, true, false, List, [], ◌∷◌, length, Option, Some, None, refl}
use Rattle.std.specs.List.{list_all}
use Rattle.std.proofs.Common.{sym, ap, ap₂, subst, ◌∙◌, arith, inl, inr}
use Rattle.std.proofs.lemmas.Bool.{and_parts}
use Rattle.lustre_syntax.specs.Tree.{FileTree}
use Rattle.lustre_flows.specs.Instances.{Instance, Instances, instance, no_calls, more_calls, has_value, is_complete, are_complete, name_count, name_counts}
use Rattle.lustre_flows.specs.Ticks.{last_place, fresh_root, root_pass, after_passes, settle, settled}
use Rattle.lustre_flows.specs.FlowLaws.{ValueStays, ValuesStay, Stays, AllStay, IsTickOf}
use Rattle.lustre_settling.specs.Settling.{PassesComeToRest, PassesKeepOrder, TicksComeToRest}
use Rattle.lustre_settling.proofs.lemmas.Order.{stays-self, stays-on, stays-both}
use Rattle.lustre_settling.proofs.lemmas.Unfolded.{last-below}
use Rattle.lustre_settling.proofs.lemmas.Forms.{root-pass-stays, root-pass-form, form-below}

-- ---- How many names have no value

abbrev absence : Option ℤ → ℕ
absence None = 1
absence (Some v) = 0

abbrev absences : List (Option ℤ) → ℕ
absences [] = 0
absences (v ∷ vs) = absence v + absences vs

abbrev mutual
  missing : Instance → ℕ
  missing (instance values calls) = absences values + all_missing calls

  all_missing : Instances → ℕ
  all_missing no_calls = 0
  all_missing (more_calls first rest) = missing first + all_missing rest

-- nothing is added, or fewer values are missing
fewer : {A B C : Type 0} (f : A → ℕ) (g : B → ℕ) (make : A → B → C) (a c : A) (b d : B) → (a ≡ c) ⊎ (f c < f a) → (b ≡ d) ⊎ (g d < g b) →
    (make a b ≡ make c d) ⊎ (f c + g d < f a + g b)
fewer f g make a c b d (inl same) (inl also) = inl (ap₂ make same also)
fewer f g make a c b d (inl same) (inr less) = let e = ap f same in inr (omega arith)
fewer f g make a c b d (inr less) (inl also) = let e = ap g also in inr (omega arith)
fewer f g make a c b d (inr less) (inr more) = inr (omega arith)

value-added : (v w : Option ℤ) → ValueStays v w → (v ≡ w) ⊎ (absence w < absence v)
value-added None None stay = inl refl
value-added None (Some w) stay = inr (omega arith)
value-added (Some v) w stay = inl (sym stay)

values-added : (vs ws : List (Option ℤ)) → ValuesStay vs ws → (vs ≡ ws) ⊎ (absences ws < absences vs)
values-added [] [] stay = inl refl
values-added [] (w ∷ ws) stay = absurd stay
values-added (v ∷ vs) [] stay = absurd stay
values-added (v ∷ vs) (w ∷ ws) stay =
    fewer absence absences (λ x xs. x ∷ xs) v w vs ws (value-added v w stay.0) (values-added vs ws stay.1)

mutual
  added : (i j : Instance) → Stays i j → (i ≡ j) ⊎ (missing j < missing i)
  added (instance vs cs) (instance ws ds) stay =
      fewer absences all_missing instance vs ws cs ds (values-added vs ws stay.0) (all-added cs ds stay.1)

  all-added : (cs ds : Instances) → AllStay cs ds → (cs ≡ ds) ⊎ (all_missing ds < all_missing cs)
  all-added no_calls no_calls stay = inl refl
  all-added no_calls (more_calls d ds) stay = absurd stay
  all-added (more_calls c cs) no_calls stay = absurd stay
  all-added (more_calls c cs) (more_calls d ds) stay =
      fewer missing all_missing more_calls c d cs ds (added c d stay.0) (all-added cs ds stay.1)

absences-few : (vs : List (Option ℤ)) → absences vs ≤ length vs
absences-few [] = omega arith
absences-few (None ∷ vs) = let rest = absences-few vs in omega arith
absences-few (Some v ∷ vs) = let rest = absences-few vs in omega arith

mutual
  missing-few : (i : Instance) → missing i ≤ name_count i
  missing-few (instance vs cs) = let here = absences-few vs in let inner = all-missing-few cs in omega arith

  all-missing-few : (cs : Instances) → all_missing cs ≤ name_counts cs
  all-missing-few no_calls = omega arith
  all-missing-few (more_calls c cs) = let first = missing-few c in let rest = all-missing-few cs in omega arith

none-absent : (vs : List (Option ℤ)) → list_all has_value vs ≡ true → absences vs ≡ 0
none-absent [] whole = refl
none-absent (None ∷ vs) whole = grind arith
none-absent (Some v ∷ vs) whole = let rest = none-absent vs whole in omega arith

mutual
  none-missing : (i : Instance) → is_complete i ≡ true → missing i ≡ 0
  none-missing (instance vs cs) whole =
      let parts = and_parts (list_all has_value vs) (are_complete cs) whole in
      let here = none-absent vs parts.0 in
      let inner = all-none-missing cs parts.1 in omega arith

  all-none-missing : (cs : Instances) → are_complete cs ≡ true → all_missing cs ≡ 0
  all-none-missing no_calls whole = refl
  all-none-missing (more_calls c cs) whole =
      let parts = and_parts (is_complete c) (are_complete cs) whole in
      let first = none-missing c parts.0 in
      let rest = all-none-missing cs parts.1 in omega arith

-- what has all values doesn't change where they stay
pub whole-stays-same : (i j : Instance) → is_complete i ≡ true → Stays i j → i ≡ j
whole-stays-same i j whole stay =
    let none = none-missing i whole in
    elim (added i j stay) [ inl same ↦ same | inr less ↦ absurd (omega arith) ]

settle-kept : (pass : Instance → Instance) (n : ℕ) (i : Instance) → pass i ≡ i → settle pass n i ≡ i
settle-kept pass zero i kept = refl
settle-kept pass (suc n) i kept = by (is_complete i) (settle-kept pass n i kept)
  where
    by : (t : Bool) → settle pass n i ≡ i → elim t as (λ x. Instance) [ true ↦ i | false ↦ settle pass n (pass i) ] ≡ i
    by true later = refl
    by false later = ap (settle pass n) kept ∙ later

-- ---- The passes of a tick

module _ (f : FileTree) (before : Option Instance) (row : List ℤ) (tick : IsTickOf f before row) where
  abbrev after : ℕ → Instance
  after n = after_passes f before row n

  abbrev pass : Instance → Instance
  pass i = root_pass f before row i

  pub passes-grow : (n : ℕ) → Stays (after n) (after (suc n))
  passes-grow zero = root-pass-form f before row (fresh_root f) tick (stays-self (fresh_root f))
  passes-grow (suc n) = root-pass-stays f before row (after n) (after (suc n)) (passes-grow n)

  from-fresh : (n : ℕ) → Stays (fresh_root f) (after n)
  from-fresh zero = stays-self (fresh_root f)
  from-fresh (suc n) = stays-on (fresh_root f) (after n) (after (suc n)) (from-fresh n) (passes-grow n)

  pub passes-grow-by : (m n : ℕ) → Stays (after n) (after (m + n))
  passes-grow-by zero n = let same : n ≡ 0 + n = omega arith in subst (λ k. Stays (after n) (after k)) same (stays-self (after n))
  passes-grow-by (suc m) n =
      let same : suc (m + n) ≡ suc m + n = omega arith in
      subst (λ k. Stays (after n) (after k)) same
      (stays-on (after n) (after (m + n)) (after (suc (m + n))) (passes-grow-by m n) (passes-grow (m + n)))

  -- where so many passes come to rest
  abbrev RestsAt : ℕ → Instance → ℕ → Type 0
  RestsAt most left l = (l ≤ most) × (left ≡ after l) × (pass (after l) ≡ after l)

  rests-from : (n m : ℕ) → missing (after m) ≤ n → (l : ℕ) × RestsAt (n + m) (settle pass n (after m)) l
  rests-from zero m few =
      elim (added (after m) (after (suc m)) (passes-grow m)) [
        | inl same ↦ (m, (omega arith, refl, sym same))
        | inr less ↦ absurd (omega arith)
      ]
  rests-from (suc n) m few =
      by (is_complete (after m)) refl (added (after m) (after (suc m)) (passes-grow m)) (λ less. rests-from n (suc m) less)
    where
      by : (t : Bool) → is_complete (after m) ≡ t → (after m ≡ after (suc m)) ⊎ (missing (after (suc m)) < missing (after m)) →
          (missing (after (suc m)) ≤ n → (l : ℕ) × RestsAt (n + suc m) (settle pass n (after (suc m))) l) →
          (l : ℕ) × RestsAt (suc n + m) (elim t as (λ x. Instance) [ true ↦ after m | false ↦ settle pass n (after (suc m)) ]) l
      by true whole change later = (m, (omega arith, refl, sym (whole-stays-same (after m) (after (suc m)) whole (passes-grow m))))
      by false whole (inl same) later =
          (m, (omega arith, ap (settle pass n) (sym same) ∙ settle-kept pass n (after m) (sym same), sym same))
      by false whole (inr less) later =
          let rest = later (omega arith) in
          (rest.0, (let few = rest.1.0 in omega arith, rest.1.1, rest.1.2))

  rests : (l : ℕ) × RestsAt (name_count (fresh_root f) + 0) (settled f before row) l
  rests = rests-from (name_count (fresh_root f)) 0 (missing-few (fresh_root f))

  -- the tick leaves what some passes leave
  pub settled-after : (l : ℕ) × (settled f before row ≡ after l)
  settled-after = (rests.0, rests.1.1)

  pub settled-kept : pass (settled f before row) ≡ settled f before row
  settled-kept = subst (λ i. pass i ≡ i) (sym rests.1.1) rests.1.2

  at-rest : (n : ℕ) → after (n + rests.0) ≡ settled f before row
  at-rest zero = let same : 0 + rests.0 ≡ rests.0 = omega arith in ap after same ∙ sym rests.1.1
  at-rest (suc n) =
      let same : suc n + rests.0 ≡ suc (n + rests.0) = omega arith in
      ap after same ∙ ap pass (at-rest n) ∙ settled-kept

  at-rest-from : (n : ℕ) → name_count (fresh_root f) ≤ n → after n ≡ settled f before row
  at-rest-from n many =
      let few = rests.1.0 in
      let same : n ≡ (n - rests.0) + rests.0 = omega arith in
      ap after same ∙ at-rest (n - rests.0)

  pub passes-below-settled : (n : ℕ) → Stays (after n) (settled f before row)
  passes-below-settled n =
      subst (Stays (after n)) (ap after (omega arith) ∙ at-rest n) (passes-grow-by rests.0 n)

  pub settled-form : Stays (fresh_root f) (settled f before row)
  settled-form = passes-below-settled 0

  pub comes-to-rest : PassesComeToRest f before row
  comes-to-rest = record { grow = passes-grow; rest = at-rest-from; kept = settled-kept }

  -- what a pass keeps has all values that the tick leaves
  pub least-above : (i : Instance) → Stays (fresh_root f) i → pass i ≡ i → Stays (settled f before row) i
  least-above i form kept = subst (λ j. Stays j i) (sym rests.1.1) (each rests.0)
    where
      each : (n : ℕ) → Stays (after n) i
      each zero = form
      each (suc n) = subst (Stays (after (suc n))) kept (root-pass-stays f before row (after n) i (each n))

  -- and is what the tick leaves, where that has all its values
  pub least-kept : (i : Instance) → Stays i (settled f before row) → pass i ≡ i → i ≡ settled f before row
  least-kept i stay kept =
      let form : Stays (fresh_root f) i =
      form-below f.nodes tick.lawful.nodes (last_place f) i (settled f before row) (last-below f.nodes tick.lawful.last)
      settled-form stay in
      stays-both i (settled f before row) stay (least-above i form kept)

-- ---- All ticks

pub passes_keep_order : PassesKeepOrder
passes_keep_order f before row i j stay = root-pass-stays f before row i j stay

pub ticks_come_to_rest : TicksComeToRest
ticks_come_to_rest f before row tick = comes-to-rest f before row tick
