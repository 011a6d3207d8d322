-- In the list of systems the children of each come after it, and none is twice.
use Rattle.std.specs.Prelude.{◌≡◌, ℕ, zero, suc, ◌+◌, ◌<◌, ◌≤◌, ◌^◌, Bool, true, false, cond, ◌&&◌, List, [], ◌∷◌, ◌++◌, map, filter, reverse, length, Contains, Option, Some, None, ⊤}
use Rattle.std.specs.List.{range_with_len}
use Rattle.std.proofs.Common.{refl, sym, ◌∙◌, ap, subst, arith, inl, inr, true≢false}
use Rattle.std.proofs.lemmas.Bool.{and_from, and_parts}
use Rattle.std.proofs.lemmas.List.{reverse-append, map-append}
use Rattle.std.proofs.lemmas.Fmt.{decimal_injective}
use Rattle.std.proofs.lemmas.Option.{same_Some}
use Rattle.diagram_blocks.specs.Kinds.{is_subsystem}
use Rattle.diagram_meaning.specs.declared.Row.{Row}
use Rattle.diagram_meaning.specs.Rows.{row_at, is_inside}
use Rattle.diagram_meaning.specs.SystemRuns.{IsRowOf}
use Rattle.diagram_meaning.specs.WellFormed.{IsNested, IsOwner}
use Rattle.diagram_typed_runs.specs.TypedRuns.{IsSystem}
use Rattle.modules_profile.specs.Systems.{system_name, systems, IsInTable}
use Rattle.modules_profile.proofs.lemmas.Members.{in-none, in-cases, in-map, of-map, in-filter, of-filter, in-range, of-range}
use Rattle.lustre_lawful.proofs.Counts.{times, Once, times-append, once-none, once-cons}
use Rattle.lustre_lawful.proofs.NumberedNames.{begins}
use Rattle.lustre_lawful.proofs.Texts.{number_text, number-alone}

-- ---- Reversed lists

times-reverse : (x : List ℕ) (ts : List (List ℕ)) → times x (reverse ts) ≡ times x ts
times-reverse x [] = refl
times-reverse x (t ∷ ts) =
    let one = ap (times x) (reverse-append (t ∷ []) ts) in
    let two = times-append x (reverse ts) (t ∷ []) in
    let three = times-append x (t ∷ []) ts in
    let rest = times-reverse x ts in
    omega (arith, one, two, three, rest)

map-reverse : {A B : Type 0} (f : A → B) (xs : List A) → map f (reverse xs) ≡ reverse (map f xs)
map-reverse f [] = refl
map-reverse f (x ∷ xs) =
    ap (map f) (reverse-append (x ∷ []) xs) ∙ map-append f (reverse xs) (x ∷ []) ∙ ap (λ ys. ys ++ f x ∷ []) (map-reverse f xs)
    ∙ sym (reverse-append (f x ∷ []) (map f xs))

-- ---- Order

-- a system, its children after it, and it not among those
pub record IsFirst (rows : List Row) (s : Option ℕ) (later : List (Option ℕ)) : Type 0 where
  pub in_table : IsInTable rows s
  pub system : IsSystem rows s
  pub children : (e : ℕ) → IsRowOf rows s e → is_subsystem (row_at rows e).kind ≡ true → Contains later (Some e)
  pub alone : Contains later s → ⊥

abbrev pub AreSorted : List Row → List (Option ℕ) → Type 0
AreSorted rows [] = ⊤
AreSorted rows (s ∷ later) = IsFirst rows s later × AreSorted rows later

module _ (rows : List Row) (nested : IsNested rows) where
  abbrev is_inner : ℕ → Bool
  is_inner e = is_subsystem (row_at rows e).kind && is_inside rows None e

  inner-in : (a n e : ℕ) → a ≤ e → e < a + n → is_subsystem (row_at rows e).kind ≡ true →
      Contains (map Some (filter is_inner (range_with_len a n))) (Some e)
  inner-in a n e low high is =
      in-map Some (filter is_inner (range_with_len a n)) e
      (in-filter is_inner (range_with_len a n) e (in-range a n e low high) (and_from _ _ is refl))

  not-earlier : (a n e : ℕ) → e < a → Contains (map Some (filter is_inner (range_with_len a n))) (Some e) → ⊥
  not-earlier a n e less there =
      let (k, has, same) = of-map Some (filter is_inner (range_with_len a n)) (Some e) there in
      let low = (of-range a n k (of-filter is_inner (range_with_len a n) k has).0).0 in
      let is = same_Some k e same in
      omega (arith, less, low, is)

  -- those from a row on
  inner-sorted : (a n : ℕ) → a + n ≡ length rows → AreSorted rows (map Some (filter is_inner (range_with_len a n)))
  inner-sorted a zero all = tt
  inner-sorted a (suc n) all = by (is_inner a) refl (inner-sorted (a + 1) n (omega (arith, all)))
    where
      by : (b : Bool) → is_inner a ≡ b → AreSorted rows (map Some (filter is_inner (range_with_len (a + 1) n))) →
          AreSorted rows (map Some (cond b (a ∷ filter is_inner (range_with_len (a + 1) n)) (filter is_inner (range_with_len (a + 1) n))))
      by false is rest = rest
      by true is rest = (
        record {
          in_table = omega (arith, all);
          system = (and_parts (is_subsystem (row_at rows a).kind) (is_inside rows None a) is).0;
          children = λ e row sub.
              let below = row.in_table in
              let above = (subst (IsOwner rows e) row.own (nested.owned e below)).0 in
              inner-in (a + 1) n e (omega (arith, above)) (omega (arith, below, all)) sub;
          alone = not-earlier (a + 1) n a (omega arith);
        },
        rest,
      )

  pub systems-sorted : AreSorted rows (systems rows)
  systems-sorted = (
    record {
      in_table = tt;
      system = tt;
      children = λ e row sub. let below = row.in_table in inner-in 0 (length rows) e (omega arith) (omega (arith, below)) sub;
      alone = λ there.
          let (k, has, same) = of-map Some (filter is_inner (range_with_len 0 (length rows))) None there in
          let wrong : ⊥ = cc same in wrong;
    },
    inner-sorted 0 (length rows) (omega arith),
  )

  -- ---- Names

  pub system-injective : (s t : Option ℕ) → IsInTable rows s → IsInTable rows t → system_name s ≡ system_name t → s ≡ t
  system-injective None None one two same = refl
  system-injective None (Some e) one two same = absurd (true≢false (ap (begins 116) same))
  system-injective (Some e) None one two same = absurd (true≢false (sym (ap (begins 116) same)))
  system-injective (Some e) (Some f) one two same =
      let most = nested.at_most in
      let low : e < 2 ^ 64 = omega (arith, one, most) in
      let high : f < 2 ^ 64 = omega (arith, two, most) in
      ap Some (decimal_injective e f low high (sym (number-alone 115 e low) ∙ ap number_text same ∙ number-alone 115 f high))

  pub sorted-in_table : (ss : List (Option ℕ)) (s : Option ℕ) → AreSorted rows ss → Contains ss s → IsInTable rows s
  sorted-in_table [] s sorted there = absurd (in-none s there)
  sorted-in_table (t ∷ ss) s sorted there = elim (in-cases t s ss there) [
    | inl same ↦ subst (IsInTable rows) same sorted.0.in_table
    | inr later ↦ sorted-in_table ss s sorted.1 later
  ]

  sorted-once : (ss : List (Option ℕ)) → AreSorted rows ss → Once (map system_name ss)
  sorted-once [] sorted = once-none
  sorted-once (s ∷ ss) sorted =
      once-cons (system_name s) (map system_name ss)
      (λ there.
      let (t, has, same) = of-map system_name ss (system_name s) there in
      let is = system-injective t s (sorted-in_table ss t sorted.1 has) sorted.0.in_table same in
      sorted.0.alone (subst (Contains ss) is has)) (sorted-once ss sorted.1)

  pub reversed-once : (ss : List (Option ℕ)) → AreSorted rows ss → Once (map system_name (reverse ss))
  reversed-once ss sorted x =
      let one = ap (times x) (map-reverse system_name ss) in
      let two = times-reverse x (map system_name ss) in
      let once = sorted-once ss sorted x in omega (arith, one, two, once)
