-- What the inputs of rows give, by what was found.
use Rattle.std.proofs.Common.{◌≡◌, refl, ℕ, suc, ◌+◌, ◌-◌, ◌/◌, ◌<◌, ◌≤◌, ◌⊎◌, List, [], ◌∷◌, ◌++◌, length, get_or, Contains, Option, None, Some, sym, ap, subst, ◌∙◌, arith, inl, inr, length-append}
use Rattle.std.specs.Prelude.{unwrap_or}
use mathlib.Core.HLevel.{is_prop→PathP}
use Rattle.std.specs.Coded.{le_prop}
use Rattle.std.proofs.lemmas.Bool.{cases_lt}
use Rattle.std.proofs.lemmas.List.{get_or_append_left, get_or-append_right}
use Rattle.std.proofs.lemmas.List.Elements.{Contains-append_left, Contains-push, Contains-push_cases}
use Rattle.base_core.specs.declared.Frac.{Frac}
use Rattle.base_core.specs.declared.TimeText.{TimeText}
use Rattle.base_core.specs.declared.TimeText.TheVariants.{Inherit, Constant, Each}
use Rattle.base_graph.specs.NeedsGraph.{NeedsGraph, Needs}
use Rattle.base_graph.specs.Reaching.{Walk, Reaches}
use Rattle.diagram_meaning.specs.declared.table.Row.{Row}
use Rattle.diagram_meaning.specs.declared.times.Time.{Time}
use Rattle.diagram_meaning.specs.RowTable.{RowTable}
use Rattle.diagram_meaning.specs.SampleTimes.{every_tick, ticks, numerator_over, Writes, search_time, search_inputs, Finds, here, through, FindsBefore, Includes, IsInferred}
use Rattle.diagram_meaning.specs.TimeRefusals.{AreInputTimes}
use Rattle.diagram_times.specs.declared.base.BaseTick.{BaseTick}
use Rattle.diagram_times.specs.Bases.{IsBaseOf, IsTimeOf, AreGiven, ticks_of}
use Rattle.diagram_times.specs.Collecting.{IsCollected, AreCollected}
use Rattle.diagram_times.specs.Feeding.{where_inherited, AreInputsInside, IsFeeding}
use Rattle.diagram_times.specs.Hulls.{IsHull, IsJoined}
use Rattle.diagram_times.specs.Searching.{found_at, Comes, IsFound, AreFound, Among}
use Rattle.diagram_times.proofs.FeedSteps.{search-inside}
use Rattle.diagram_times.proofs.HullLemmas.{Includes-trans, Includes-self}
use Rattle.diagram_times.proofs.SpreadSteps.{comes-on}

-- ---- What was found at some rows, one after another

module _ (found : List (Option Time)) (xs : List ℕ) (c : ℕ) where
  further : (t : Time) → Among found xs t → Among found (xs ++ c ∷ []) t
  further t (k, h, e) = (k, Contains-append_left xs (c ∷ []) k h, e)

  one-of : (t : Time) → Among found (xs ++ c ∷ []) t → Among found xs t ⊎ (found_at found c ≡ Some t)
  one-of t (k, h, e) = elim (Contains-push_cases xs c k h) [
    | inl before ↦ inl (k, before, e)
    | inr last ↦ inr (subst (λ n. found_at found n ≡ Some t) (sym last) e)
  ]

  now : (t : Time) → found_at found c ≡ Some t → Among found (xs ++ c ∷ []) t
  now t e = (c, Contains-push xs c, e)

  same-some : (t u : Time) → (let o : Option Time = Some t in o ≡ Some u) → t ≡ u
  same-some t u e = cc e

  -- what is there is found, where nothing was before
  first : (o : Option Time) → found_at found c ≡ o → IsFound (Among found xs) None → IsFound (Among found (xs ++ c ∷ [])) o
  first None e none = λ t a. elim (one-of t a) [ inl before ↦ none t before | inr last ↦ (let wrong : ⊥ = cc (e, last) in wrong) ]
  first (Some u) e none = (
    (u, now u e),
    record {
      includes = λ t a. elim (one-of t a) [
        | inl before ↦ absurd (none t before)
        | inr last ↦ subst (Includes u) (same-some u t (sym e ∙ last)) (Includes-self u)
      ];
      smallest = λ other all. all u (now u e);
    },
  )

  -- nothing is added
  same : (u : Time) → found_at found c ≡ None → IsFound (Among found xs) (Some u) → IsFound (Among found (xs ++ c ∷ [])) (Some u)
  same u e is = (
    (is.0.0, further is.0.0 is.0.1),
    record {
      includes =
          λ t a. elim (one-of t a) [
            | inl before ↦ is.1.includes t before
            | inr last ↦
                absurd (let wrong : ⊥ = cc (e, last) in wrong)
          ];
      smallest = λ other all. is.1.smallest other (λ t a. all t (further t a));
    },
  )

  -- both are there
  both : (u v hull : Time) → found_at found c ≡ Some v → IsHull u v hull → IsFound (Among found xs) (Some u) →
      IsFound (Among found (xs ++ c ∷ [])) (Some hull)
  both u v hull e h is = (
    (v, now v e),
    record {
      includes = λ t a. elim (one-of t a) [
        | inl before ↦ Includes-trans hull u t h.first (is.1.includes t before)
        | inr last ↦ subst (Includes hull) (same-some v t (sym e ∙ last)) h.second
      ];
      smallest = λ other all. h.smallest other (is.1.smallest other (λ t a. all t (further t a))) (all v (now v e));
    },
  )

  pub among-more : (all o joined : Option Time) → found_at found c ≡ o → IsJoined all o joined →
      IsFound (Among found xs) all → IsFound (Among found (xs ++ c ∷ [])) joined
  among-more None o joined e j is = subst (IsFound (Among found (xs ++ c ∷ []))) (sym j) (first o e is)
  among-more (Some u) None joined e j is = subst (IsFound (Among found (xs ++ c ∷ []))) (sym j) (same u e is)
  among-more (Some u) (Some v) None e j is = absurd j
  among-more (Some u) (Some v) (Some hull) e j is = both u v hull e j is

pub among-none : (found : List (Option Time)) → IsFound (Among found []) None
among-none found t (c, h, e) = let l = h.1 in omega arith

-- ---- Row by row

pub collected-none : (rows : List Row) (found : List (Option Time)) (inside : List Time) → inside ≡ [] → AreCollected rows found 0 inside
collected-none rows found inside e = record { len = ap length e; each = λ b below. absurd (omega arith) }

pub collected-more : (rows : List Row) (found : List (Option Time)) (n : ℕ) (inside later : List Time) (time : Time) →
    IsCollected rows found n time →
    later ≡ inside ++ time ∷ [] → AreCollected rows found n inside → AreCollected rows found (n + 1) later
collected-more rows found n inside later time is e are = subst (AreCollected rows found (n + 1)) (sym e) (record {
  len = length-append inside (time ∷ []) ∙ (let l = are.len in omega arith);
  each = λ b below. elim (cases_lt b n) [
    | inl before ↦
        subst (IsCollected rows found b)
        (sym (get_or_append_left inside (time ∷ []) every_tick b (let l = are.len in omega arith))) (are.each b before)
    | inr last ↦
        let same : n ≡ b = omega arith in
        subst (λ k. IsCollected rows found k (get_or (inside ++ time ∷ []) k every_tick)) same
        (subst (IsCollected rows found n)
        (sym (get_or-append_right inside (time ∷ []) n n every_tick are.len (omega arith)
        ∙ ap (λ k. get_or (time ∷ []) k every_tick) (let z : n - n ≡ 0 = omega arith in z))) is)
  ];
})

-- ---- What is found in the search

pub time-equal : (a b : Time) → a.period ≡ b.period → a.offset ≡ b.offset → a ≡ b
time-equal a b p o =
    λ i. record {
      period = p i;
      offset = o i;
      in_period = is_prop→PathP (λ j. suc (o j) ≤ p j) (λ j. le_prop) a.in_period b.in_period i;
    }

module _ (table : RowTable) (base : BaseTick) (is_base : IsBaseOf table base) where
  pub ticks-same : (f : Frac) → ticks_of base f ≡ ticks table f
  ticks-same f = λ i. numerator_over (is_base.denominator i) f / is_base.numerator i

  pub writes-of : (text : TimeText) (o : Option Time) (time : Time) → IsTimeOf base text o → o ≡ Some time → Writes table text time
  writes-of Inherit o time is e = let wrong : ⊥ = cc (is, e) in wrong
  writes-of Constant o time is e = let wrong : ⊥ = cc (is, e) in wrong
  writes-of (Each period offset) o time (t, f, p, q) e =
      let same : t ≡ time = cc (f, e) in
      (ap (λ (u : Time). u.period) (sym same) ∙ p ∙ ticks-same period, ap (λ (u : Time). u.offset) (sym same) ∙ q ∙ ticks-same offset)

  pub time-written : (text : TimeText) (o : Option Time) (time : Time) → IsTimeOf base text o → Writes table text time → o ≡ Some time
  time-written Inherit o time is w = absurd w
  time-written Constant o time is w = absurd w
  time-written (Each period offset) o time (t, f, p, q) w =
      f ∙ ap Some (time-equal t time (p ∙ ticks-same period ∙ sym w.0) (q ∙ ticks-same offset ∙ sym w.1))

  fed-inherits : (text : TimeText) (inputs : List ℕ) (a : ℕ) → Contains (where_inherited text inputs) a →
      (text ≡ Inherit) × Contains inputs a
  fed-inherits Inherit inputs a h = (refl, h)
  fed-inherits Constant inputs a h = absurd (let l = h.1 in omega arith)
  fed-inherits (Each period offset) inputs a h = absurd (let l = h.1 in omega arith)

  module _ (g : NeedsGraph) (feeding : IsFeeding table.rows g) (inside : AreInputsInside table.rows)
      (given : List (Option Time)) (are : AreGiven table.rows base (length table.rows) given) where
    along-edge : (b a : ℕ) (time : Time) → Needs g b a → Finds table a time → Finds table b time
    along-edge b a time needs f =
        let r = (feeding.edges b a).0 needs in
        let k = fed-inherits (search_time table.rows b) (search_inputs table.rows b) a r.1 in
        through k.0 k.1 f

    along-walk : (b : ℕ) (path : List ℕ) (a : ℕ) (time : Time) → Walk g b path a → Finds table a time → Finds table b time
    along-walk b [] a time needs f = along-edge b a time needs f
    along-walk b (c ∷ path) a time walk f = along-edge b c time walk.0 (along-walk c path a time walk.1 f)

    pub comes-finds : (b : ℕ) (time : Time) → Comes g given b time → Finds table b time
    comes-finds b time (a, below, reach, is) = by reach
      where
        start : Finds table a time
        start = here (writes-of (search_time table.rows a) (found_at given a) time (are.each a (let e = feeding.size in omega arith)) is)

        by : Reaches g a b → Finds table b time
        by (inl same) = subst (λ n. Finds table n time) same start
        by (inr (path, walk)) = along-walk b path a time walk start

    pub finds-comes : (b : ℕ) (time : Time) → Finds table b time → b < length table.rows → Comes g given b time
    finds-comes b time (here w) below = (
      b,
      (let e = feeding.size in omega arith),
      inl refl,
      time-written (search_time table.rows b) (found_at given b) time (are.each b below) w,
    )
    finds-comes b time (through {c = next} e h f) below =
        comes-on g given next b time
        ((feeding.edges b next).1 (below, subst (λ text. Contains (where_inherited text (search_inputs table.rows b)) next) (sym e) h))
        (finds-comes next time f (search-inside table.rows inside b next h))

    module _ (found : List (Option Time)) (search : AreFound g given found) where
      -- what was found at a row
      at-row : (c : ℕ) (o : Option Time) → c < length table.rows → found_at found c ≡ o → IsFound (Finds table c) o
      at-row c o below e = by o (subst (IsFound (Comes g given c)) e (search.each c (let s = feeding.size in omega arith)))
        where
          by : (o : Option Time) → IsFound (Comes g given c) o → IsFound (Finds table c) o
          by None none = λ t f. none t (finds-comes c t f below)
          by (Some t) is = (
            (is.0.0, comes-finds c is.0.0 is.0.1),
            record {
              includes = λ u f. is.1.includes u (finds-comes c u f below);
              smallest = λ other all. is.1.smallest other (λ u k. all u (comes-finds c u k));
            },
          )

      -- what the inputs of a row give
      before : (b : ℕ) (o : Option Time) → IsFound (Among found (search_inputs table.rows b)) o → IsFound (FindsBefore table b) o
      before b None none = λ t (c, h, f). by c h t f (found_at found c) refl
        where
          by : (c : ℕ) → Contains (search_inputs table.rows b) c → (t : Time) → Finds table c t → (o : Option Time) →
              found_at found c ≡ o → ⊥
          by c h t f None e = at-row c None (search-inside table.rows inside b c h) e t f
          by c h t f (Some u) e = none u (c, h, e)
      before b (Some time) is = (
        some is.0.1,
        record {
          includes = λ t (c, h, f). by c h t f (found_at found c) refl;
          smallest = λ other all. is.1.smallest other (λ u (c, h, e). least other all u c h e);
        },
      )
        where
          some : {u : Time} → Among found (search_inputs table.rows b) u → (t : Time) × FindsBefore table b t
          some {u} (c, h, e) = let r = at-row c (Some u) (search-inside table.rows inside b c h) e in (r.0.0, (c, h, r.0.1))

          by : (c : ℕ) → Contains (search_inputs table.rows b) c → (t : Time) → Finds table c t → (o : Option Time) →
              found_at found c ≡ o → Includes time t
          by c h t f None e = absurd (at-row c None (search-inside table.rows inside b c h) e t f)
          by c h t f (Some u) e =
              Includes-trans time u t (is.1.includes u (c, h, e))
              ((at-row c (Some u) (search-inside table.rows inside b c h) e).1.includes t f)

          least : (other : Time) → ((t : Time) → FindsBefore table b t → Includes other t) → (u : Time) (c : ℕ) →
              Contains (search_inputs table.rows b) c → found_at found c ≡ Some u → Includes other u
          least other all u c h e = (at-row c (Some u) (search-inside table.rows inside b c h) e).1.smallest other (λ t f. all t (c, h, f))

      inferred : (F : Time → Type 0) (o : Option Time) → IsFound F o → IsInferred F (unwrap_or o every_tick)
      inferred F None none = record { none = λ _. refl; some = λ t f. absurd (none t f) }
      inferred F (Some t) is = record { none = λ none. absurd (none is.0.0 is.0.1); some = λ u f. is.1 }

      pub input-times : (inside_times : List Time) → AreCollected table.rows found (length table.rows) inside_times →
          AreInputTimes table inside_times
      input-times inside_times collected = record {
        one_each = collected.len;
        are_input_times = λ b below.
            let r = collected.each b below in
            subst (IsInferred (FindsBefore table b)) (sym r.2) (inferred (FindsBefore table b) r.0 (before b r.0 r.1));
      }
