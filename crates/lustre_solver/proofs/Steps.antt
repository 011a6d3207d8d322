-- The steps of a search keep what a search keeps.
use Rattle.std.proofs.Common.{◌≡◌, ◌≢◌, refl, sym, ◌∙◌, ap, subst, ℕ, zero, suc, ◌+◌, ◌<◌, ◌≤◌, ℤ, Bool, true, false, List, [], ◌∷◌, length, arith, Option, Some, None, ◌⊎◌, inl, inr}
use Rattle.std.specs.List.{slice_set}
use Rattle.std.proofs.lemmas.List.{get_or-set_same, get_or-set_other, length-set}
use Rattle.std.proofs.Math.ListN.{get_or-eq_default}
use Rattle.lustre_flows.specs.Values.{gives, value_of, value_at, read}
use Rattle.lustre_flows.specs.FlowLaws.{ValuesStay}
use Rattle.lustre_settling.proofs.lemmas.Order.{values-stay-self, values-stay-on}
use Rattle.lustre_slots.specs.declared.placed.Source.TheVariants.{Row}
use Rattle.lustre_slot_laws.specs.Outcomes.{outcome, source_at}
use Rattle.lustre_syntax.specs.Plain.{file_tree}
use Rattle.lustre_evaluation.specs.declared.frames.Frame.{Frame}
use Rattle.lustre_evaluation.specs.Views.{before_by}
use Rattle.lustre_solver.specs.Searching.{comes, Solves, Searching, was_tried, waits_at, WaitsOn, IsWaiting, IsHeld, IsSearch, GoesOn, work}
use Rattle.lustre_solver.proofs.Staying.{given-later, value-later, waits-later, set-stays, set-below, untried-there, one-tried, equal-or-not, less-or-last}

-- ---- A slot is tried

abbrev pub entered : Searching → ℕ → Searching
entered s slot = record {
  now = s.now;
  tried = slice_set s.tried slot true;
  waiting = slice_set s.waiting s.depth slot;
  depth = s.depth + 1;
}

tried-still : (tried : List Bool) (slot other : ℕ) → was_tried tried other ≡ true → was_tried (slice_set tried slot true) other ≡ true
tried-still [] slot other was = was
tried-still (t ∷ ts) zero zero was = refl
tried-still (t ∷ ts) zero (suc other) was = was
tried-still (t ∷ ts) (suc slot) zero was = was
tried-still (t ∷ ts) (suc slot) (suc other) was = tried-still ts slot other was

pub tried-now : (tried : List Bool) (slot : ℕ) → was_tried (slice_set tried slot true) slot ≡ true
tried-now [] slot = refl
tried-now (t ∷ ts) zero = refl
tried-now (t ∷ ts) (suc slot) = tried-now ts slot

module _ (frame : Frame) (s : Searching) (search : IsSearch frame s) (slot : ℕ) (new : was_tried s.tried slot ≡ false)
    (next : (i : ℕ) → i + 1 ≡ s.depth → WaitsOn frame s.now (waits_at s i) slot) where
  pub enter-room : s.depth < length s.waiting
  enter-room =
      let more = one-tried s.tried slot new in
      let room = search.room in
      let size = search.size_waiting in
      omega arith

  below : (i : ℕ) → i < s.depth → waits_at (entered s slot) i ≡ waits_at s i
  below i small = get_or-set_other s.waiting s.depth i slot 0 (omega arith)

  last : waits_at (entered s slot) s.depth ≡ slot
  last = get_or-set_same s.waiting s.depth slot 0 enter-room

  -- what holds of those that waited and of this one holds of all
  each : (P : ℕ → Type 0) → ((i : ℕ) → i < s.depth → P (waits_at s i)) → P slot → (i : ℕ) → i < s.depth + 1 → P (waits_at (entered s slot) i)
  each P old now i small =
      elim (less-or-last i s.depth small) as (λ c. P (waits_at (entered s slot) i)) [
        | inl less ↦ subst P (sym (below i less)) (old i less)
        | inr is ↦ subst (λ j. P (waits_at (entered s slot) j)) (sym is) (subst P (sym last) now)
      ]

  pub enter-search : IsSearch frame (entered s slot)
  enter-search = record {
    sources = search.sources;
    size_tried = length-set s.tried slot true ∙ search.size_tried;
    size_waiting = length-set s.waiting s.depth slot ∙ search.size_waiting;
    room =
        let more = one-tried s.tried slot new in
        let room = search.room in
        omega arith;
    kept = search.kept;
    fresh = λ other fresh.
        elim (equal-or-not other slot) as (λ c. value_at s.now other ≡ None) [
          | inl is ↦ ap (value_at s.now) is ∙ search.fresh slot new
          | inr apart ↦ search.fresh other (sym (get_or-set_other s.tried slot other true true apart) ∙ fresh)
        ];
    waiting_there = each (λ k. k < length s.now) search.waiting_there
        (let there = untried-there s.tried slot new in
        let size = search.size_tried in omega arith);
    waiting_tried = each (λ k. was_tried (slice_set s.tried slot true) k ≡ true)
        (λ i small. tried-still s.tried slot (waits_at s i) (search.waiting_tried i small)) (tried-now s.tried slot);
    waiting_none = each (λ k. value_at s.now k ≡ None) search.waiting_none (search.fresh slot new);
    apart = λ i j less small.
        elim (less-or-last j s.depth small) as (λ c. waits_at (entered s slot) i ≢ waits_at (entered s slot) j) [
          | inl before ↦ λ same. search.apart i j less before (sym (below i (omega arith)) ∙ same ∙ below j before)
          | inr is ↦ λ same.
              let old : waits_at s i ≡ slot = sym (below i (omega arith)) ∙ same ∙ ap (waits_at (entered s slot)) is ∙ last in
              let tried : was_tried s.tried slot ≡ true = ap (was_tried s.tried) (sym old) ∙ search.waiting_tried i (omega arith) in
              absurd (cc)
        ];
    chain = λ i small.
        elim (less-or-last (i + 1) s.depth small) as (λ c. WaitsOn frame s.now (waits_at (entered s slot) i) (waits_at (entered s slot) (i + 1))) [
          | inl less ↦
              subst (λ k. WaitsOn frame s.now k (waits_at (entered s slot) (i + 1))) (sym (below i (omega arith)))
              (subst (WaitsOn frame s.now (waits_at s i)) (sym (below (i + 1) less)) (search.chain i less))
          | inr is ↦
              subst (λ k. WaitsOn frame s.now k (waits_at (entered s slot) (i + 1))) (sym (below i (omega arith)))
              (subst (WaitsOn frame s.now (waits_at s i)) (sym (ap (waits_at (entered s slot)) is ∙ last)) (next i is))
        ];
    held = λ other there tried none.
        elim (equal-or-not other slot) as (λ c. IsWaiting (entered s slot) other ⊎ IsHeld frame (entered s slot) other) [
          | inl is ↦ inl (s.depth, omega arith, last ∙ sym is)
          | inr different ↦
              elim (search.held other there (sym (get_or-set_other s.tried slot other true true different) ∙ tried) none)
              as (λ c. IsWaiting (entered s slot) other ⊎ IsHeld frame (entered s slot) other) [
                | inl waits ↦ inl (waits.0, (let less = waits.1 in omega arith), below waits.0 waits.1 ∙ waits.2)
                | inr held ↦ inr (record {
                  other = held.other;
                  waits = held.waits;
                  tried = tried-still s.tried slot held.other held.tried;
                  none = held.none;
                  apart = each (λ k. k ≢ held.other) held.apart
                      (λ same. let was : was_tried s.tried slot ≡ true = ap (was_tried s.tried) same ∙ held.tried in absurd (cc));
                })
              ]
        ];
  }

  pub enter-on : GoesOn frame s (entered s slot)
  enter-on = record {
    stays = values-stay-self s.now;
    least = λ others solves stay. stay;
    tried = λ other was. tried-still s.tried slot other was;
  }

  pub enter-nearer : work (entered s slot) < work s
  enter-nearer =
      let more = one-tried s.tried slot new in
      omega arith

-- ---- A slot gets its value

abbrev pub given : Searching → ℕ → ℤ → Searching
given s d v = record { now = slice_set s.now (waits_at s d) (Some v); tried = s.tried; waiting = s.waiting; depth = d }

module _ (frame : Frame) (s : Searching) (search : IsSearch frame s) (d : ℕ) (deep : s.depth ≡ d + 1) (v : ℤ)
    (comes-to : comes frame s.now (waits_at s d) ≡ gives v) where
  abbrev top : ℕ
  top = waits_at s d

  abbrev now : List (Option ℤ)
  now = slice_set s.now top (Some v)

  there : top < length s.now
  there = search.waiting_there d (omega arith)

  stay : ValuesStay s.now now
  stay = set-stays s.now top (Some v) (search.waiting_none d (omega arith))

  here : value_at now top ≡ Some v
  here = get_or-set_same s.now top (Some v) None there

  same-elsewhere : (slot : ℕ) → slot ≢ top → value_at now slot ≡ value_at s.now slot
  same-elsewhere slot apart = get_or-set_other s.now top slot (Some v) None apart

  below-apart : (i : ℕ) → i < d → waits_at s i ≢ top
  below-apart i small = search.apart i d small (omega arith)

  pub give-search : IsSearch frame (given s d v)
  give-search = record {
    sources = search.sources ∙ sym (length-set s.now top (Some v));
    size_tried = search.size_tried ∙ sym (length-set s.now top (Some v));
    size_waiting = search.size_waiting ∙ sym (length-set s.now top (Some v));
    room = let room = search.room in let size = length-set s.now top (Some v) in omega arith;
    kept = λ slot w is.
        elim (equal-or-not slot top) as (λ c. value_of (comes frame now slot) ≡ Some w) [
          | inl same ↦ ap (λ k. value_of (comes frame now k)) same
              ∙ ap value_of (given-later frame s.now now top v stay comes-to) ∙ sym here ∙ ap (value_at now) (sym same) ∙ is
          | inr apart ↦ value-later frame s.now now slot w stay (search.kept slot w (sym (same-elsewhere slot apart) ∙ is))
        ];
    fresh = λ slot new.
        let apart : slot ≢ top = λ same.
        let was : was_tried s.tried slot ≡ true = ap (was_tried s.tried) same ∙ search.waiting_tried d (omega arith) in absurd (cc) in
        same-elsewhere slot apart ∙ search.fresh slot new;
    waiting_there = λ i small. let less = search.waiting_there i (omega arith) in let size = length-set s.now top (Some v) in omega arith;
    waiting_tried = λ i small. search.waiting_tried i (omega arith);
    waiting_none = λ i small. same-elsewhere (waits_at s i) (below-apart i small) ∙ search.waiting_none i (omega arith);
    apart = λ i j less small. search.apart i j less (omega arith);
    chain = λ i small. waits-later frame s.now now (waits_at s i) (waits_at s (i + 1)) stay (search.chain i (omega arith));
    held = λ slot inside tried none.
        let apart : slot ≢ top = λ same. let filled : value_at now slot ≡ Some v = ap (value_at now) same ∙ here in absurd (cc) in
        let size = length-set s.now top (Some v) in
        elim (search.held slot (omega arith) tried (sym (same-elsewhere slot apart) ∙ none))
        as (λ c. IsWaiting (given s d v) slot ⊎ IsHeld frame (given s d v) slot) [
          | inl waits ↦
              elim (less-or-last waits.0 d (let less = waits.1 in omega arith)) as (λ c. IsWaiting (given s d v) slot ⊎ IsHeld frame (given s d v) slot) [
                | inl less ↦ inl (waits.0, less, waits.2)
                | inr is ↦ absurd (apart (sym waits.2 ∙ ap (waits_at s) is))
              ]
          | inr held ↦ inr (record {
            other = held.other;
            waits = waits-later frame s.now now slot held.other stay held.waits;
            tried = held.tried;
            none = same-elsewhere held.other (λ same. held.apart d (omega arith) (sym same)) ∙ held.none;
            apart = λ i small. held.apart i (omega arith);
          })
        ];
  }

  pub give-on : GoesOn frame s (given s d v)
  give-on = record {
    stays = stay;
    least = λ others solves below.
        set-below s.now others top v below
        (solves top ∙ ap value_of (given-later frame s.now others top v below comes-to));
    tried = λ slot was. was;
  }

  pub give-nearer : work (given s d v) < work s
  give-nearer = omega arith

-- ---- All that wait wait for good

abbrev pub stopped : Searching → Searching
stopped s = record { now = s.now; tried = s.tried; waiting = s.waiting; depth = 0 }

module _ (frame : Frame) (s : Searching) (search : IsSearch frame s) (d : ℕ) (deep : s.depth ≡ d + 1) (other : ℕ)
    (waits : WaitsOn frame s.now (waits_at s d) other) (was : was_tried s.tried other ≡ true) (none-there : value_at s.now other ≡ None) where
  held-by : (slot next : ℕ) → WaitsOn frame s.now slot next → was_tried s.tried next ≡ true → value_at s.now next ≡ None →
      IsHeld frame (stopped s) slot
  held-by slot next waiting tried none = record {
    other = next;
    waits = waiting;
    tried = tried;
    none = none;
    apart = λ i small. absurd (omega arith);
  }

  waiting-held : (i slot : ℕ) → i < s.depth → waits_at s i ≡ slot → IsHeld frame (stopped s) slot
  waiting-held i slot small is =
      subst (IsHeld frame (stopped s)) is
      (elim (less-or-last i d (omega arith)) as (λ c. IsHeld frame (stopped s) (waits_at s i)) [
        | inl less ↦ held-by (waits_at s i) (waits_at s (i + 1)) (search.chain i (omega arith)) (search.waiting_tried (i + 1) (omega arith))
            (search.waiting_none (i + 1) (omega arith))
        | inr last ↦ held-by (waits_at s i) other (subst (λ j. WaitsOn frame s.now (waits_at s j) other) (sym last) waits) was none-there
      ])

  pub stop-search : IsSearch frame (stopped s)
  stop-search = record {
    sources = search.sources;
    size_tried = search.size_tried;
    size_waiting = search.size_waiting;
    room = let room = search.room in omega arith;
    kept = search.kept;
    fresh = search.fresh;
    waiting_there = λ i small. absurd (omega arith);
    waiting_tried = λ i small. absurd (omega arith);
    waiting_none = λ i small. absurd (omega arith);
    apart = λ i j less small. absurd (omega arith);
    chain = λ i small. absurd (omega arith);
    held = λ slot inside tried none.
        elim (search.held slot inside tried none) as (λ c. IsWaiting (stopped s) slot ⊎ IsHeld frame (stopped s) slot) [
          | inl waits ↦ inr (waiting-held waits.0 slot waits.1 waits.2)
          | inr held ↦ inr (held-by slot held.other held.waits held.tried held.none)
        ];
  }

  pub stop-on : GoesOn frame s (stopped s)
  stop-on = record {
    stays = values-stay-self s.now;
    least = λ others solves below. below;
    tried = λ slot was. was;
  }

  pub stop-nearer : work (stopped s) < work s
  stop-nearer = omega arith

-- ---- Searches

pub on-self : (frame : Frame) (s : Searching) → GoesOn frame s s
on-self frame s = record {
  stays = values-stay-self s.now;
  least = λ others solves below. below;
  tried = λ slot was. was;
}

pub on-further : (frame : Frame) (s t u : Searching) → GoesOn frame s t → GoesOn frame t u → GoesOn frame s u
on-further frame s t u first then-on = record {
  stays = values-stay-on s.now t.now u.now first.stays then-on.stays;
  least = λ others solves below. then-on.least others solves (first.least others solves below);
  tried = λ slot was. then-on.tried slot (first.tried slot was);
}

-- where all slots were tried and none waits, each has the value to which it comes
pub search-solves : (frame : Frame) (s : Searching) → IsSearch frame s → s.depth ≡ 0 →
    ((slot : ℕ) → slot < length s.now → was_tried s.tried slot ≡ true) → Solves frame s.now
search-solves frame s search idle tried = λ slot. by slot (less-or-not slot (length s.now)) (value_at s.now slot) refl
  where
    less-or-not : (x y : ℕ) → (x < y) ⊎ (y ≤ x)
    less-or-not x y = grind arith

    by : (slot : ℕ) → (slot < length s.now) ⊎ (length s.now ≤ slot) → (w : Option ℤ) → value_at s.now slot ≡ w →
        value_at s.now slot ≡ value_of (comes frame s.now slot)
    by slot (inl there) (Some v) is = is ∙ sym (search.kept slot v is)
    by slot (inl there) None is =
        elim (search.held slot there (tried slot there) is) as (λ c. value_at s.now slot ≡ value_of (comes frame s.now slot)) [
          | inl waits ↦ let less = waits.1 in absurd (omega arith)
          | inr held ↦ is ∙ sym (held.waits s.now (values-stay-self s.now) held.none)
        ]
    by slot (inr past) w is =
        let nothing : value_at s.now slot ≡ None = get_or-eq_default s.now None past in
        let row : source_at frame.sources.now slot ≡ Row =
        get_or-eq_default frame.sources.now Row (let size = search.sources in omega arith) in
        let outcome-is : comes frame s.now slot ≡ read (value_at s.now slot) =
        ap (outcome (file_tree frame.file.now) (before_by frame.begun frame.before.now) s.now slot) row in
        nothing ∙ sym (ap value_of (outcome-is ∙ ap read nothing))
