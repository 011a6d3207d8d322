-- Each table has sample times: a search goes over at most as many rows as there are, so what it finds can be gone through.
use Rattle.std.specs.Prelude.{◌≡◌, ℕ, zero, suc, ◌<◌, ◌≤◌, List, [], ◌∷◌, filter, length, Contains, Option, Some, None, MatchOption, ◌⊎◌}
use Rattle.std.specs.List.{last_or}
use Rattle.std.proofs.Common.{refl, sym, ◌∙◌, ap, subst, arith, inl, inr}
use Rattle.std.proofs.lemmas.List.{get_or_past}
use native.Mathlib.Decide.{dec_lt}
use Rattle.base_core.specs.declared.TimeText.{TimeText}
use Rattle.base_core.specs.declared.TimeText.TheVariants.{Inherit, Constant, Each}
use Rattle.base_refusals.specs.Refusals.{PlainRefusal}
use Rattle.diagram_meaning.specs.declared.table.Row.{Row}
use Rattle.diagram_meaning.specs.declared.times.Time.{Time}
use Rattle.diagram_meaning.specs.RowTable.{RowTable}
use Rattle.diagram_meaning.specs.Rows.{row_at, no_row, by_row, control_at, is_triggered, outward, enclosing}
use Rattle.diagram_meaning.specs.SampleTimes.{every_tick, ticks, Writes, outermost_trigger, search_time, search_inputs, search_inputs_in, Finds, here, through, FindsBefore, IsInputTime}
use Rattle.diagram_meaning.specs.TimeRefusals.{AreInputTimes, rate_refusal, written_time_refusal}
use Rattle.diagram_meaning.specs.TimeLaws.{InputTimesAreThere, TimeRefusalIsThere}
use Rattle.diagram_meaning.specs.Walk.{Walk}
use Rattle.diagram_meaning.proofs.lemmas.ByRow.{by_row-at, length-by_row}
use Rattle.diagram_meaning.proofs.OneTime.{Writes-one}
use Rattle.diagram_meaning.proofs.Progressions.{IsFound, found-none, found-one, found-either, found-same, found-among, inferred-from}
use Rattle.diagram_meaning.proofs.lemmas.ShortWalks.{short-walk}

-- where a search goes on from a row that writes this, with these inputs
abbrev goes_by : TimeText → List ℕ → List ℕ
goes_by Inherit inputs = inputs
goes_by Constant inputs = []
goes_by (Each period offset) inputs = []

no-member : (c : ℕ) → Contains [] c → ⊥
no-member c h = let below = h.1 in omega (arith, below)

module _ (table : RowTable) where
  abbrev goes_on : ℕ → List ℕ
  goes_on b = goes_by (search_time table.rows b) (search_inputs table.rows b)

  goes-inheriting : (text : TimeText) (inputs : List ℕ) (c : ℕ) → Contains (goes_by text inputs) c → (text ≡ Inherit) × Contains inputs c
  goes-inheriting Inherit inputs c h = (refl, h)
  goes-inheriting Constant inputs c h = absurd (no-member c h)
  goes-inheriting (Each period offset) inputs c h = absurd (no-member c h)

  -- ---- Rows past the end need nothing

  outside-none : (n : ℕ) → outward table.rows None n None ≡ []
  outside-none zero = refl
  outside-none (suc n) = refl

  past-trigger : (b : ℕ) → length table.rows ≤ b → outermost_trigger table.rows b ≡ None
  past-trigger b past =
      ap (λ (row : Row). last_or None (filter (λ e. is_triggered (control_at table.rows e)) (enclosing table.rows None row.owner)))
      (get_or_past table.rows b no_row past)
      ∙ ap (λ (es : List ℕ). last_or None (filter (λ e. is_triggered (control_at table.rows e)) es)) (outside-none (length table.rows))

  past-inputs : (b : ℕ) → length table.rows ≤ b → search_inputs table.rows b ≡ []
  past-inputs b past =
      ap (λ trigger. search_inputs_in table.rows trigger (row_at table.rows b).inputs) (past-trigger b past)
      ∙ ap (λ (row : Row). row.inputs) (get_or_past table.rows b no_row past)

  goes-in_table : (b c : ℕ) → Contains (goes_on b) c → b < length table.rows
  goes-in_table b c h = elim (dec_lt b (length table.rows)) [
    | yes inside ↦ inside
    | no past ↦ absurd (no-member c
        (subst (λ inputs. Contains inputs c) (past-inputs b (omega arith))
        (goes-inheriting (search_time table.rows b) (search_inputs table.rows b) c h).1))
  ]

  -- ---- What is found within some steps

  FindsWithin : ℕ → ℕ → Time → Type 0
  FindsWithin zero b t = ⊥
  FindsWithin (suc n) b t = Writes table (search_time table.rows b) t ⊎ ((c : ℕ) × Contains (goes_on b) c × FindsWithin n c t)

  -- the time that a text writes, if it writes one
  written-found : (text : TimeText) → (time : Option Time) × IsFound (Writes table text) time
  written-found Inherit = found-none _ (λ t w. w)
  written-found Constant = found-none _ (λ t w. w)
  written-found (Each period offset) = elim (dec_lt (ticks table offset) (ticks table period)) [
    | yes below ↦ found-one (Writes table (Each period offset))
        (record { period = ticks table period; offset = ticks table offset; in_period = below }) (refl, refl)
        (λ t w. Writes-one table (Each period offset) _ t (refl, refl) w)
    | no above ↦ found-none (Writes table (Each period offset)) (λ t w. let below = t.in_period in absurd (omega (arith, below, w.0, w.1)))
  ]

  within-found : (n b : ℕ) → (time : Option Time) × IsFound (FindsWithin n b) time
  unfolding FindsWithin
  within-found zero b = found-none _ (λ t w. w)
  within-found (suc n) b =
      found-either (Writes table (search_time table.rows b)) (λ t. (c : ℕ) × Contains (goes_on b) c × FindsWithin n c t)
      (written-found (search_time table.rows b)) (found-among (FindsWithin n) (within-found n) (goes_on b))

  within-finds : (n b : ℕ) (t : Time) → FindsWithin n b t → Finds table b t
  unfolding FindsWithin
  within-finds zero b t h = absurd h
  within-finds (suc n) b t (inl w) = here w
  within-finds (suc n) b t (inr (c, goes, f)) =
      let on = goes-inheriting (search_time table.rows b) (search_inputs table.rows b) c goes in
      through on.0 on.1 (within-finds n c t f)

  -- a search is a walk to a row that writes the time
  leads : (b : ℕ) (t : Time) → Finds table b t → Writes table (search_time table.rows b) t ⊎
      ((z : ℕ) × (path : List ℕ) × Walk goes_on b path z × Writes table (search_time table.rows z) t)
  leads b t (here w) = inl w
  leads b t (through {c = c} e h f) =
      let goes : Contains (goes_on b) c = subst (λ text. Contains (goes_by text (search_inputs table.rows b)) c) (sym e) h in
      elim (leads c t f) [
        | inl w ↦ inr (c, [], goes, w)
        | inr on ↦ inr (on.0, c ∷ on.1, (goes, on.2), on.3)
      ]

  within-walk : (n b : ℕ) (path : List ℕ) (z : ℕ) (t : Time) → Walk goes_on b path z → length path ≤ n →
      Writes table (search_time table.rows z) t → FindsWithin (suc (suc n)) b t
  unfolding FindsWithin
  within-walk n b [] z t walk le w = inr (z, walk, inl w)
  within-walk zero b (c ∷ path) z t walk le w = absurd (omega (arith, le))
  within-walk (suc n) b (c ∷ path) z t walk le w = inr (c, walk.0, within-walk n c path z t walk.1 (omega (arith, le)) w)

  finds-within : (b : ℕ) (t : Time) → Finds table b t → FindsWithin (suc (suc (length table.rows))) b t
  unfolding FindsWithin
  finds-within b t f = elim (leads b t f) [
    | inl w ↦ inl w
    | inr on ↦
        let short = short-walk goes_on on.0 (length table.rows) goes-in_table b on.1 on.2 in
        within-walk (length table.rows) b short.0 on.0 t short.1 short.2 on.3
  ]

  finds-found : (b : ℕ) → (time : Option Time) × IsFound (Finds table b) time
  finds-found b =
      let n = suc (suc (length table.rows)) in
      found-same (FindsWithin n b) (Finds table b) (within-finds n b) (finds-within b) (within-found n b)

  -- the time that the inputs of a row give
  pub input_time : (b : ℕ) → (time : Time) × IsInputTime table b time
  input_time b = inferred-from (FindsBefore table b) (found-among (Finds table) finds-found (search_inputs table.rows b))

pub input_times_are_there : InputTimesAreThere
input_times_are_there table = (
  by_row table.rows (λ b. (input_time table b).0),
  record {
    one_each = length-by_row table.rows (λ b. (input_time table b).0);
    are_input_times = λ b inside. subst (IsInputTime table b)
        (sym (by_row-at table.rows (λ b. (input_time table b).0) b every_tick inside)) (input_time table b).1;
  },
)

pub time_refusal_is_there : TimeRefusalIsThere
time_refusal_is_there table = by (written_time_refusal table)
  where
    by : (written : Option PlainRefusal) → (found : Option PlainRefusal) ×
        MatchOption written ((inside : List Time) × AreInputTimes table inside × (found ≡ rate_refusal table inside))
        (λ refusal. found ≡ Some refusal)
    by None = let given = input_times_are_there table in (rate_refusal table given.0, (given.0, given.1, refl))
    by (Some refusal) = (Some refusal, refl)
