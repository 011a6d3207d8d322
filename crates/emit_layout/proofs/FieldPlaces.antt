-- Where fields lie, by the numbers of rows in the tables, and that 32 bits number them.
use Rattle.std.proofs.Common.{◌≡◌, ℕ, ◌+◌, ◌*◌, ◌^◌, ◌≤◌, cond, eqb, List, length, Some, ap, ◌∙◌, subst, arith}
use Rattle.std.specs.Option.{unwrap_or, option_map}
use Rattle.std.proofs.lemmas.List.{length-map}
use Rattle.diagram_meaning.specs.Rows.{is_triggered}
use Rattle.emit_system_spec.specs.Fields.{first_place, value_rows, single_rows, line_rows, numbers, value_field, memory_field, ring_field, trigger_field, child_field, counter_field, shared_groups}
use Rattle.emit_layout.specs.declared.fields.Fields.TheInside.{Inside}
use Rattle.emit_layout.specs.Laid.{Scheduled}
use Rattle.emit_layout.specs.Tables.{HasFields}
use Rattle.emit_row_facts.proofs.lemmas.Steps.{place-within as within}

-- ---- Places in a list

pub place-within : (keys : List ℕ) (k : ℕ) → unwrap_or (first_place keys k) 0 ≤ length keys
place-within keys k = within (λ key. eqb key k) keys

pub place-at : (keys : List ℕ) (k i : ℕ) → first_place keys k ≡ Some i → i ≤ length keys
place-at keys k i e = subst (λ o. unwrap_or o 0 ≤ length keys) e (place-within keys k)

-- ---- The fields of a system

-- what a value of the program has, of the system that it is seen as
pub has-fields : (i : Inside) (self : Scheduled) →
    HasFields (record { local = i.local.now; schedule = i.schedule.now }) i.numbers.values i.numbers.singles i.numbers.lines i.numbers.counters →
    record { local = i.local.now; schedule = i.schedule.now } ≡ self →
    HasFields self i.numbers.values i.numbers.singles i.numbers.lines i.numbers.counters
has-fields i self has same = subst (λ (of : Scheduled). HasFields of i.numbers.values i.numbers.singles i.numbers.lines i.numbers.counters) same has

module _ (of : Scheduled) (v s l c : List ℕ) (has : HasFields of v s l c) where
  pub value-count : length v ≡ length (value_rows of.local)
  value-count = ap length has.values ∙ length-map (value_rows of.local) (λ r. r.row)

  pub single-count : length s ≡ length (single_rows of.local)
  single-count = ap length has.singles ∙ length-map (single_rows of.local) (λ r. r.row)

  pub line-count : length l ≡ length (line_rows of.local)
  line-count = ap length has.lines ∙ length-map (line_rows of.local) (λ r. r.row)

  pub counter-count : length c ≡ length (shared_groups of.schedule)
  counter-count = ap length has.counters

  -- how many fields are before the children
  pub trigger-is : length v + length s + 3 * length l ≡ trigger_field of.local
  trigger-is = omega (arith, value-count, single-count, line-count)

  pub all-fit : (length v + length s + 3 * length l + cond (is_triggered of.local.control) 1 0
      + length of.local.children) + length c ≤ 2 ^ 31
  all-fit = let few = has.emittable.fields in omega (arith, few, trigger-is, counter-count)

  pub value-is : (b : ℕ) → unwrap_or (first_place v b) 0 ≡ value_field of.local b
  value-is b = ap (λ keys. unwrap_or (first_place keys b) 0) has.values

  pub memory-is : (b : ℕ) → length v + unwrap_or (first_place s b) 0 ≡ memory_field of.local b
  memory-is b = let at : unwrap_or (first_place s b) 0 ≡ unwrap_or (first_place (numbers (single_rows of.local)) b) 0 =
      ap (λ keys. unwrap_or (first_place keys b) 0) has.singles in omega (arith, at, value-count)

  pub ring-is : (b : ℕ) → length v + length s + 3 * unwrap_or (first_place l b) 0 ≡ ring_field of.local b
  ring-is b = let at : unwrap_or (first_place l b) 0 ≡ unwrap_or (first_place (numbers (line_rows of.local)) b) 0 =
      ap (λ keys. unwrap_or (first_place keys b) 0) has.lines in omega (arith, at, value-count, single-count)

  pub counter-is : (g : ℕ) → option_map (λ k. child_field of.local (length of.local.children) + k) (first_place c g)
      ≡ counter_field of.local of.schedule g
  counter-is g = ap (λ keys. option_map (λ k. child_field of.local (length of.local.children) + k) (first_place keys g)) has.counters
