-- Rows of a table that a model file can have write lawful times, and read rows of the table.
use Rattle.std.proofs.Common.{◌≡◌, sym, ◌∙◌, subst, arith, ℕ, zero, suc, ◌^◌, ◌<◌, ◌≤◌, List, [], ◌∷◌, length, get_or, Contains, inl, inr}
use Rattle.std.specs.List.{AllByRecursion}
use Rattle.std.proofs.lemmas.Bool.{cases_lt}
use Rattle.std.proofs.lemmas.List.{get_or_past}
use Rattle.base_core.specs.declared.TimeText.{TimeText}
use Rattle.base_core.specs.declared.TimeText.TheVariants.{Inherit, Constant, Each}
use Rattle.diagram_blocks.specs.declared.Kind.{Kind}
use Rattle.diagram_blocks.specs.declared.Kind.TheVariants.{SubSystem, Constant as ConstantBlock, Ground, Terminator, RateTransition, EnablePort, TriggerPort}
use Rattle.diagram_meaning.specs.declared.table.Row.{Row}
use Rattle.diagram_meaning.specs.RowTable.{RowTable}
use Rattle.diagram_meaning.specs.Rows.{row_at, no_row}
use Rattle.diagram_meaning.specs.SampleTimes.{written_by}
use Rattle.diagram_meaning.specs.WellFormed.{IsInheritedOrEach, IsAnyTime, IsKind, IsTimeTextOf, IsRow, IsWireIn, IsWellFormed, reading_system}
use Rattle.diagram_times.specs.Feeding.{AreInputsInside}
use Rattle.diagram_times.specs.Lawful.{IsLawfulText, AreLawful}

all-at : {X : Type 0} (P : X → Type 0) (xs : List X) (i : ℕ) (d : X) → AllByRecursion P xs → i < length xs → P (get_or xs i d)
all-at P [] i d all below = absurd (omega arith)
all-at P (x ∷ xs) zero d all below = all.0
all-at P (x ∷ xs) (suc i) d all below = all-at P xs i d all.1 (omega (arith, below))

all-contained : {X : Type 0} (P : X → Type 0) (xs : List X) (x : X) → AllByRecursion P xs → Contains xs x → P x
all-contained P xs x all (i, below, is) = subst P is (all-at P xs i x all below)

inherited-or-each : (text : TimeText) → IsInheritedOrEach text → IsLawfulText text
inherited-or-each Inherit h = tt
inherited-or-each Constant h = tt
inherited-or-each (Each period offset) h = h

any-time : (text : TimeText) → IsAnyTime text → IsLawfulText text
any-time Inherit h = tt
any-time Constant h = tt
any-time (Each period offset) h = h

inherited : (text : TimeText) → text ≡ Inherit → IsLawfulText text
inherited text e = subst IsLawfulText (sym e) tt

-- what a lawful row writes is lawful
lawful-row : (kind : Kind) (own : TimeText) → IsKind kind → IsTimeTextOf kind own → IsLawfulText (written_by kind own)
lawful-row (SubSystem control) own k h = inherited own h
lawful-row (ConstantBlock value) own k h = any-time own h
lawful-row Ground own k h = tt
lawful-row Terminator own k h = inherited own h
lawful-row (RateTransition initial out) own k h = inherited-or-each out k
lawful-row EnablePort own k h = inherited own h
lawful-row TriggerPort own k h = inherited own h
lawful-row _ own k h = inherited-or-each own h

module _ (table : RowTable) (formed : IsWellFormed table) where
  pub are-lawful : AreLawful table.rows table.fixed_step
  are-lawful = record {
    texts = λ b below.
        let row : IsRow (row_at table.rows b) = all-at IsRow table.rows b no_row formed.each below in
        lawful-row (row_at table.rows b).kind (row_at table.rows b).time_text row.kind row.time;
    step_lawful = formed.step;
  }

  pub inputs-inside : AreInputsInside table.rows
  inputs-inside b a holds = elim (cases_lt b (length table.rows)) [
    | inl below ↦
        let row = row_at table.rows b in
        (all-contained (IsWireIn table.rows (reading_system table.rows row.kind row.owner)) row.inputs a
        (formed.wired.wires b below) holds).0
    | inr past ↦
        let h : Contains no_row.inputs a = subst (λ (r : Row). Contains r.inputs a) (get_or_past table.rows b no_row past) holds in
        absurd (let low = h.1 in omega (arith, low))
  ]

  pub are-few : length table.rows < 2 ^ 32
  are-few = let most = formed.nested.at_most in omega (arith, most)
