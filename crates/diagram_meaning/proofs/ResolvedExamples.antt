-- Small tables: which are well formed, and what is wrong with the types of some.
use Rattle.std.specs.Prelude.{◌≡◌, ℕ, List, [], ◌∷◌, false, Option, Some, None, refl}
use Rattle.std.proofs.Common.{sym, ◌∙◌, lit≤}
use Rattle.base_core.specs.declared.Control.TheVariants.{Triggered}
use Rattle.base_core.specs.declared.Edge.TheVariants.{Rising}
use Rattle.base_core.specs.declared.TimeText.TheVariants.{Inherit as NoTime}
use Rattle.base_refusals.specs.declared.TypeWhy.TheVariants.{Missing, Unlike}
use Rattle.base_refusals.specs.Refusals.{PlainRefusal, NoType, TriggerSigned, TooWide}
use Rattle.base_fixed_point.specs.declared.FixType.{FixType}
use Rattle.base_fixed_point.specs.declared.TypeText.{TypeText}
use Rattle.base_fixed_point.specs.declared.TypeText.TheVariants.{Inherit, Fixed}
use Rattle.base_fixed_point.specs.Types.{int8, int16, int32, uint32, boolean}
use Rattle.diagram_blocks.specs.declared.Kind.{Kind}
use Rattle.diagram_blocks.specs.declared.Kind.TheVariants.{Inport, Outport, SubSystem, Ground, Product, UnitDelay, TriggerPort}
use Rattle.diagram_blocks.specs.declared.Op.{Op}
use Rattle.diagram_meaning.specs.declared.table.Row.{Row}
use Rattle.diagram_meaning.specs.RowTable.{RowTable}
use Rattle.diagram_meaning.specs.RowTimes.{RowTimes}
use Rattle.diagram_meaning.specs.TypeRefusals.{type_refusal, types_of_rows}
use Rattle.diagram_meaning.specs.Diagram.{IsResolved}
use Rattle.diagram_meaning.specs.WellFormed.{IsWellFormed}
use Rattle.diagram_meaning.specs.RunExamples.{whole_decimal, zero_initial, how}
use Rattle.diagram_meaning.proofs.lemmas.WellFormedTests.{well_formed-from}
use Rattle.diagram_meaning.proofs.lemmas.Timeless.{timeless_ops, at_every_tick, resolved-from}

abbrev row : (number : ℕ) → Option ℕ → Kind → List ℕ → TypeText → Row
row number owner kind inputs text = record {
  place = record { row = number; line = 10 };
  owner = owner;
  kind = kind;
  inputs = inputs;
  type_text = text;
  time_text = NoTime;
}

abbrev table : List Row → RowTable
table rows = record { rows = rows; fixed_step = None }

-- ---- A delay of 7

abbrev delayed : RowTable
delayed = table (
    row 0 None (Inport 1) [] (Fixed int32) ∷ row 1 None (UnitDelay (whole_decimal 7 (lit≤ tt))) (0 ∷ []) Inherit
    ∷ row 2 None (Outport 1 false zero_initial) (1 ∷ []) Inherit ∷ [])

pub delayed_is_well_formed : IsWellFormed delayed
delayed_is_well_formed =
    well_formed-from delayed refl refl refl refl refl (
      record { kind = tt; type = tt; time = tt },
      (record { kind = tt; type = refl; time = tt }, (record { kind = tt; type = tt; time = tt }, tt)),
    ) tt

pub delayed_types : types_of_rows delayed.rows ≡ int32 ∷ int32 ∷ int32 ∷ []
delayed_types = refl

pub delayed_is_resolved : IsResolved delayed (types_of_rows delayed.rows) (timeless_ops delayed refl) (at_every_tick delayed refl)
delayed_is_resolved = resolved-from delayed refl refl refl refl refl refl

-- ---- A subsystem with a trigger

-- an input, a trigger of this type, the subsystem with its own input, port and output, and an output
abbrev with_trigger : FixType → RowTable
with_trigger type = table (
    row 0 None (Inport 1) [] (Fixed int32) ∷ row 1 None (Inport 2) [] (Fixed type)
    ∷ row 2 None (SubSystem (Triggered Rising)) (1 ∷ []) Inherit
    ∷ row 3 (Some 2) (Inport 1) (0 ∷ []) Inherit ∷ row 4 (Some 2) TriggerPort [] Inherit
    ∷ row 5 (Some 2) (Outport 1 false zero_initial) (3 ∷ []) Inherit
    ∷ row 6 None (Outport 1 false zero_initial) (5 ∷ []) Inherit ∷ [])

pub triggered_is_well_formed : IsWellFormed (with_trigger boolean)
triggered_is_well_formed =
    well_formed-from (with_trigger boolean) refl refl refl refl refl (
      record { kind = tt; type = tt; time = tt },
      (
        record { kind = tt; type = tt; time = tt },
        (
          record { kind = tt; type = refl; time = refl },
          (
            record { kind = tt; type = tt; time = tt },
            (
              record { kind = tt; type = refl; time = refl },
              (
                record { kind = tt; type = tt; time = tt },
                (record { kind = tt; type = tt; time = tt }, tt),
              ),
            ),
          ),
        ),
      ),
    ) tt

pub triggered_types : types_of_rows (with_trigger boolean).rows ≡ int32 ∷ boolean ∷ boolean ∷ int32 ∷ boolean ∷ int32 ∷ int32 ∷ []
triggered_types = refl

pub triggered_is_resolved : IsResolved (with_trigger boolean) (types_of_rows (with_trigger boolean).rows)
    (timeless_ops (with_trigger boolean) refl) (at_every_tick (with_trigger boolean) refl)
triggered_is_resolved = resolved-from (with_trigger boolean) refl refl refl refl refl refl

pub signed_trigger : type_refusal (with_trigger int32).rows ≡ Some (TriggerSigned 10)
signed_trigger = refl

-- ---- An output that writes another type than its input has

abbrev unlike : RowTable
unlike = table (row 0 None (Inport 1) [] (Fixed int8) ∷ row 1 None (Outport 1 false zero_initial) (0 ∷ []) (Fixed int16) ∷ [])

pub unlike_is_well_formed : IsWellFormed unlike
unlike_is_well_formed =
    well_formed-from unlike refl refl refl refl refl (
      record { kind = tt; type = tt; time = tt },
      (record { kind = tt; type = tt; time = tt }, tt),
    ) tt

pub unlike_refusal : type_refusal unlike.rows ≡ Some (NoType 10 Unlike)
unlike_refusal = refl

some-none : (refusal : PlainRefusal) → (let found : Option PlainRefusal = Some refusal in found ≡ None) → ⊥
some-none refusal e = cc e

-- nothing resolves it
pub unlike_is_not_resolved : (types : List FixType) (ops : List Op) (times : RowTimes) → IsResolved unlike types ops times → ⊥
unlike_is_not_resolved types ops times h = some-none (NoType 10 Unlike) (sym unlike_refusal ∙ h.types_accepted)

-- after a ground any type may be written, and without one there is none
pub ground_is_like_any : type_refusal (row 0 None Ground [] Inherit ∷ row 1 None (Outport 1 false zero_initial) (0 ∷ [])
    (Fixed int16) ∷ []) ≡ None
ground_is_like_any = refl

pub ground_gives_none : type_refusal
    (row 0 None Ground [] Inherit ∷ row 1 None (Outport 1 false zero_initial) (0 ∷ []) Inherit ∷ [])
    ≡ Some (NoType 10 Missing)
ground_gives_none = refl

-- a product of two numbers of 32 bits without a sign needs 64 bits
pub too_wide : type_refusal (
    row 0 None (Inport 1) [] (Fixed uint32) ∷ row 1 None (Inport 2) [] (Fixed uint32) ∷ row 2 None (Product 2 how) (0 ∷ 1 ∷ []) Inherit
    ∷ row 3 None (Outport 1 false zero_initial) (2 ∷ []) Inherit ∷ []) ≡ Some (TooWide 10 64)
too_wide = refl
