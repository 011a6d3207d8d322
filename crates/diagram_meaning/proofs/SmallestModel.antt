-- The table of a model with one input passed to one output is well formed, and has types and sample times.
use Rattle.std.specs.Prelude.{List, [], ◌∷◌, false, None, refl}
use Rattle.base_core.specs.declared.Control.TheVariants.{Plain}
use Rattle.base_core.specs.declared.TimeText.TheVariants.{Inherit as NoTime}
use Rattle.base_fixed_point.specs.declared.TypeText.TheVariants.{Inherit as NoType, Fixed}
use Rattle.base_fixed_point.specs.Types.{int32}
use Rattle.diagram_blocks.specs.declared.Kind.TheVariants.{Inport, Outport}
use Rattle.diagram_blocks.specs.declared.Op.TheVariants.{Copy}
use Rattle.diagram_meaning.specs.declared.table.Row.{Row}
use Rattle.diagram_meaning.specs.RowTable.{RowTable}
use Rattle.diagram_meaning.specs.Nested.{system, no_more, AreSystemsOf}
use Rattle.diagram_meaning.specs.SampleTimes.{every_tick}
use Rattle.diagram_meaning.specs.Diagram.{IsResolved}
use Rattle.diagram_meaning.specs.WellFormed.{IsWellFormed}
use Rattle.diagram_meaning.specs.RunExamples.{zero_initial}
use Rattle.diagram_meaning.proofs.lemmas.WellFormedTests.{well_formed-from}
use Rattle.diagram_meaning.proofs.lemmas.Timeless.{resolved-from}

abbrev smallest : List Row
smallest =
    record { place = record { row = 0; line = 3 }; owner = None; kind = Inport 1; inputs = []; type_text = Fixed int32; time_text = NoTime }
    ∷ record {
      place = record { row = 1; line = 9 };
      owner = None;
      kind = Outport 1 false zero_initial;
      inputs = 0 ∷ [];
      type_text = NoType;
      time_text = NoTime;
    }
    ∷ []

abbrev table : RowTable
table = record { rows = smallest; fixed_step = None }

pub smallest_is_well_formed : IsWellFormed table
smallest_is_well_formed =
    well_formed-from table refl refl refl refl refl (
      record { kind = tt; type = tt; time = tt },
      (record { kind = tt; type = tt; time = tt }, tt),
    ) tt

pub smallest_systems : AreSystemsOf smallest (system None 2 Plain (0 ∷ 1 ∷ []) no_more)
smallest_systems = record { is_root = refl; agrees = (refl, refl, refl, tt) }

pub smallest_is_resolved : IsResolved table (int32 ∷ int32 ∷ []) (Copy ∷ Copy ∷ [])
    (record { run = every_tick ∷ every_tick ∷ []; delays = false ∷ false ∷ []; hyper = 1 })
smallest_is_resolved = resolved-from table refl refl refl refl refl refl
