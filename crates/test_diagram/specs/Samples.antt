-- Rows of which tests speak.
use Rattle.std.specs.Prelude.{[], None}
use Rattle.base_core.specs.declared.TimeText.TheVariants.{Inherit as NoTime}
use Rattle.base_fixed_point.specs.declared.TypeText.{TypeText}
use Rattle.diagram_blocks.specs.declared.Kind.TheVariants.{Inport}
use Rattle.diagram_meaning.specs.declared.table.Row.{Row}

-- an input with this text of its type, as the first row of the root
abbrev pub inport_row : TypeText → Row
inport_row text =
    record {
      place = record { row = 0; line = 3 };
      owner = None;
      kind = Inport 1;
      inputs = [];
      type_text = text;
      time_text = NoTime;
    }
