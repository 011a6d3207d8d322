-- The parts of right code for one system make the whole.
use Rattle.right_system_nodes.specs.Pieces.{EmittedPiecesAreRight}
use Rattle.right_system_ticks.specs.KeptTicks.{EmittedCodeKeepsTicks}
use Rattle.right_system_starts.specs.Renewal.{EmittedCodeStarts, EmittedCodeResets}
use Rattle.right_system_shape.specs.Formed.{EmittedCodeHasShape}
use Rattle.right_system_rules.specs.Laws.{EmittedIsLawful, EmittedHasShortChains}
use Rattle.emit_system_spec.specs.Fields.{code_slots}
use Rattle.right_system.specs.EmittedOk.{EmittedCodeIsOk}

pub emitted_code_is_ok : EmittedCodeHasShape → EmittedPiecesAreRight → EmittedCodeKeepsTicks → EmittedCodeStarts → EmittedCodeResets →
    EmittedIsLawful → EmittedHasShortChains → EmittedCodeIsOk
emitted_code_is_ok shape pieces ticks starts resets lawful chains local profile schedule is =
    let kept = ticks local profile schedule is (pieces local profile schedule is) in record {
      slots = code_slots local schedule;
      shape = shape local profile schedule is;
      behaves = record {
        held = kept.held;
        are_held = kept.are_held;
        counted = kept.counted;
        nothing_counted = kept.nothing_counted;
        in_ticks = kept.in_ticks;
        starts = starts local profile schedule is;
        resets = resets local profile schedule is;
      };
      lawful = lawful local profile schedule is;
      chains = chains local profile schedule is;
    }
