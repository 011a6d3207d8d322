-- The model is resolved, and has two rates.
use Rattle.std.specs.Prelude.{◌≡◌, None, slice_index_or, refl}
use Rattle.std.proofs.Common.{lit<, ◌∙◌}
use Rattle.diagram_meaning.specs.SampleTimes.{every_tick, HasTime, hyperperiod}
use Rattle.diagram_meaning.specs.TimeRefusals.{written_time_refusal, HasTimeRefusal}
use Rattle.diagram_meaning.specs.TimeLaws.{TablesHaveTimes, InputTimesAreThere}
use Rattle.diagram_meaning.specs.ResolvedLaws.{TimeIsOne}
use Rattle.diagram_meaning.specs.ResolvedTree.{diagram_of}
use Rattle.right_sample_model.specs.Rows.{rich_table}
use Rattle.right_sample_model.specs.RichModel.{second_ticks, RichModel}
use Rattle.right_sample_model.proofs.Made.{rich_systems}
use Rattle.right_sample_model.proofs.Models.{model}
use Rattle.right_sample_model.proofs.Needed.{rich_needs}
use Rattle.right_sample_model.proofs.Formed.{rich_is_well_formed}
use Rattle.right_sample_model.proofs.Typed.{rich_types_accepted, rich_types}
use Rattle.right_sample_model.proofs.Falling.{no-loop}

written_right : written_time_refusal rich_table ≡ None
written_right = refl

times_right : InputTimesAreThere → HasTimeRefusal rich_table None
times_right there = let inside = there rich_table in rw written_right (inside.0, inside.1, refl)

rich_cycle : hyperperiod rich_table ≡ 2
rich_cycle = refl

first_time : HasTime rich_table 0 every_tick
first_time = (refl, refl)

held_time : HasTime rich_table 11 second_ticks
held_time = (refl, refl)

pub rich_model_is_there : TablesHaveTimes → InputTimesAreThere → TimeIsOne → RichModel
rich_model_is_there have_times inputs one =
    let times = have_times rich_table rich_is_well_formed in record {
      model = model times.0;
      is_rich = refl;
      is_resolved = record {
        tree = record { table = rich_is_well_formed; systems = rich_systems };
        resolved = record {
          types_accepted = rich_types_accepted;
          times_accepted = times_right inputs;
          one_type_each = refl;
          are_types = rich_types;
          are_times = times.1;
          are_ops = refl;
        };
      };
      no_loop = no-loop (diagram_of (model times.0)) refl;
      fast = one rich_table 0 (slice_index_or times.0.run 0 every_tick) every_tick (times.1.run 0 (lit< tt)) first_time;
      slow = one rich_table 11 (slice_index_or times.0.run 11 every_tick) second_ticks (times.1.run 11 (lit< tt)) held_time;
      cycle = times.1.hyper ∙ rich_cycle;
      needs = rich_needs times.0;
    }
