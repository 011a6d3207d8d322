-- The file and a program of a model with one delay give the same.
use Rattle.std.specs.Prelude.{refl}
use Rattle.std.specs.Fmt.{digits}
use Rattle.right_claim.specs.DelaySamples.{one_delay, delay_program, delay_trace}
use Rattle.lustre_system.specs.File.{lustre_file}
use Rattle.lustre_agreement.specs.BackEnds.{GiveTheSame}

pub delay_gives : GiveTheSame (lustre_file one_delay 1) delay_program delay_trace
unfolding digits
delay_gives = record { flows_go_on = refl; rows_go_on = refl; same_outputs = refl }
