use Rattle.std.proofs.Common.{◌≡◌, take}
use Rattle.diagram_blocks.specs.Kinds.{is_outport}
use Rattle.modules_profile.specs.Places.{ported_places}
use Rattle.modules_profile.proofs.places.outports.Given as goal

abbrev pub invariant-loop-place : goal.invariant-loop-place
invariant-loop-place l = l.outports.items ≡ ported_places is_outport (take l.place l.rows)
