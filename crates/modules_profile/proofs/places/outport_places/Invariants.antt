use Rattle.std.proofs.Common.{◌≡◌}
use Rattle.std.specs.List.{filter_map, range_with_len}
use Rattle.modules_profile.specs.Places.{place_with}
use Rattle.modules_profile.proofs.places.outport_places.Given as goal

abbrev pub invariant-loop-k : goal.invariant-loop-k
invariant-loop-k l = l.places.items ≡ filter_map (place_with l.outports.items) (range_with_len 1 l.k)
