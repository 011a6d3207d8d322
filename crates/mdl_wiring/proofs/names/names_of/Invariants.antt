use Rattle.std.proofs.Common.{take}
use Rattle.mdl_wiring.specs.Members.{members_seen}
use Rattle.mdl_wiring.specs.NameMaps.{AreNamesOf}
use Rattle.mdl_wiring.proofs.names.names_of.Given as goal

abbrev pub invariant-loop-place : goal.invariant-loop-place
invariant-loop-place l = AreNamesOf (members_seen (take l.place l.members)) l.places
