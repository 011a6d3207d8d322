use Rattle.std.proofs.Common.{drop}
use Rattle.emit_linker.specs.Places.{TellsCodes, place_in}
use Rattle.emit_linker.proofs.tables.names_of.Given as goal

abbrev pub invariant-loop-place : goal.invariant-loop-place
invariant-loop-place l = TellsCodes l.place (drop l.place l.list) (place_in l.names.value)
