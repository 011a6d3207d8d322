use Rattle.std.proofs.Common.{◌≡◌, false, drop}
use Rattle.mdl_tree.specs.Text.{string_from, with_front}
use Rattle.mdl_reader.proofs.strings.read_string.Given as goal

abbrev pub invariant-loop-at : goal.invariant-loop-at
invariant-loop-at l = with_front l.value.items (string_from l.escaped (drop l.at l.bytes)) ≡ string_from false l.bytes
