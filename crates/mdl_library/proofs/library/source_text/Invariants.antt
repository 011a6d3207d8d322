use Rattle.std.proofs.Common.{◌≡◌, ◌∷◌, ◌++◌, drop}
use Rattle.mdl_library.specs.Library.{doubled}
use Rattle.mdl_library.proofs.library.source_text.Given as goal

abbrev pub invariant-loop-byte : goal.invariant-loop-byte
invariant-loop-byte l = l.text.items ++ doubled (drop l.byte-index l.name) ≡ l.fn.library ++ 47 ∷ doubled l.fn.name
