-- What the rows of a system are before the first tick.
use Rattle.std.specs.Prelude.{ℤ}
use Rattle.diagram_meaning.specs.Run.{start_by}
use Rattle.modules_profile.specs.declared.LocalRow.{LocalRow}
use Rattle.modules_profile.specs.LocalSystem.{LocalSystem}

-- the value of a row, and what a delay remembers, before the first tick
abbrev pub row_start : LocalSystem → LocalRow → ℤ
row_start local r = start_by r.op r.kind local.control r.out
