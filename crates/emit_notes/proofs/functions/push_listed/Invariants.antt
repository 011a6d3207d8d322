use Rattle.std.proofs.Common.{◌≡◌, ◌++◌, take, codes}
use Rattle.std.specs.List.{flat_map}
use Rattle.emit_notes.specs.FunctionNotes.{quoted}
use Rattle.emit_notes.proofs.functions.push_listed.Given as goal

abbrev pub invariant-loop-row : goal.invariant-loop-row
invariant-loop-row l =
    l.out.items ≡ l.initial.out.items ++ flat_map (quoted l.labels (codes ", ")) (take l.row-index l.later)
