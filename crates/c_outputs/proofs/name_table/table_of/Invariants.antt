use Rattle.std.proofs.Common.{◌≡◌, ℕ, List, map, take}
use Rattle.c_syntax.specs.Outputs.{has_name}
use Rattle.c_outputs.proofs.name_table.table_of.Given as goal

abbrev pub invariant-loop-name : goal.invariant-loop-name
invariant-loop-name l = (n : List ℕ) → has_name l.table n ≡ has_name (map (λ x. x.now) (take l.name-index l.names)) n
