use Rattle.std.proofs.Common.{◌≡◌, ℕ, List, take}
use Rattle.c_syntax.specs.Outputs.{has_name}
use Rattle.c_outputs.proofs.name_table.table_of_texts.Given as goal

abbrev pub invariant-loop-text : goal.invariant-loop-text
invariant-loop-text l = (n : List ℕ) → has_name l.table n ≡ has_name (take l.text-index l.texts) n
