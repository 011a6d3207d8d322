-- How two tests are joined.
use Rattle.c_syntax.specs.Tree.{CondTree, both, either}
use Rattle.emit_row_code.specs.declared.balanced.Joint.{Joint}
use Rattle.emit_row_code.specs.declared.balanced.Joint.TheVariants.{Both, Either, Differ}
use Rattle.emit_row_code.specs.RowCode.{differ}

abbrev pub join_of : Joint → CondTree → CondTree → CondTree
join_of Both a b = both a b
join_of Either a b = either a b
join_of Differ a b = differ a b
