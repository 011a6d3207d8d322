use Rattle.std.proofs.Common.{◌≡◌, drop, length}
use Rattle.c_syntax.specs.PlainField.{field_trees}
use Rattle.emit_linker.specs.Children.{children_at, told_names}
use Rattle.emit_linker.proofs.child_names.name_table.Given as goal

abbrev pub invariant-loop-place : goal.invariant-loop-place
invariant-loop-place l = record {
  long : length l.table.items ≡ length l.fields;
  names : told_names l.table.items ≡ children_at (field_trees (drop l.place l.fields)) (length l.fields);
}
