use Rattle.std.proofs.Common.{◌≡◌, ◌++◌, map, take}
use Rattle.c_syntax.specs.PlainField.{field_trees}
use Rattle.emit_linker.specs.Ports.{field_of}
use Rattle.emit_linker.proofs.root_struct.push_outports.Given as goal

abbrev pub invariant-loop-outport : goal.invariant-loop-outport
invariant-loop-outport l = field_trees l.list.items ≡ field_trees l.initial.list.items ++ map field_of (take l.outport-index l.outports)
