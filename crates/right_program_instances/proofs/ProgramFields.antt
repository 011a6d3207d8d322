-- The fields of the structs of a program that is put together.
use Rattle.std.specs.Prelude.{List, None}
use Rattle.diagram_blocks.specs.Kinds.{port_of}
use Rattle.modules_profile.specs.declared.LocalRow.{LocalRow}
use Rattle.modules_profile.specs.Systems.{system_name}
use Rattle.c_syntax.specs.declared.CType.TheVariants.{I32}
use Rattle.c_syntax.specs.declared.FieldKind.TheVariants.{Number, Struct}
use Rattle.c_syntax.specs.Tree.{FieldTree}
use Rattle.emit_shape.specs.Names.{container, now_name}
use Rattle.c_syntax.specs.Outputs.{output_name}
use Rattle.emit_shape.specs.SystemTree.{SystemTree}
use Rattle.emit_shape.specs.Assembled.{struct_position, moved_kind}

-- a code's field in the program
abbrev pub moved_field : List SystemTree → FieldTree → FieldTree
moved_field codes f = record { name = f.name; kind = moved_kind codes f.name f.kind }

-- the fields of the root's struct: the tick, an output, and `top`
abbrev pub now_field : FieldTree
now_field = record { name = now_name; kind = Number I32 }

abbrev pub output_field : LocalRow → FieldTree
output_field o = record { name = output_name (port_of o.kind); kind = Number (container o.out) }

abbrev pub top_field : List SystemTree → FieldTree
top_field codes = record { name = system_name None; kind = Struct (struct_position codes 0) }
