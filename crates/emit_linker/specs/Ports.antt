-- What the root's code takes from the root's own Inports and Outports.
use Rattle.c_syntax.specs.declared.FieldKind.TheVariants.{Number}
use Rattle.c_syntax.specs.Tree.{FieldTree, ParamTree}
use Rattle.emit_shape.specs.Names.{container, input_name}
use Rattle.c_syntax.specs.Outputs.{output_name}
use Rattle.emit_row_facts.specs.declared.ported.Ported.{Ported}

-- the root's parameter for an Inport, and its field for an Outport
abbrev pub param_of : Ported → ParamTree
param_of p = record { name = input_name p.port; type = container p.out }

abbrev pub field_of : Ported → FieldTree
field_of p = record { name = output_name p.port; kind = Number (container p.out) }
