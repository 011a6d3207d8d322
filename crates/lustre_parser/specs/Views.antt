-- What the values of the source are written as.
use Rattle.std.specs.Prelude.{map, Box}
use Rattle.std.specs.declared.alloc.Global.{Global}
use Rattle.lustre_grammar.specs.declared.written.LusWrittenExpr.{LusWrittenExpr}
use Rattle.lustre_grammar.specs.Parsing.{Form, ports_form, others_form, equations_form, given_form, arguments_form, nodes_form, Interface, Body}
use Rattle.lustre_grammar.specs.Written.{WrittenExpr}
use Rattle.lustre_grammar.specs.WrittenTrees.{expr_of, declared_of, equation_of}
use Rattle.lustre_parser.specs.declared.forms.Form.{Form as Kept}
use Rattle.lustre_parser.specs.declared.forms.Form.TheVariants.{Ports, Others, Equations, Given, Arguments, Nodes}
use Rattle.lustre_parser.specs.declared.declarations.Interface.{Interface as KeptInterface}
use Rattle.lustre_parser.specs.declared.nodes.Body.{Body as KeptBody}

-- how a list is written
abbrev pub form_of : Kept → Form
form_of Ports = ports_form
form_of Others = others_form
form_of Equations = equations_form
form_of Given = given_form
form_of Arguments = arguments_form
form_of Nodes = nodes_form

-- an expression in a box
abbrev pub boxed_expr : Box LusWrittenExpr Global → WrittenExpr
boxed_expr e = expr_of e.value

-- the parts of a node
abbrev pub interface_of : KeptInterface → Interface
interface_of i = (map declared_of i.inputs.items, map declared_of i.outputs.items)

abbrev pub body_of : KeptBody → Body
body_of b = (map declared_of b.others.items, map equation_of b.equations.items)
