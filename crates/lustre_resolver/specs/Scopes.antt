-- What the values of the source stand for, as the rules see them.
use Rattle.std.specs.Prelude.{ℕ, List, map}
use Rattle.lustre_syntax.specs.Tree.{Declared, NodeTree}
use Rattle.lustre_syntax.specs.Plain.{declared_names, node_tree}
use Rattle.lustre_syntax.specs.Typing as types
use Rattle.lustre_grammar.specs.declared.written.LusWrittenDecl.{LusWrittenDecl}
use Rattle.lustre_rules.specs.Resolve.{Scope}
use Rattle.lustre_resolver.specs.declared.known.Names.{Names}
use Rattle.lustre_resolver.specs.declared.known.Nodes.{Nodes}
use Rattle.lustre_resolver.specs.declared.known.Place.{Place}
use Rattle.lustre_resolver.specs.declared.typing.Typing.{Typing}
use Rattle.lustre_resolver.specs.declared.typing.Typing.TheVariants.{Clash, Open, Known}

-- a declared name with its line
abbrev pub line_and_text : LusWrittenDecl → ℕ × List ℕ
line_and_text d = (d.line, d.name.now)

-- the names of a node with their types
abbrev pub names_of : Names → List Declared
names_of names = declared_names names.declared.items

-- the nodes before a place
abbrev pub nodes_of : Nodes → List NodeTree
nodes_of nodes = map node_tree nodes.items.items

-- what is known where an equation is, where these places are given before
abbrev pub scope_of : Place → List ℕ → Scope
scope_of place given = record {
  earlier = nodes_of place.earlier.now;
  names = names_of place.names.now;
  inputs = place.inputs;
  given = given;
}

-- what is known of the type of an expression
abbrev pub typing_of : Typing → types.Typing
typing_of Clash = types.clash
typing_of Open = types.open_type
typing_of (Known is_bool) = types.known is_bool
