-- The plain records of fields.
use Rattle.std.specs.Prelude.{List, map}
use Rattle.c_syntax.specs.declared.program.Field.{Field}
use Rattle.c_syntax.specs.Tree.{FieldTree}

-- the plain record of a field
abbrev pub field_tree : Field → FieldTree
field_tree f = record { name = f.name; kind = f.kind }

-- the plain trees of fields
abbrev pub field_trees : List Field → List FieldTree
field_trees fields = map field_tree fields
