-- What the structs of names stand for.
use Rattle.std.specs.Prelude.{[]}
use Rattle.lustre_system.specs.Functions.{param_name}
use Rattle.lustre_expressions.specs.Placed.{Naming}
use Rattle.lustre_expressions.specs.Found.{place_in}
use Rattle.lustre_expressions.specs.RowNaming.{leaf_by, part_by}
use Rattle.lustre_expressions.specs.declared.scopes.RowNames.{RowNames}
use Rattle.lustre_expressions.specs.declared.scopes.ParamNames.{ParamNames}

-- the names for a row
abbrev pub row_naming : RowNames → Naming
row_naming n = record {
  place = place_in n.places.now;
  callee = place_in n.callees.now.places.now;
  leaf_name = leaf_by n.control n.ports.now;
  part_name = part_by n.row;
}

-- the names in a function
abbrev pub param_naming : ParamNames → Naming
param_naming n = record {
  place = place_in n.places.now;
  callee = place_in n.callees.now.places.now;
  leaf_name = param_name n.params.now;
  part_name = λ k. [];
}
