-- The names that the expressions of a system's row read, and those of a function.
use Rattle.std.specs.Prelude.{ℕ, List, [], ◌∷◌, ◌++◌, map, slice_index_or, Option, Some, None}
use Rattle.base_core.specs.declared.Control.{Control}
use Rattle.base_core.specs.declared.Port.{Port}
use Rattle.c_syntax.specs.declared.Leaf.{Leaf}
use Rattle.c_syntax.specs.declared.Leaf.TheVariants.{Param, Own, Child}
use Rattle.emit_shape.specs.Names.{value_name, now_name, trigger_name, port_name}
use Rattle.lustre_system.specs.Names as names

-- the parameters of a system of this control with these inputs
abbrev pub params_by : Control → List Port → List (List ℕ)
params_by control ports = map (port_name control) ports ++ trigger_name ∷ now_name ∷ []

-- the name of a leaf in a system of this control with these inputs
abbrev pub leaf_by : Control → List Port → Leaf → List ℕ
leaf_by control ports (Param k) = slice_index_or (params_by control ports) k []
leaf_by control ports (Own c) = value_name c
leaf_by control ports (Child b k) = names.sample_name b k

-- the name of what a call for a row gives; with no row calls have no names
abbrev pub part_by : Option ℕ → ℕ → List ℕ
part_by None n = []
part_by (Some b) n = names.part_name b n
