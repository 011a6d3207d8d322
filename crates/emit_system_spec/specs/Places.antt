-- The places of a system's nodes, of its children's procedures, and of parameters.
use Rattle.std.specs.Prelude.{ℕ, ◌+◌, List, [], ◌++◌, map, flat_map, sum_by, take, length, unwrap_or, bytes_eq}
use Rattle.std.specs.Option.{option_map_or}
use Rattle.std.specs.List.{position_from, range_with_len, enumerate_from}
use Rattle.modules_profile.specs.declared.local.ChildUse.{ChildUse}
use Rattle.modules_profile.specs.LocalSystem.{LocalSystem}
use Rattle.modules_profile.specs.Headers.{header_functions}
use Rattle.c_syntax.specs.declared.code.Leaf.{Leaf}
use Rattle.c_syntax.specs.declared.code.Leaf.TheVariants.{Param}
use Rattle.c_syntax.specs.Tree.{ParamTree}
use Rattle.emit_shape.specs.Names.{now_name}
use Rattle.emit_system_spec.specs.declared.node.Place.{Place}
use Rattle.emit_system_spec.specs.declared.node.Place.TheVariants.{Row, Call}

-- ---- Nodes by their places among rows and children, in the order of the system's nodes

-- the calls of the functions of the child at a place; nothing calls those of the root
abbrev pub call_places : ℕ × ChildUse → List Place
call_places e =
    option_map_or (λ row. map (Call e.0) (range_with_len 1 (length (header_functions e.1.header))))
    e.1.header.row []

abbrev pub node_places : LocalSystem → List Place
node_places local = map Row (range_with_len 0 (length local.rows))
    ++ flat_map call_places (enumerate_from 0 local.children)

-- ---- Procedures of children, where so many are the system's own

-- the first procedure of the child at a place: in front are those of the children before it
abbrev pub child_base : LocalSystem → (count : ℕ) → ℕ → ℕ
child_base local count k =
    count + sum_by (λ u. length (header_functions u.header) + 3) (take k local.children)

-- the parameter of this name
abbrev pub param_leaf : List ParamTree → List ℕ → Leaf
param_leaf params name = Param (unwrap_or (position_from (λ q. bytes_eq q.name name) 0 params) 0)

abbrev pub now_leaf : List ParamTree → Leaf
now_leaf params = param_leaf params now_name
