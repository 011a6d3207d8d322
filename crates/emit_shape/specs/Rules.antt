-- What a procedure of a system may read, store, test and call.
use Rattle.std.specs.Prelude.{◌≡◌, ℕ, ◌==◌, MatchBool, Bool, if◌then◌else◌, List, [], ◌∷◌, ◌++◌, map, find, flat_map, zip, Contains, bytes_eq, ⊤}
use Rattle.std.specs.Option.{option_map_or}
use Rattle.std.specs.List.{AllByRecursion, AllZip, list_any}
use Rattle.diagram_blocks.specs.Kinds.{is_inport, port_of}
use Rattle.modules_profile.specs.declared.ChildUse.{ChildUse}
use Rattle.modules_profile.specs.declared.LocalRow.{LocalRow}
use Rattle.modules_profile.specs.LocalSystem.{LocalSystem}
use Rattle.modules_profile.specs.Systems.{system_name}
use Rattle.modules_profile.specs.Locals.{bare_header, entering}
use Rattle.c_syntax.specs.declared.Target.{Target}
use Rattle.c_syntax.specs.declared.Target.TheVariants.{Own, Child}
use Rattle.c_syntax.specs.Tree.{ExprTree, ProcedureTree}
use Rattle.emit_shape.specs.NamedLeaf.{NamedLeaf, param, own}
use Rattle.emit_shape.specs.NamedLeaf as named
use Rattle.emit_shape.specs.Names.{value_name, memory_name, place_name, taken_name, trigger_name, is_counter_name, now_name, input_name, control_name, second_control_name, trigger_param, group_name}
use Rattle.emit_shape.specs.Heads.{Head, input_params, now_param, public_heads}
use Rattle.emit_shape.specs.CodeNames.{CodeNames, named_leaves, IsReadOf}
use Rattle.emit_shape.specs.Reads.{stores_in, tests_in, calls_in, indices_in, expr_leaves, cond_leaves}

-- ---- What may be read

-- whether row c is an Outport of a child
abbrev pub has_output : ℕ → ChildUse → Bool
has_output c u = list_any (λ o. o.0 == c) u.header.outputs

-- the place of the value of row c: a field of the child whose Outport it is, else an own field
abbrev pub wire_place : LocalSystem → ℕ → NamedLeaf
wire_place local c =
    option_map_or (λ u. named.child (system_name u.header.row) (value_name c))
    (find (has_output c) local.children) (own (value_name c))

-- the places of a row's inputs; for an Inport, the parameter
abbrev pub input_reads : LocalSystem → LocalRow → List NamedLeaf
input_reads local r = if is_inport r.kind then param (input_name (port_of r.kind)) ∷ []
    else map (wire_place local) r.inputs

-- what a value stored in the field of this name may read where the field is one of row r: a value
-- its memory and its inputs, a memory its inputs, the place and the count of a ring itself alone
abbrev pub row_reads : LocalSystem → List ℕ → LocalRow → List NamedLeaf
row_reads local name r =
    (if bytes_eq name (value_name r.row) then own (memory_name r.row) ∷ own (place_name r.row)
    ∷ own (taken_name r.row) ∷ input_reads local r else [])
    ++ (if bytes_eq name (memory_name r.row) then input_reads local r else [])
    ++ (if bytes_eq name (place_name r.row) then own name ∷ [] else [])
    ++ (if bytes_eq name (taken_name r.row) then own name ∷ [] else [])

-- what a value stored in the field of this name may read, in a system with these counters
abbrev pub store_reads : LocalSystem → List (List ℕ) → List ℕ → List NamedLeaf
store_reads local counters name =
    flat_map (row_reads local name) local.rows
    ++ (if bytes_eq name trigger_name then param (trigger_param local.control) ∷ own trigger_name
    ∷ [] else [])
    ++ (if is_counter_name name then map own counters else [])

-- what an index of the array of this name may read: the place of its ring
abbrev pub index_reads : LocalSystem → List ℕ → List NamedLeaf
index_reads local name =
    flat_map (λ r. if bytes_eq name (memory_name r.row) then own (place_name r.row) ∷ []
    else []) local.rows

-- what an `if` test may read
abbrev pub test_reads : List (List ℕ) → List NamedLeaf
test_reads counters = param now_name ∷ param control_name ∷ param second_control_name
    ∷ own trigger_name ∷ map own counters

-- ---- What a procedure does

-- the names of the parameters that a system's update has
abbrev pub parameter_names : LocalSystem → List (List ℕ)
parameter_names local = map (λ q. q.name) (now_param ∷ input_params (bare_header local))

-- a call on `s` passes to each parameter the caller's of that name
abbrev pub PassesOwn : CodeNames → ProcedureTree → Head → List ExprTree → Type 0
PassesOwn n q callee values =
    AllZip (λ wanted e. IsReadOf n q.params (param wanted.name) e) callee.params values

-- what a call on a child passes to each parameter of its update: the tick, and the places of the
-- wires that enter
abbrev pub passed : LocalSystem → ChildUse → List (List ℕ × NamedLeaf)
passed local u =
    (now_name, param now_name) ∷ zip (map (λ q. q.name) (input_params u.header))
    (map (wire_place local) (entering u))

-- a call on the child at a field is one of a public procedure of that child, and each value is a
-- plain read of what is passed to the parameter
pub record CallsChild (n : CodeNames) (local : LocalSystem) (q : ProcedureTree) (field : ℕ)
    (callee : Head) (values : List ExprTree) : Type 0 where
  pub child : ChildUse
  pub is_child : Contains local.children child
  pub on_child : n.own field ≡ system_name child.header.row
  pub is_public : Contains (public_heads child.header) callee
  pub passes : AllZip (λ wanted e. (what : NamedLeaf)
      × Contains (passed local child) (wanted.name, what)
      × IsReadOf n q.params what e) callee.params values

-- a call, by its target
abbrev pub IsRightCall : CodeNames → LocalSystem → ProcedureTree → Target → Head → List ExprTree →
    Type 0
IsRightCall n local q Own callee values = PassesOwn n q callee values
IsRightCall n local q (Child f) callee values = CallsChild n local q f callee values

-- what a procedure of a system with these counters touches
pub record KeepsRules (n : CodeNames) (local : LocalSystem) (counters : List (List ℕ))
    (q : ProcedureTree) : Type 0 where
  -- a private procedure is one of a group, and takes nothing but what the system's update takes
  pub private_name : MatchBool q.private ((g : ℕ) × (q.name ≡ group_name local.row g)) ⊤
  pub params : MatchBool q.private
      (AllByRecursion (λ p. Contains (parameter_names local) p.name) q.params) ⊤
  -- it passes on its own parameters, and touches a child only by calls of the child's public
  -- procedures
  pub calls : AllByRecursion (λ c. IsRightCall n local q c.target (n.callee c.procedure) c.values)
      (calls_in q.body)
  -- a stored value reads only what the field's row is made from
  pub stores : AllByRecursion
      (λ st. AllByRecursion (Contains (store_reads local counters (n.own st.field)))
      (named_leaves n q.params (expr_leaves st.value))) (stores_in q.body)
  -- an index reads only the place of its ring
  pub indices : AllByRecursion (λ i. AllByRecursion (Contains (index_reads local (n.own i.field)))
      (named_leaves n q.params (expr_leaves i.index))) (indices_in q.body)
  -- a test reads only the tick, the controls, what the trigger remembers, and counters
  pub tests : AllByRecursion
      (λ test. AllByRecursion (Contains (test_reads counters))
      (named_leaves n q.params (cond_leaves test))) (tests_in q.body)
