-- When a file is right for a diagram, and when bytes are.
use Rattle.std.specs.Prelude.{◌≡◌, ℕ, ◌<◌, true, nat_le, List, [], ◌∷◌, ◌++◌, map, filter, length, reverse, Contains, slice_index_or, Option, None, Some, ℤ}
use Rattle.std.specs.List.{AllByRecursion}
use Rattle.diagram_blocks.specs.Meaning.{has_value}
use Rattle.diagram_meaning.specs.Rows.{row_at, rows_of, subsystems_of, inports_of, outports_of}
use Rattle.diagram_meaning.specs.Diagram.{Diagram}
use Rattle.diagram_meaning.specs.Run.{value_at, outs}
use Rattle.diagram_meaning.specs.Laws.{Run, HasOneRun}
use Rattle.diagram_meaning.specs.Traces.{IsTrace}
use Rattle.modules_profile.specs.Systems.{systems, system_name}
use Rattle.emit_prelude.specs.Rules.{names}
use Rattle.emit_shape.specs.Names.{value_name, root_name}
use Rattle.lustre_syntax.specs.Tree.{FileTree, node_texts}
use Rattle.lustre_syntax.specs.Lawful.{IsLawful}
use Rattle.lustre_rules.specs.Reading.{LustreText}
use Rattle.lustre_flows.specs.Flows.{flows, outputs, flow_at}
use Rattle.lustre_flows.specs.Ticks.{last_node}
use Rattle.lustre_system.specs.Functions.{int_name}
use Rattle.lustre_system.specs.FunctionRules.{AreFunctions}
use Rattle.lustre_right.specs.Paths.{node_place, node_named, name_place, callees, path_to}

-- ---- The nodes

-- how many nodes stand for pure functions
abbrev pub function_count : ℕ
function_count = length names

-- a system's node has a name of `int` for each own row with a value, and one call for each child;
-- else it calls the functions alone
pub record HasSystem (f : FileTree) (d : Diagram) (s : Option ℕ) : Type 0 where
  pub values : (b : ℕ) → Contains (rows_of d.rows s) b → has_value (row_at d.rows b).kind ≡ true →
      Contains (node_named f (system_name s)).names (int_name (value_name b))
  pub calls : filter (nat_le function_count) (callees (node_named f (system_name s)))
      ≡ map (λ e. node_place f (system_name (Some e))) (subsystems_of d.rows s)

-- the last node has an input for each Inport of the root, and an output for each Outport
pub record HasPorts (f : FileTree) (d : Diagram) : Type 0 where
  pub inputs : (last_node f).inputs ≡ length (inports_of d.rows None)
  pub outputs : (last_node f).outputs ≡ length (outports_of d.rows None)

-- the eight functions, a node for each system after those of its children, and the root
pub record HasNodes (f : FileTree) (d : Diagram) : Type 0 where
  pub texts : node_texts f.nodes
      ≡ names ++ map system_name (reverse (systems d.rows)) ++ root_name ∷ []
  pub ports : HasPorts f d
  pub functions : AreFunctions f.nodes
  pub systems_there : AllByRecursion (HasSystem f d) (systems d.rows)

-- ---- Flows

-- at this tick the name for row b of the system s has the row's value
abbrev pub HasValue : FileTree → Diagram → (xs : List (List ℤ)) → Run → (t : ℕ) → Option ℕ → ℕ →
    Type 0
HasValue f d xs run t s b =
    flow_at f xs t (path_to f d.rows s) (name_place (node_named f (system_name s)) (value_name b))
    ≡ Some (value_at (slice_index_or run.values t []) b)

-- over the trace there is one run of the root; the file is never stuck, gives its outputs at every
-- tick, and each name for a row has the row's value
pub record GivesFlows (f : FileTree) (d : Diagram) (xs : List (List ℤ)) : Type 0 where
  pub one_run : HasOneRun d None xs
  pub not_stuck : (flows f xs).stuck_place ≡ None
  pub outputs_are : outputs f xs ≡ map (outs d None) one_run.run.values
  pub values_are : (t : ℕ) → t < length xs → (s : Option ℕ) → Contains (systems d.rows) s →
      (b : ℕ) → Contains (rows_of d.rows s) b → has_value (row_at d.rows b).kind ≡ true →
      HasValue f d xs one_run.run t s b

-- ---- The whole

-- a file is right for a diagram
pub record IsLustreOf (f : FileTree) (d : Diagram) : Type 0 where
  pub lawful : IsLawful f
  pub nodes : HasNodes f d
  pub runs : (xs : List (List ℤ)) → IsTrace d None xs → GivesFlows f d xs

-- the bytes have one reading, and it is right for the diagram
pub record IsRightText (bytes : List ℕ) (d : Diagram) : Type 0 where
  pub file : FileTree
  pub reads : LustreText bytes file
  pub only : (other : FileTree) → LustreText bytes other → other ≡ file
  pub right : IsLustreOf file d
