-- The node of a system keeps the static rules, where the nodes that it calls are there before it.
use Rattle.std.specs.Prelude.{◌≡◌, ℕ, ◌+◌, ◌<◌, ◌≤◌, true, List, [], ◌∷◌, length, flat_map, Option, Some, None, slice_get, slice_index_or}
use Rattle.std.specs.List.{AllByRecursion, range_with_len}
use Rattle.diagram_blocks.specs.Kinds.{is_subsystem}
use Rattle.diagram_meaning.specs.Rows.{row_at}
use Rattle.diagram_meaning.specs.Diagram.{Diagram}
use Rattle.diagram_meaning.specs.ResolvedTree.{ResolvedTree, IsResolvedTree, diagram_of}
use Rattle.diagram_meaning.specs.SystemRuns.{IsRowOf}
use Rattle.diagram_typed_runs.specs.TypedRuns.{IsSystem}
use Rattle.modules_profile.specs.Systems.{system_name}
use Rattle.lustre_syntax.specs.Tree.{int, NodeTree, given_by, expressions_of}
use Rattle.lustre_syntax.specs.Named.{place_of, placed_node}
use Rattle.lustre_syntax.specs.Typing.{input_types, output_types}
use Rattle.lustre_syntax.specs.Lawful.{AreDistinct, Agrees, IsWritable, equations_of, equations_wanted}
use Rattle.lustre_system.specs.Functions.{function_name}
use Rattle.lustre_system.specs.FunctionRules.{function_inputs}
use Rattle.lustre_system.specs.SystemNodes.{system_node}
use Rattle.lustre_right.specs.LongDelays.{long_delay}
use Rattle.lustre_right.specs.Systems.{system_texts}

-- the names of a system's node are lawful and different
abbrev pub SystemNamesAreDistinct : Type 0
SystemNamesAreDistinct =
    (r : ResolvedTree) (s : Option ℕ) → IsResolvedTree r → IsSystem r.tree.table.rows s →
    AreDistinct (system_texts (diagram_of r) s)

-- each of them is given once, but for the inputs, and nothing else is
pub record GivesItsNames (n : NodeTree) : Type 0 where
  pub ports : n.inputs + n.outputs ≤ length n.names
  pub within : AllByRecursion (λ k. k < length n.names) (flat_map given_by n.equations)
  pub given : AllByRecursion (λ k. equations_of n k ≡ equations_wanted n k)
      (range_with_len 0 (length n.names))

abbrev pub SystemsGiveTheirNames : Type 0
SystemsGiveTheirNames =
    (r : ResolvedTree) (s : Option ℕ) (callees : List (List ℕ)) → IsResolvedTree r →
    IsSystem r.tree.table.rows s → GivesItsNames (placed_node callees (system_node (diagram_of r) s))

-- a node with these types of inputs and one `int` as output
pub record IsFunctionNode (n : NodeTree) (k : ℕ) : Type 0 where
  pub inputs : input_types n ≡ slice_index_or function_inputs k []
  pub outputs : output_types n ≡ int ∷ []

-- among these nodes, which have these names, there are the functions and the nodes of the children
pub record CalleesAreThere (d : Diagram) (s : Option ℕ) (callees : List (List ℕ))
    (earlier : List NodeTree) : Type 0 where
  pub functions : (k : ℕ) → k < 8 →
      (n : NodeTree) × (slice_get earlier (place_of callees (function_name k)) ≡ Some n)
      × IsFunctionNode n k
  pub children : (e : ℕ) → IsRowOf d.rows s e → is_subsystem (row_at d.rows e).kind ≡ true →
      slice_get earlier (place_of callees (system_name (Some e)))
      ≡ Some (placed_node callees (system_node d (Some e)))

-- then its equations agree in types, and can be written
abbrev pub SystemsAreTyped : Type 0
SystemsAreTyped =
    (r : ResolvedTree) (s : Option ℕ) (callees : List (List ℕ)) (earlier : List NodeTree) →
    IsResolvedTree r → long_delay (diagram_of r) ≡ None → IsSystem r.tree.table.rows s →
    AreDistinct (system_texts (diagram_of r) s) →
    CalleesAreThere (diagram_of r) s callees earlier →
    AllByRecursion (Agrees earlier (placed_node callees (system_node (diagram_of r) s)))
    (placed_node callees (system_node (diagram_of r) s)).equations
    × AllByRecursion
    (λ e. AllByRecursion
    (IsWritable (length (placed_node callees (system_node (diagram_of r) s)).names))
    (expressions_of e))
    (placed_node callees (system_node (diagram_of r) s)).equations
