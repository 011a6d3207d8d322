-- What a tick leaves, by the equations alone: no order in which they are tried is spoken of.
use Rattle.std.specs.Prelude.{◌≡◌, ◌↔◌, ⊤, ℕ, ℤ, List, [], ◌∷◌, map, take, slice_index_or, Option, Some, option_map}
use Rattle.lustre_syntax.specs.Tree.{EquationTree, set, call, NodeTree, node_at, FileTree}
use Rattle.lustre_flows.specs.Values.{value_of, value_at, evaluate}
use Rattle.lustre_flows.specs.Instances.{by_node, Instance, Instances, instance, values_in, calls_in, first_call, later_calls, outputs_of}
use Rattle.lustre_flows.specs.Ticks.{last_place, fresh_root, root_pass, settled}
use Rattle.lustre_flows.specs.FlowLaws.{Stays, IsTickOf}

-- what it means that the equations of a node hold of an instance: `before` is the same instance as
-- the tick before left it, none at the first tick, and the inputs have these values
abbrev pub Holding : Type 1
Holding = (before : Option Instance) → (inputs : List (Option ℤ)) → Instance → Type 0

abbrev pub holding_at : List Holding → ℕ → Holding
holding_at holdings k = slice_index_or holdings k (λ before inputs i. ⊥)

-- each equation gives its names what it evaluates to, which may be nothing yet. A call's instance
-- has the values of the arguments for its inputs, and its equations hold as well.
module _ (nodes : List NodeTree) (holdings : List Holding) (before : Option (List (Option ℤ)))
    (values : List (Option ℤ)) where
  abbrev pub EquationsHold : (calls_before : Option Instances) → (calls : Instances) →
      List EquationTree → Type 0
  EquationsHold calls_before calls [] = ⊤
  EquationsHold calls_before calls (set line given value ∷ es) =
      (value_at values given ≡ value_of (evaluate before values value))
      × EquationsHold calls_before calls es
  EquationsHold calls_before calls (call line given callee arguments ∷ es) =
      (map (value_at values) given ≡ outputs_of (node_at nodes callee) (first_call calls))
      × holding_at holdings callee (option_map first_call calls_before)
      (map (λ e. value_of (evaluate before values e)) arguments) (first_call calls)
      × EquationsHold (option_map later_calls calls_before) (later_calls calls) es

-- of a node, where `earlier` has those of each node that it may call
abbrev pub holding_of : List NodeTree → List Holding → NodeTree → Holding
holding_of nodes earlier n before inputs (instance values calls) =
    (take n.inputs values ≡ inputs)
    × EquationsHold nodes earlier (option_map values_in before) values
    (option_map calls_in before) calls n.equations

-- of all nodes
abbrev pub holdings_of : List NodeTree → List Holding
holdings_of nodes = by_node (holding_of nodes) [] nodes

-- at a tick on a row, the equations of a file hold of its last node's instance
abbrev pub HoldsAtTick : FileTree → Option Instance → List ℤ → Instance → Type 0
HoldsAtTick f before row i =
    holding_at (holdings_of f.nodes) (last_place f) before (map Some row) i

-- an instance with the names and calls of a file, of which its equations hold
pub record IsSolution (f : FileTree) (before : Option Instance) (row : List ℤ) (i : Instance) :
    Type 0 where
  pub form : Stays (fresh_root f) i
  pub holds : HoldsAtTick f before row i

-- ---- Laws

-- what a tick leaves solves the equations, and no other solution lacks a value of it
pub record SettledIsLeast : Type 0 where
  pub solution : (f : FileTree) (before : Option Instance) (row : List ℤ) →
      IsTickOf f before row → IsSolution f before row (settled f before row)
  pub least : (f : FileTree) (before : Option Instance) (row : List ℤ) (i : Instance) →
      IsTickOf f before row → IsSolution f before row i → Stays (settled f before row) i

-- so a solution all of whose values a tick leaves is what it leaves, in whatever order they were
-- found
abbrev pub SettledIsOnly : Type 0
SettledIsOnly =
    (f : FileTree) (before : Option Instance) (row : List ℤ) (i : Instance) →
    IsTickOf f before row → IsSolution f before row i → Stays i (settled f before row) →
    i ≡ settled f before row

-- a pass changes nothing exactly where the equations hold
abbrev pub SolutionsAreKept : Type 0
SolutionsAreKept =
    (f : FileTree) (before : Option Instance) (row : List ℤ) (i : Instance) →
    IsTickOf f before row → Stays (fresh_root f) i →
    (root_pass f before row i ≡ i) ↔ HoldsAtTick f before row i
