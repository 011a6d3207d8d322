-- Instances, and what a pass through the equations of a file gives their names. The last node has
-- one instance, and each call has one for each instance of the node that it is in.
use Rattle.std.specs.Prelude.{ℕ, zero, suc, ◌+◌, ℤ, Bool, true, false, ◌&&◌, List, [], ◌∷◌, ◌++◌, map, take, drop, length, replicate, slice_index_or, slice_set, Option, Some, None, option_map}
use Rattle.std.specs.List.{list_all}
use Rattle.lustre_syntax.specs.Tree.{EquationTree, set, call, NodeTree, node_at}
use Rattle.lustre_flows.specs.Values.{value_of, evaluate}

-- what each node comes to, where that of a node is made from those of the nodes before it
abbrev pub by_node {ℓ} : {A : Type ℓ} → (List A → NodeTree → A) → (earlier : List A) →
    List NodeTree → List A
by_node of earlier [] = earlier
by_node of earlier (n ∷ ns) = by_node of (earlier ++ of earlier n ∷ []) ns

-- the values of an instance's names, as far as they have one, and the instances of its calls in
-- their order
mutual
  pub data Instance : Type 0 where
    instance : (values : List (Option ℤ)) (calls : Instances) → Instance

  pub data Instances : Type 0 where
    no_calls : Instances
    more_calls : (first : Instance) (rest : Instances) → Instances

abbrev pub values_in : Instance → List (Option ℤ)
values_in (instance values calls) = values

abbrev pub calls_in : Instance → Instances
calls_in (instance values calls) = calls

abbrev pub no_instance : Instance
no_instance = instance [] no_calls

abbrev pub first_call : Instances → Instance
first_call no_calls = no_instance
first_call (more_calls first rest) = first

abbrev pub later_calls : Instances → Instances
later_calls no_calls = no_calls
later_calls (more_calls first rest) = rest

abbrev pub call_at : Instances → ℕ → Instance
call_at no_calls k = no_instance
call_at (more_calls first rest) zero = first
call_at (more_calls first rest) (suc k) = call_at rest k

-- a list with the items at places replaced, one after another
abbrev pub with_items : List (Option ℤ) → List ℕ → List (Option ℤ) → List (Option ℤ)
with_items values [] given = values
with_items values (k ∷ ks) [] = values
with_items values (k ∷ ks) (v ∷ vs) = with_items (slice_set values k v) ks vs

-- the values of the outputs of an instance of a node
abbrev pub outputs_of : NodeTree → Instance → List (Option ℤ)
outputs_of n i = take n.outputs (drop n.inputs (values_in i))

-- ---- An instance no name of which has a value

-- the instances of the calls among equations
abbrev pub fresh_calls : List Instance → List EquationTree → Instances
fresh_calls earlier [] = no_calls
fresh_calls earlier (set line given value ∷ es) = fresh_calls earlier es
fresh_calls earlier (call line given callee values ∷ es) =
    more_calls (slice_index_or earlier callee no_instance) (fresh_calls earlier es)

-- an instance of a node, where `earlier` has one of each node that it may call
abbrev pub fresh : List Instance → NodeTree → Instance
fresh earlier n = instance (replicate (length n.names) None) (fresh_calls earlier n.equations)

-- an instance of each node
abbrev pub fresh_instances : List NodeTree → List Instance
fresh_instances nodes = by_node fresh [] nodes

-- ---- A pass

-- what a pass leaves of an instance: `before` is the same instance as the tick before left it, none
-- at the first tick, and the inputs have these values
abbrev pub Pass : Type 0
Pass = (before : Option Instance) → (inputs : List (Option ℤ)) → Instance → Instance

abbrev pub pass_at : List Pass → ℕ → Pass
pass_at passes k = slice_index_or passes k (λ before inputs i. i)

-- an instance with one more call, before the others
abbrev pub with_call : Instance → Instance → Instance
with_call first (instance values rest) = instance values (more_calls first rest)

-- goes on with an instance
abbrev pub go_on_with : Instance → (Instance → Instance) → Instance
go_on_with i go = go i

-- A pass goes through the equations in their order: each gives its names the values that it has by
-- now. A call gives its instance the inputs that have values, goes through it once, and gives its
-- names the outputs that have values then.
module _ (nodes : List NodeTree) (passes : List Pass) (before : Option (List (Option ℤ))) where
  abbrev pub pass_equations : (calls_before : Option Instances) → List (Option ℤ) →
      (calls : Instances) → List EquationTree → Instance
  pass_equations calls_before values calls [] = instance values no_calls
  pass_equations calls_before values calls (set line given value ∷ es) =
      pass_equations calls_before
      (slice_set values given (value_of (evaluate before values value))) calls es
  pass_equations calls_before values calls (call line given callee arguments ∷ es) =
      go_on_with
      (pass_at passes callee (option_map first_call calls_before)
      (map (λ e. value_of (evaluate before values e)) arguments) (first_call calls))
      (λ i. with_call i (pass_equations (option_map later_calls calls_before)
      (with_items values given (outputs_of (node_at nodes callee) i)) (later_calls calls) es))

-- the pass of a node, where `earlier` has those of each node that it may call
abbrev pub pass_of : List NodeTree → List Pass → NodeTree → Pass
pass_of nodes earlier n before inputs (instance values calls) =
    pass_equations nodes earlier (option_map values_in before) (option_map calls_in before)
    (inputs ++ drop (length inputs) values) calls n.equations

-- the passes of all nodes
abbrev pub passes_of : List NodeTree → List Pass
passes_of nodes = by_node (pass_of nodes) [] nodes

-- ---- Counting

-- whether each name of an instance and of those inside it has a value
abbrev pub has_value : Option ℤ → Bool
has_value None = false
has_value (Some value) = true

abbrev mutual
  pub is_complete : Instance → Bool
  is_complete (instance values calls) = list_all has_value values && are_complete calls

  pub are_complete : Instances → Bool
  are_complete no_calls = true
  are_complete (more_calls first rest) = is_complete first && are_complete rest

-- how many names it has, with those of the instances inside it
abbrev mutual
  pub name_count : Instance → ℕ
  name_count (instance values calls) = length values + name_counts calls

  pub name_counts : Instances → ℕ
  name_counts no_calls = 0
  name_counts (more_calls first rest) = name_count first + name_counts rest
