-- Where the instances of a file have their slots: first those of an instance's names, then those of
-- its calls in their order.
use Rattle.std.specs.Prelude.{ℕ, ◌+◌, ◌<◌, List, [], ◌∷◌, flat_map, length, slice_index, slice_index_or}
use Rattle.lustre_syntax.specs.Tree.{EquationTree, set, call, NodeTree, node_at, FileTree}
use Rattle.lustre_flows.specs.Instances.{by_node}
use Rattle.lustre_flows.specs.Ticks.{last_place}
use Rattle.lustre_slots.specs.declared.placed.Placed.{Placed}

-- how many slots the calls among equations have, where `sizes` says it of each node
abbrev pub calls_size : (sizes : List ℕ) → List EquationTree → ℕ
calls_size sizes [] = 0
calls_size sizes (set line given value ∷ es) = calls_size sizes es
calls_size sizes (call line given callee values ∷ es) = slice_index sizes callee + calls_size sizes es

-- how many slots an instance of a node has, and one of each node
abbrev pub node_size : (earlier : List ℕ) → NodeTree → ℕ
node_size earlier n = length n.names + calls_size earlier n.equations

abbrev pub sizes_of : FileTree → List ℕ
sizes_of f = by_node node_size [] f.nodes

-- the instances of the calls among equations, from a slot on
abbrev pub calls_from : (sizes : List ℕ) → ℕ → List EquationTree → List Placed
calls_from sizes at [] = []
calls_from sizes at (set line given value ∷ es) = calls_from sizes at es
calls_from sizes at (call line given callee values ∷ es) =
    record { node = callee; base = at } ∷ calls_from sizes (at + slice_index sizes callee) es

-- the instances of the calls of an instance
abbrev pub calls_in : FileTree → Placed → List Placed
calls_in f p =
    calls_from (sizes_of f) (p.base + length (node_at f.nodes p.node).names)
    (node_at f.nodes p.node).equations

-- its node is there
abbrev pub IsThere : FileTree → Placed → Type 0
IsThere f p = p.node < length f.nodes

-- An instance with those inside it, in the order of their paths, by the slot of its first name.
abbrev pub Inside : Type 0
Inside = (base : ℕ) → List Placed

abbrev pub inside_at : List Inside → Placed → List Placed
inside_at insides p = slice_index_or insides p.node (λ base. []) p.base

abbrev pub inside_node : (sizes : List ℕ) → (earlier : List Inside) → NodeTree → Inside
inside_node sizes earlier n base =
    record { node = length earlier; base = base }
    ∷ flat_map (inside_at earlier) (calls_from sizes (base + length n.names) n.equations)

-- of each node
abbrev pub insides_of : FileTree → List Inside
insides_of f = by_node (inside_node (sizes_of f)) [] f.nodes

-- an instance with those inside it, in the order of their paths
abbrev pub with_inside : FileTree → Placed → List Placed
with_inside f p = inside_at (insides_of f) p

-- the last node's instance, and all instances of a file
abbrev pub root_of : FileTree → Placed
root_of f = record { node = last_place f; base = 0 }

abbrev pub instances_of : FileTree → List Placed
instances_of f = with_inside f (root_of f)
