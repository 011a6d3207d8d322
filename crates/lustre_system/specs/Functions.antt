-- The eight nodes without memory, one for each pure function of the emitted C.
use Rattle.std.specs.Prelude.{ℕ, List, [], ◌∷◌, map, slice_index_or, codes}
use Rattle.c_syntax.specs.declared.Leaf.{Leaf}
use Rattle.c_syntax.specs.declared.Leaf.TheVariants.{Param, Own, Child}
use Rattle.c_syntax.specs.Tree.{PureTree}
use Rattle.emit_prelude.specs.Bodies.{function_trees}
use Rattle.lustre_syntax.specs.Tree.{int, Declared, set}
use Rattle.lustre_syntax.specs.Named.{NamedNode}
use Rattle.lustre_system.specs.FromC.{value_of}

-- a name of `int`
abbrev pub int_name : List ℕ → Declared
int_name text = record { text = text; type = int }

-- what a function reads is a parameter
abbrev pub param_name : List (List ℕ) → Leaf → List ℕ
param_name params (Param k) = slice_index_or params k []
param_name params (Own f) = []
param_name params (Child f g) = []

-- the name of the function at a place
abbrev pub function_name : ℕ → List ℕ
function_name k = slice_index_or (map (λ (p : PureTree). p.name) function_trees) k []

-- a function as a node, whose one output is its result
abbrev pub function_node : PureTree → NamedNode
function_node p = record {
  text = p.name;
  inputs = map int_name p.params;
  outputs = int_name (codes "r") ∷ [];
  others = [];
  equations =
      set 0 (codes "r") (value_of (param_name p.params) function_name (λ n. []) p.body)
      ∷ [];
}

abbrev pub function_nodes : List NamedNode
function_nodes = map function_node function_trees
