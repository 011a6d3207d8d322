-- The eight nodes over a few numbers.
use Rattle.std.specs.Prelude.{◌≡◌, ℕ, ◌^◌, List, [], ◌∷◌, map, take, replicate, Option, Some, refl, ℤ, pos, neg_ℤ}
use Rattle.std.specs.Fmt.{digits}
use Rattle.lustre_syntax.specs.Tree.{int, NodeTree}
use Rattle.lustre_syntax.specs.Typing.{input_types, output_types}
use Rattle.lustre_syntax.specs.Named.{placed_file}
use Rattle.lustre_system.specs.Functions.{function_nodes}
use Rattle.lustre_system.specs.FunctionRules.{called, function_inputs}

abbrev pub nodes : List NodeTree
nodes = (placed_file function_nodes).nodes

-- their inputs and outputs
pub node_inputs : map input_types (take 8 nodes) ≡ function_inputs
node_inputs = refl

pub node_outputs : map output_types (take 8 nodes) ≡ replicate 8 (int ∷ [])
node_outputs = refl

abbrev pub gives : ℕ → List ℤ → Option ℤ
gives k arguments = called nodes k arguments

-- -7 / 2, by the six rules in their order
abbrev pub halved : ℤ → List (Option ℤ)
halved v = map (λ k. gives k (v ∷ pos 2 ∷ [])) (0 ∷ 1 ∷ 2 ∷ 3 ∷ 4 ∷ 5 ∷ [])

pub halved_below : halved (neg_ℤ (pos 7))
    ≡ Some (neg_ℤ (pos 4)) ∷ Some (neg_ℤ (pos 3)) ∷ Some (neg_ℤ (pos 3)) ∷ Some (neg_ℤ (pos 3))
    ∷ Some (neg_ℤ (pos 4)) ∷ Some (neg_ℤ (pos 4)) ∷ []
unfolding digits
halved_below = refl

pub halved_above : halved (pos 5)
    ≡ Some (pos 2) ∷ Some (pos 3) ∷ Some (pos 2) ∷ Some (pos 3) ∷ Some (pos 3) ∷ Some (pos 2) ∷ []
unfolding digits
halved_above = refl

-- the greatest divisor, of the least number
pub widest : gives 3 (neg_ℤ (pos (2 ^ 62)) ∷ pos (2 ^ 62) ∷ []) ≡ Some (neg_ℤ (pos 1))
unfolding digits
widest = refl

pub clamped : map (λ v. gives 6 (v ∷ neg_ℤ (pos 128) ∷ pos 127 ∷ []))
    (pos 300 ∷ pos 5 ∷ neg_ℤ (pos 129) ∷ []) ≡ Some (pos 127) ∷ Some (pos 5)
    ∷ Some (neg_ℤ (pos 128)) ∷ []
unfolding digits
clamped = refl

pub wrapped : map (λ v. gives 7 (v ∷ neg_ℤ (pos 128) ∷ pos 256 ∷ []))
    (pos 300 ∷ pos 5 ∷ neg_ℤ (pos 129) ∷ []) ≡ Some (pos 44) ∷ Some (pos 5) ∷ Some (pos 127) ∷ []
unfolding digits
wrapped = refl
