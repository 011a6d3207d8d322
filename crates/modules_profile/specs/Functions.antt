-- The output functions of a system: one for each different set of inputs that an output needs.
use Rattle.std.specs.Prelude.{◌≡◌, ℕ, ◌+◌, ◌*◌, Bool, true, false, ◌==◌, List, [], ◌∷◌, map, Option}
use Rattle.base_core.specs.Interface.{different}
use Rattle.modules_profile.specs.declared.profile.Function.{Function}
use Rattle.modules_profile.specs.SystemProfile.{SystemProfile}
use Rattle.diagram_meaning.specs.Diagram.{Diagram}
use Rattle.diagram_meaning.specs.Needs.{AreTrueNeeds}

-- the number whose bit k says whether the test at place k holds
abbrev pub mask_of : List Bool → ℕ
mask_of [] = 0
mask_of (true ∷ bits) = 1 + 2 * mask_of bits
mask_of (false ∷ bits) = 2 * mask_of bits

-- the function for the outputs that need just these inputs, where the needs of all outputs are
-- given by port
abbrev pub function_for : List ℕ → ℕ → Function
function_for needs inputs =
    record { inputs = inputs; outputs = mask_of (map (λ n. n == inputs) needs) }

-- the functions for outputs with these needs, by the least output of each
abbrev pub functions_for : List ℕ → List Function
functions_for needs = map (function_for needs) (different needs)

-- the profile of the system s
pub record IsProfileOf (d : Diagram) (s : Option ℕ) (profile : SystemProfile) : Type 0 where
  pub needs : List ℕ
  pub are_needs : AreTrueNeeds d s needs
  pub row : profile.row ≡ s
  pub functions : profile.functions ≡ functions_for needs
