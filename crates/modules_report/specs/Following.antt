-- Which functions can come first in a system, by its number of outputs and of functions.
use Rattle.std.specs.Prelude.{◌≡◌, ℕ, ◌+◌, ◌^◌, ◌<◌, ◌≤◌, ◌⊎◌, ◌==◌, Bool, true, false, if◌then◌else◌, List, [], ◌∷◌, ◌++◌, length, map, count_by}
use Rattle.std.specs.List.{range_with_len}
use Rattle.base_core.specs.declared.Port.{Port}
use Rattle.base_core.specs.declared.Port.TheVariants.{Enable, Trigger}
use Rattle.modules_profile.specs.declared.Function.{Function}
use Rattle.modules_profile.specs.Functions.{functions_for}
use Rattle.base_core.specs.Ports.{has_bit}

-- what stands for the needs of an output that no function gives yet: a set of no ports
abbrev pub not_known : ℕ
not_known = 2 ^ 63

-- the needs of output k + 1: those of the first function that gives it
abbrev pub need_of : List Function → ℕ → ℕ
need_of [] k = not_known
need_of (f ∷ functions) k = if has_bit f.outputs k then f.inputs else need_of functions k

-- those of all outputs
abbrev pub needs_of : ℕ → List Function → List ℕ
needs_of outputs functions = map (need_of functions) (range_with_len 0 outputs)

-- how many outputs no function gives yet
abbrev pub open_outputs : ℕ → List Function → ℕ
open_outputs outputs functions = count_by (λ n. n == not_known) (needs_of outputs functions)

-- all functions but the last
abbrev pub IsFront : List Function → List Function → Type 0
IsFront functions found = (last : Function) × (found ≡ functions ++ last ∷ [])

-- these are all functions, and they give all outputs
pub record AreAllFunctions (outputs count : ℕ) (functions : List Function) : Type 0 where
  pub none_open : open_outputs outputs functions ≡ 0
  pub number : length functions ≡ count
  pub all : functions_for (needs_of outputs functions) ≡ functions

-- further functions follow these, one or more for the outputs that are open, and each for one of
-- them at least
pub record AreFirstFunctions (outputs count : ℕ) (functions : List Function) : Type 0 where
  pub some_open : 0 < open_outputs outputs functions
  pub more : length functions < count
  pub enough : count ≤ length functions + open_outputs outputs functions
  pub first : IsFront functions (functions_for (needs_of outputs functions))

-- so many functions for so many outputs can begin so
abbrev pub CanComeFirst : ℕ → ℕ → List Function → Type 0
CanComeFirst outputs count functions =
    AreAllFunctions outputs count functions ⊎ AreFirstFunctions outputs count functions

-- the controls of a system with an enable, with a trigger, with both, or with none
abbrev pub controls_with : Bool → Bool → List Port
controls_with true true = Enable ∷ Trigger ∷ []
controls_with true false = Enable ∷ []
controls_with false true = Trigger ∷ []
controls_with false false = []
