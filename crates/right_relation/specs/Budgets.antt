-- How many steps a system's own procedures may take on one instance in one tick, and how these sum
-- to the bound.
use Rattle.std.specs.Prelude.{ℕ, ◌+◌, ◌*◌, ◌≤◌, Bool, List, [], ◌∷◌, map, length, sum_by, IsPermutation}
use Rattle.std.specs.List.{range_with_len}
use Rattle.diagram_blocks.specs.Value.{greatest_in}
use Rattle.diagram_meaning.specs.declared.table.Row.{Row}
use Rattle.diagram_meaning.specs.Rows.{outports_of}
use Rattle.modules_profile.specs.LocalSystem.{LocalSystem}
use Rattle.modules_profile.specs.SystemHeader.{SystemHeader}
use Rattle.modules_profile.specs.Systems.{systems}
use Rattle.modules_profile.specs.Headers.{header_functions}
use Rattle.modules_profile.specs.Locals.{outports}
use Rattle.right_relation.specs.Instances.{Act, out, update, reset, none_called, called_after}

-- the greatest number of outputs that the system or one of its children has
abbrev pub most_outputs : LocalSystem → ℕ
most_outputs local =
    greatest_in (length (outports local) ∷ map (λ u. length u.header.outputs) local.children)

-- so many steps for each own row, and so many for each output of a child
abbrev pub own_budget : LocalSystem → ℕ
own_budget local =
    8 * (1 + most_outputs local) * length local.rows
    + 4 * (1 + most_outputs local) * sum_by (λ u. length u.header.outputs) local.children

-- the most steps that a tick of the code may take: 12 · (rows + 1) · (1 + the most outputs of one
-- system)
abbrev pub step_bound : List Row → ℕ
step_bound rows =
    12 * (length rows + 1) *
    (1 + greatest_in (map (λ s. length (outports_of rows s)) (systems rows)))

-- the sum over calls of functions in this order, from these called on
abbrev pub spent_along : ((ℕ → Bool) → Act → ℕ) → (ℕ → Bool) → List ℕ → ℕ
spent_along own called [] = own called update
spent_along own called (j ∷ js) =
    own called (out j) + spent_along own (called_after called (out j)) js

-- In whatever order the functions of a tick are called, the own steps of its calls are within the
-- budget; those of a reset are too.
pub record IsWithinBudget (local : LocalSystem) (h : SystemHeader) (own : (ℕ → Bool) → Act →
    ℕ) : Type 0 where
  pub ticks : (js : List ℕ) → IsPermutation (range_with_len 1 (length (header_functions h))) js →
      spent_along own none_called js ≤ own_budget local
  pub resets : own none_called reset ≤ own_budget local
