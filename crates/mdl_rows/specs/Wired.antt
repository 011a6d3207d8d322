-- What was found of the lines of systems in memory.
use Rattle.std.specs.Prelude.{◌≡◌, ℕ, length, Option, Some, None, option_and_then, slice_get}
use Rattle.base_refusals.specs.FirstRefusal.{as_plain}
use Rattle.mdl_rows.specs.declared.model.ModelBlocks.{ModelBlocks}
use Rattle.mdl_wiring.specs.declared.wiring.Wiring.{Wiring}
use Rattle.mdl_rows.specs.declared.wirings.SystemWired.{SystemWired}
use Rattle.mdl_rows.specs.declared.wirings.Wirings.{Wirings}
use Rattle.mdl_rows.specs.Models.{Block, Model, System, inner_system}
use Rattle.mdl_rows.specs.Refusals.{system_refusal}
use Rattle.mdl_rows.specs.Held.{IsSystemWired, IsInnerWired}

-- how many blocks a model has
abbrev pub block_count : ModelBlocks → ℕ
block_count m = length m.blocks.items

-- where the inputs of a system's blocks read from
abbrev pub wiring_of : Wirings → Option ℕ → Option Wiring
wiring_of w None = w.root
wiring_of w (Some e) = option_and_then (λ wiring. wiring) (slice_get w.inner.items e)

-- a system's first refusal, or else where its inputs read from
pub record IsFound (m : Model) (s : System) (found : SystemWired) : Type 0 where
  pub refusal : as_plain found.refusal ≡ system_refusal m s
  pub wiring : IsSystemWired m s found.wiring

-- the same of the system inside a block
pub record IsInnerFound (m : Model) (b : Block) (found : SystemWired) : Type 0 where
  pub refusal : as_plain found.refusal ≡ option_and_then (system_refusal m) (inner_system b)
  pub wiring : IsInnerWired m b found.wiring
