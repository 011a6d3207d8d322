-- The inputs of a system that its outputs need, by its nodes.
use Rattle.std.specs.Prelude.{◌≡◌, ◌↔◌, ℕ, suc, ◌<◌, List, length, slice_get, slice_index, Contains, Some, IsBitSet, IsTrue}
use Rattle.std.specs.List.{AllZip}
use Rattle.base_core.specs.declared.Control.{Control}
use Rattle.base_core.specs.declared.Port.{Port}
use Rattle.base_core.specs.declared.Port.TheVariants.{Number, Enable, Trigger}
use Rattle.diagram_blocks.specs.declared.Kind.TheVariants.{Inport}
use Rattle.diagram_meaning.specs.Rows.{is_enabled, is_triggered}
use Rattle.diagram_meaning.specs.Needs.{IsMaskOf}
use Rattle.modules_profile.specs.declared.local.LocalRow.{LocalRow}
use Rattle.modules_profile.specs.declared.nodes.Node.TheVariants.{Row}
use Rattle.modules_profile.specs.LocalSystem.{LocalSystem}
use Rattle.modules_profile.specs.Locals.{outports}
use Rattle.modules_profile.specs.LocalNodes.{NodeReaches}

-- the Inport with this port reaches the Outport
pub record InputReaches (local : LocalSystem) (o : LocalRow) (port : ℕ) : Type 0 where
  pub inport : LocalRow
  pub is_own : Contains local.rows inport
  pub is_inport : inport.kind ≡ Inport port
  pub reaches : NodeReaches local (Row inport.row) (Row o.row)

-- inputs by number, and the controls
abbrev pub inputs_of : (ℕ → Type 0) → Control → Port → Type 0
inputs_of numbers control (Number k) = numbers k
inputs_of numbers control Enable = IsTrue (is_enabled control)
inputs_of numbers control Trigger = IsTrue (is_triggered control)

-- the masks of what each output needs, by port
abbrev pub AreNodeInputs : LocalSystem → List ℕ → Type 0
AreNodeInputs local masks =
    AllZip (λ o mask. IsMaskOf (inputs_of (InputReaches local o) local.control) mask)
    (outports local) masks

-- the row at a place is the Inport with this port
pub record IsInportAt (rows : List LocalRow) (a port : ℕ) : Type 0 where
  pub row : LocalRow
  pub at : slice_get rows a ≡ Some row
  pub is_inport : row.kind ≡ Inport port

-- of the first n nodes, that of input k + 1 has bit k
pub record AreInputBits (rows : List LocalRow) (n : ℕ) (source : List ℕ) : Type 0 where
  pub len : length source ≡ n
  pub bits : (a k : ℕ) → a < n →
      IsBitSet (slice_index source a) k ↔ ((k < 32) × IsInportAt rows a (suc k))
