-- The controls of a system as inputs, and sets of a system's inputs as masks.
use Rattle.std.specs.Prelude.{ℕ, ◌-◌, ◌^◌, Bool, not, ◌==◌, ⊤, List, [], ◌∷◌, map, filter, sum, bit_and}
use Rattle.base_core.specs.declared.base.Control.{Control}
use Rattle.base_core.specs.declared.base.Control.TheVariants.{Plain, Enabled, Triggered, Both}
use Rattle.base_core.specs.declared.base.Port.{Port}
use Rattle.base_core.specs.declared.base.Port.TheVariants.{Number, Enable, Trigger}

-- the inputs that controls are, an enable before a trigger
abbrev pub control_ports : Control → List Port
control_ports Plain = []
control_ports (Enabled reset) = Enable ∷ []
control_ports (Triggered edge) = Trigger ∷ []
control_ports (Both reset edge) = Enable ∷ Trigger ∷ []

-- no control, one, or an enable and then a trigger
abbrev pub AreControls : List Port → Type 0
AreControls [] = ⊤
AreControls (Number k ∷ ports) = ⊥
AreControls (Enable ∷ []) = ⊤
AreControls (Enable ∷ Number k ∷ ports) = ⊥
AreControls (Enable ∷ Enable ∷ ports) = ⊥
AreControls (Enable ∷ Trigger ∷ []) = ⊤
AreControls (Enable ∷ Trigger ∷ p ∷ ports) = ⊥
AreControls (Trigger ∷ []) = ⊤
AreControls (Trigger ∷ p ∷ ports) = ⊥

-- the place of an input in a mask: bit k - 1 for input k, bit 32 for an enable, bit 33 for a
-- trigger; inputs have numbers from 1 on, and 0, which none has, would share the bit of 1
abbrev pub bit_of : Port → ℕ
bit_of (Number k) = k - 1
bit_of Enable = 32
bit_of Trigger = 33

-- whether bit k is in a mask
abbrev pub has_bit : ℕ → ℕ → Bool
has_bit mask k = not (bit_and mask (2 ^ k) == 0)

-- those of the ports that are in a mask
abbrev pub ports_in : ℕ → List Port → List Port
ports_in mask ports = filter (λ p. has_bit mask (bit_of p)) ports

-- the mask of a list of ports
abbrev pub ports_mask : List Port → ℕ
ports_mask ports = sum (map (λ p. 2 ^ bit_of p) ports)

-- the controls as a mask
abbrev pub control_mask : Control → ℕ
control_mask control = ports_mask (control_ports control)
