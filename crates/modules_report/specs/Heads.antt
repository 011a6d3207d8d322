-- Which lines of systems there are.
use Rattle.std.specs.Prelude.{◌≡◌, ℕ, ◌+◌, ◌^◌, ◌≤◌, ◌&&◌, Bool, if◌then◌else◌, List, [], length}
use Rattle.base_core.specs.declared.Port.{Port}
use Rattle.base_core.specs.Ports.{has_bit}
use Rattle.modules_report.specs.declared.head.Head.{Head}
use Rattle.modules_report.specs.Following.{CanComeFirst, controls_with}
use Rattle.modules_report.specs.PlainReport.{PlainReport}
use Rattle.modules_report.specs.Texts.{head_line, ports_with}

-- there are as many sets of inputs as functions
abbrev pub HasSets : Head → Type 0
HasSets h = h.functions ≤ 2 ^ (h.inputs + length (controls_with h.enabled h.triggered))

-- the line, and the inputs of its system
abbrev pub head_text : Head → List ℕ
head_text h = head_line h.row h.inputs h.outputs h.functions (controls_with h.enabled h.triggered)

abbrev pub head_ports : Head → List Port
head_ports h = ports_with h.inputs (controls_with h.enabled h.triggered)

-- the bit of a control that a system has, where a set has it
abbrev pub own_bit : Bool → ℕ → ℕ → ℕ
own_bit control mask bit = if control && has_bit mask bit then 2 ^ bit else 0

-- the system of a line has few inputs and outputs, and has functions that differ in their inputs
-- and part its outputs
pub record IsPossible (h : Head) : Type 0 where
  pub inputs : h.inputs ≤ 32
  pub outputs : h.outputs ≤ 32
  pub sets : HasSets h
  pub functions : CanComeFirst h.outputs h.functions []

-- a line that says what a report does
pub record IsHeadOf (r : PlainReport) (h : Head) : Type 0 where
  pub row : h.row ≡ r.row
  pub inputs : h.inputs ≡ r.inputs
  pub outputs : h.outputs ≡ r.outputs
  pub functions : h.functions ≡ length r.profile.functions
  pub controls : controls_with h.enabled h.triggered ≡ r.controls
