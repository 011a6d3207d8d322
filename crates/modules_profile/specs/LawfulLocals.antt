-- What holds of the local system of every system of a resolved model.
use Rattle.std.specs.Prelude.{◌≡◌, ℕ, ◌^◌, ◌<◌, ◌≤◌, List, map, length, All, Contains, Some}
use Rattle.diagram_blocks.specs.declared.Kind.TheVariants.{Inport}
use Rattle.modules_clusters.specs.Grouping.{AreDifferent}
use Rattle.modules_profile.specs.declared.local.ChildUse.{ChildUse}
use Rattle.modules_profile.specs.declared.local.LocalRow.{LocalRow}
use Rattle.modules_profile.specs.LocalSystem.{LocalSystem}
use Rattle.base_core.specs.Ports.{control_ports}
use Rattle.modules_profile.specs.Headers.{header_functions}
use Rattle.modules_profile.specs.NodeWires.{wires_of_nodes, AreGivenOnce}

-- a child has a wire for each of its inputs and controls, and at most 32 inputs, outputs and
-- functions
pub record IsChild (u : ChildUse) : Type 0 where
  pub inputs : length u.header.inputs ≤ 32
  pub outputs : length u.header.outputs ≤ 32
  pub functions : length (header_functions u.header) ≤ 32
  pub wires : length u.wires ≡ length u.header.inputs
  pub controls : length u.controls ≡ length (control_ports u.header.control)

-- no two own rows have one number, the children are those of different subsystem rows, each wire is
-- given by one node, and nodes and ports are numbers that fit
pub record IsLocal (local : LocalSystem) : Type 0 where
  pub rows_differ : AreDifferent (map (λ r. r.row) local.rows)
  pub numbers : List ℕ
  pub have_numbers : map (λ u. u.header.row) local.children ≡ map Some numbers
  pub children_differ : AreDifferent numbers
  pub are_children : All IsChild local.children
  pub few : length (wires_of_nodes local) < 2 ^ 32
  pub once : AreGivenOnce (wires_of_nodes local)
  pub ports : (r : LocalRow) (k : ℕ) → Contains local.rows r → r.kind ≡ Inport k →
      (0 < k) × (k ≤ 32)
