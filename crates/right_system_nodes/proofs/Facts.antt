-- What is needed of a system by its own rows so that its code is right.
use Rattle.std.specs.Prelude.{◌≡◌, ℕ, ◌^◌, ◌<◌, ◌≤◌, true, false, [], length, Contains, unsigned_abs}
use Rattle.base_core.specs.Ports.{control_ports}
use Rattle.diagram_blocks.specs.Kinds.{is_inport, port_of, is_delay, is_reset_outport}
use Rattle.modules_profile.specs.declared.local.ChildUse.{ChildUse}
use Rattle.modules_profile.specs.declared.local.LocalRow.{LocalRow}
use Rattle.modules_profile.specs.LocalSystem.{LocalSystem}
use Rattle.modules_profile.specs.Locals.{inports, entering}
use Rattle.emit_shape.specs.RowStarts.{row_start}
use Rattle.right_relation.specs.SoundLocals.{IsSoundLocal}
use Rattle.emit_system_spec.specs.declared.source.Source.{Source}
use Rattle.emit_system_spec.specs.Sources.{sources}

-- one of the sources is of this row
abbrev pub IsSourced : LocalSystem → ℕ → Type 0
IsSourced local c = (s : Source) × Contains (sources local) s × (s.row ≡ c)

-- A sound system whose starts C can write; each of its wires has a source, each Inport a port and no wire, each delay an input,
-- and each control a type.
pub record IsSettled (local : LocalSystem) : Type 0 where
  pub sound : IsSoundLocal local
  pub starts : (r : LocalRow) → Contains local.rows r → unsigned_abs (row_start local r) < 2 ^ 63
  pub few : length (inports local) ≤ 32
  pub no_wires : (r : LocalRow) → Contains local.rows r → is_inport r.kind ≡ true → r.inputs ≡ []
  pub ported : (r : LocalRow) → Contains local.rows r → is_inport r.kind ≡ true →
      (0 < port_of r.kind) × (port_of r.kind ≤ length (inports local))
  pub wired : (r : LocalRow) (c : ℕ) → Contains local.rows r → Contains r.inputs c → IsSourced local c
  pub entered : (u : ChildUse) (c : ℕ) → Contains local.children u → Contains (entering u) c → IsSourced local c
  pub delays : (r : LocalRow) → Contains local.rows r → is_delay r.op ≡ true →
      (is_inport r.kind ≡ false) × (is_reset_outport r.kind ≡ false) × (0 < length r.inputs)
  pub controls : length (control_ports local.control) ≤ length local.controls
