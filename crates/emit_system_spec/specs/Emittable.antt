-- What a system needs so that its code can be written: operations and starts that C can write, and
-- so few ports, fields and procedures that 32 bits number them.
use Rattle.std.specs.Prelude.{◌+◌, ◌^◌, ◌<◌, ◌≤◌, All, length, unsigned_abs}
use Rattle.modules_profile.specs.declared.local.LocalRow.{LocalRow}
use Rattle.modules_profile.specs.LocalSystem.{LocalSystem}
use Rattle.modules_profile.specs.LawfulLocals.{IsChild}
use Rattle.modules_profile.specs.Locals.{inports}
use Rattle.modules_schedule.specs.SystemSchedule.{SystemSchedule}
use Rattle.emit_row_code.specs.Resolved.{IsRowOp}
use Rattle.emit_shape.specs.RowStarts.{row_start}
use Rattle.emit_system_spec.specs.Fields.{child_field, shared_groups}
use Rattle.emit_system_spec.specs.Groups.{own_count}
use Rattle.emit_system_spec.specs.Places.{child_base}

-- a row's operation is one that C can compute, and C can write its start
pub record IsWritableRow (local : LocalSystem) (r : LocalRow) : Type 0 where
  pub op : IsRowOp r.op
  pub start : unsigned_abs (row_start local r) < 2 ^ 63

pub record IsEmittable (local : LocalSystem) (schedule : SystemSchedule) : Type 0 where
  pub rows : All (IsWritableRow local) local.rows
  pub children : All IsChild local.children
  pub inputs : length (inports local) ≤ 32
  pub groups : length schedule.groups < 2 ^ 32
  pub fields : child_field local (length local.children) + length (shared_groups schedule) ≤ 2 ^ 31
  pub procedures : child_base local (own_count schedule) (length local.children) ≤ 2 ^ 31
