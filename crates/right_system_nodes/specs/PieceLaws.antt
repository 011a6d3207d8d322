-- That the code of each row, memory, trigger and child is right in a procedure that has the
-- parameters which it reads.
use Rattle.std.specs.Prelude.{◌≡◌, ℕ, ◌<◌, ◌≤◌, true, List, length, slice_get, Contains, Some}
use Rattle.diagram_blocks.specs.Meaning.{has_value}
use Rattle.diagram_meaning.specs.Rows.{is_enabled, is_triggered}
use Rattle.diagram_blocks.specs.Kinds.{is_inport, port_of}
use Rattle.modules_profile.specs.declared.local.ChildUse.{ChildUse}
use Rattle.modules_profile.specs.declared.local.LocalRow.{LocalRow}
use Rattle.modules_profile.specs.LocalSystem.{LocalSystem}
use Rattle.modules_profile.specs.SystemProfile.{SystemProfile}
use Rattle.modules_profile.specs.Headers.{header_functions}
use Rattle.modules_schedule.specs.SystemSchedule.{SystemSchedule}
use Rattle.c_syntax.specs.Tree.{ParamTree}
use Rattle.emit_shape.specs.Delays.{is_single, is_line}
use Rattle.emit_shape.specs.Names.{now_name, input_name, control_name, trigger_param}
use Rattle.emit_shape.specs.Slots.{instance}
use Rattle.right_relation.specs.NodeCode.{IsValueCode, IsMemoryCode, IsRingCode, IsTriggerCode, IsCallCode, IsUpdateCode, IsResetCode}
use Rattle.emit_system_spec.specs.Emitted.{IsEmitted}
use Rattle.emit_system_spec.specs.Fields.{code_slots}
use Rattle.emit_system_spec.specs.Groups.{own_count}
use Rattle.emit_system_spec.specs.NodeCode.{value_code, memory_code, trigger_code, call_code, update_code, reset_code}

-- one of the parameters has this name
abbrev pub HasParam : List ParamTree → List ℕ → Type 0
HasParam params name = (q : ParamTree) × Contains params q × (q.name ≡ name)

-- a procedure of a system takes the tick and the system's controls
pub record HasParams (local : LocalSystem) (params : List ParamTree) : Type 0 where
  pub now : HasParam params now_name
  pub enable : is_enabled local.control ≡ true → HasParam params control_name
  pub trigger : is_triggered local.control ≡ true → HasParam params (trigger_param local.control)

-- P holds in each such procedure of each system that is emitted
abbrev pub InEachProcedure : (LocalSystem → SystemSchedule → List ParamTree → Type 0) → Type 0
InEachProcedure P =
    (local : LocalSystem) (profile : SystemProfile) (schedule : SystemSchedule)
    (params : List ParamTree) →
    IsEmitted local profile schedule → HasParams local params → P local schedule params

-- the code of a row gives its value; that of an Inport is there where its input is a parameter
abbrev pub ValuesAreGiven : Type 0
ValuesAreGiven = InEachProcedure (λ local schedule params.
    (r : LocalRow) → Contains local.rows r → has_value r.kind ≡ true →
    (is_inport r.kind ≡ true → HasParam params (input_name (port_of r.kind))) →
    IsValueCode local (code_slots local schedule) (own_count schedule) params r
    (value_code local params r))

-- the code of a memory makes it that of the next tick
abbrev pub MemoriesAreGiven : Type 0
MemoriesAreGiven = InEachProcedure (λ local schedule params.
    (r : LocalRow) → Contains local.rows r → is_single r.op ≡ true →
    IsMemoryCode local (code_slots local schedule) (own_count schedule) params r
    (memory_code local params r))

abbrev pub RingsAreGiven : Type 0
RingsAreGiven = InEachProcedure (λ local schedule params.
    (r : LocalRow) → Contains local.rows r → is_line r.op ≡ true →
    IsRingCode local (code_slots local schedule) (own_count schedule) params r
    (memory_code local params r))

-- the trigger remembers its level
abbrev pub TriggersAreRemembered : Type 0
TriggersAreRemembered = InEachProcedure (λ local schedule params.
    is_triggered local.control ≡ true →
    IsTriggerCode local (code_slots local schedule) (own_count schedule) params
    (trigger_code local params))

-- calls of a child's function, of its update and of its reset are these acts on it
abbrev pub CallsAreActs : Type 0
CallsAreActs = InEachProcedure (λ local schedule params.
    (f k j : ℕ) (u : ChildUse) → slice_get (code_slots local schedule) f ≡ Some (instance k u) →
    0 < j →
    j ≤ length (header_functions u.header) →
    IsCallCode local (code_slots local schedule) (own_count schedule) params f k u j
    (call_code local (own_count schedule) params k u j))

abbrev pub UpdatesAreActs : Type 0
UpdatesAreActs = InEachProcedure (λ local schedule params.
    (f k : ℕ) (u : ChildUse) → slice_get (code_slots local schedule) f ≡ Some (instance k u) →
    IsUpdateCode local (code_slots local schedule) (own_count schedule) params f k u
    (update_code local (own_count schedule) params (k, u)))

abbrev pub ResetsAreActs : Type 0
ResetsAreActs = InEachProcedure (λ local schedule params.
    (f k : ℕ) (u : ChildUse) → slice_get (code_slots local schedule) f ≡ Some (instance k u) →
    IsResetCode local (code_slots local schedule) (own_count schedule) params f k u
    (reset_code local (own_count schedule) params (k, u)))
