-- Each piece of a system's code is right in the procedure in which it is: the code of a node in
-- its group or in the update, and that of memories, of the trigger and of children in the update.
use Rattle.std.specs.Prelude.{◌≡◌, ℕ, true, MatchBool, List, Contains, slice_get, Some}
use Rattle.diagram_blocks.specs.Meaning.{has_value}
use Rattle.diagram_meaning.specs.Rows.{is_triggered}
use Rattle.diagram_blocks.specs.Kinds.{is_delay}
use Rattle.modules_profile.specs.declared.local.ChildUse.{ChildUse}
use Rattle.modules_profile.specs.declared.local.LocalRow.{LocalRow}
use Rattle.modules_profile.specs.LocalSystem.{LocalSystem}
use Rattle.modules_profile.specs.SystemProfile.{SystemProfile}
use Rattle.modules_profile.specs.Locals.{own_header}
use Rattle.modules_schedule.specs.SystemSchedule.{SystemSchedule}
use Rattle.c_syntax.specs.Tree.{StmtTrees, no_stmts, ParamTree}
use Rattle.emit_shape.specs.Delays.{is_line}
use Rattle.emit_shape.specs.Heads.{update_head}
use Rattle.emit_shape.specs.Slots.{instance}
use Rattle.right_relation.specs.NodeCode.{IsValueCode, IsMemoryCode, IsRingCode, IsTriggerCode, IsCallCode, IsUpdateCode, IsResetCode}
use Rattle.emit_system_spec.specs.declared.node.Place.{Place}
use Rattle.emit_system_spec.specs.declared.node.Place.TheVariants.{Row, Call}
use Rattle.emit_system_spec.specs.Emitted.{IsEmitted}
use Rattle.emit_system_spec.specs.EmittedCode.{group_params}
use Rattle.emit_system_spec.specs.Fields.{code_slots}
use Rattle.emit_system_spec.specs.Groups.{code_groups, group_nodes, own_count}
use Rattle.emit_system_spec.specs.NodeCode.{code_at, memory_code, trigger_code, update_code, reset_code}
use Rattle.emit_system_spec.specs.Places.{node_places}

-- In a procedure with these parameters.
module _ (local : LocalSystem) (schedule : SystemSchedule) (params : List ParamTree) where
  -- the code of a node: of a row with a value it gives the value, of another row there is none, and
  -- a call is made
  abbrev pub IsNodeCode : Place → StmtTrees → Type 0
  IsNodeCode (Row p) code = (r : LocalRow) → slice_get local.rows p ≡ Some r →
      MatchBool (has_value r.kind)
      (IsValueCode local (code_slots local schedule) (own_count schedule) params r code) (code
      ≡ no_stmts)
  IsNodeCode (Call k j) code =
      (f : ℕ) (u : ChildUse) → slice_get (code_slots local schedule) f ≡ Some (instance k u) →
      IsCallCode local (code_slots local schedule) (own_count schedule) params f k u j code

  -- so is the code of the node at each of these positions
  abbrev pub AreNodeCodes : List ℕ → Type 0
  AreNodeCodes nodes =
      (n : ℕ) (x : Place) → Contains nodes n → slice_get (node_places local) n ≡ Some x →
      IsNodeCode x (code_at local (own_count schedule) params n)

  -- the memory of each delay, what the trigger remembers, and each child's update and reset
  pub record AreUpdateCodes : Type 0 where
    pub memories : (r : LocalRow) → Contains local.rows r → is_delay r.op ≡ true →
        MatchBool (is_line r.op)
        (IsRingCode local (code_slots local schedule) (own_count schedule) params r
        (memory_code local params r))
        (IsMemoryCode local (code_slots local schedule) (own_count schedule) params r
        (memory_code local params r))
    pub trigger : is_triggered local.control ≡ true →
        IsTriggerCode local (code_slots local schedule) (own_count schedule) params
        (trigger_code local params)
    pub updates : (f k : ℕ) (u : ChildUse) →
        slice_get (code_slots local schedule) f ≡ Some (instance k u) →
        IsUpdateCode local (code_slots local schedule) (own_count schedule) params f k u
        (update_code local (own_count schedule) params (k, u))
    pub resets : (f k : ℕ) (u : ChildUse) →
        slice_get (code_slots local schedule) f ≡ Some (instance k u) →
        IsResetCode local (code_slots local schedule) (own_count schedule) params f k u
        (reset_code local (own_count schedule) params (k, u))

-- all pieces are right, each where it is
pub record HasRightPieces (local : LocalSystem) (profile : SystemProfile)
    (schedule : SystemSchedule) : Type 0 where
  pub groups : (g : ℕ) → Contains (code_groups schedule) g →
      AreNodeCodes local schedule (group_params local profile schedule g) (group_nodes schedule g)
  pub nodes : AreNodeCodes local schedule (update_head (own_header local profile)).params
      schedule.update
  pub update : AreUpdateCodes local schedule (update_head (own_header local profile)).params

abbrev pub EmittedPiecesAreRight : Type 0
EmittedPiecesAreRight =
    (local : LocalSystem) (profile : SystemProfile) (schedule : SystemSchedule) →
    IsEmitted local profile schedule →
    HasRightPieces local profile schedule
