-- An instance of a system in a tick, by the schedule of its nodes.
use Rattle.std.specs.Prelude.{ℕ, ◌+◌, Bool, List, [], ◌++◌, map}
use Rattle.modules_profile.specs.declared.nodes.Node.{Node}
use Rattle.modules_profile.specs.LocalSystem.{LocalSystem}
use Rattle.modules_profile.specs.SystemHeader.{SystemHeader}
use Rattle.modules_schedule.specs.SystemSchedule.{SystemSchedule}
use Rattle.c_semantics.specs.Machine.{LoggedCall}
use Rattle.right_relation.specs.Instances.{Act, out, update, reset, InstanceTick, Offer}
use Rattle.right_relation.specs.LocalTicks.{LocalTick}
use Rattle.right_relation.specs.Serving.{own_entry}
use Rattle.right_relation.specs.Standing.{executed_by, standing_cells, after_cells}
use Rattle.emit_system_spec.specs.Fields.{code_slots}
use Rattle.right_system_ticks.specs.Holding.{done_by, held, counted}
use Rattle.right_system_ticks.specs.CodeAccounts.{Account}
use Rattle.right_system_ticks.specs.OwnAccounts.{function_account, update_account, reset_account}

-- the call of an own procedure with this number
abbrev pub called_here : ℕ → LoggedCall
called_here n = record { path = []; procedure = n }

module _ (local : LocalSystem) (h : SystemHeader) (schedule : SystemSchedule) (m : LocalTick)
    (children : List InstanceTick) where
  -- the nodes that were executed where these functions were called
  abbrev pub own_executed : (ℕ → Bool) → Node → Bool
  own_executed called = executed_by h (held local schedule) called

  -- what an act adds where these functions were called before
  abbrev pub act_account : (ℕ → Bool) → Act → Account
  act_account called (out j) =
      function_account local m children schedule (done_by schedule called) j
  act_account called update = update_account local m children schedule (own_executed called)
  act_account called reset = reset_account local m children

  abbrev pub own_steps : (ℕ → Bool) → Act → ℕ
  own_steps called act = (act_account called act).steps

  -- the instance, whose procedures are offered so
  abbrev pub own_instance : Offer → InstanceTick
  own_instance offer = record {
    standing = λ called.
        standing_cells local m children (code_slots local schedule) (own_executed called)
        (counted schedule called);
    after = after_cells local m children (code_slots local schedule);
    most = λ called act. (act_account called act).steps + (act_account called act).inner;
    log = λ called act. map called_here (own_entry offer act) ++ (act_account called act).log;
    stored = λ called act. (act_account called act).stored;
  }
