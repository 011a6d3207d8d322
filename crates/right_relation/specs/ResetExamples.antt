-- The relation of an enabled subsystem whose states are reset: in a tick in which its enable is
-- low, and in one in which a subsystem around it is off.
use Rattle.std.specs.Prelude.{◌≡◌, refl, ℕ, ◌^◌, Bool, true, false, cond, List, [], ◌∷◌, map, filter, Some, None, pos, ℤ, codes}
use Rattle.std.specs.List.{list_any}
use Rattle.std.specs.Fmt.{digits}
use Rattle.base_core.specs.declared.Compare.TheVariants.{Gt}
use Rattle.base_core.specs.declared.Control.TheVariants.{Enabled}
use Rattle.diagram_activity.specs.declared.TrigMem.TheVariants.{NotYet}
use Rattle.diagram_blocks.specs.declared.Kind.TheVariants.{Inport, Outport, SubSystem, UnitDelay, EnablePort}
use Rattle.diagram_meaning.specs.Diagram.{Diagram}
use Rattle.diagram_meaning.specs.RunExamples.{simple, row, zero_initial}
use Rattle.modules_profile.specs.declared.Node.{Node}
use Rattle.modules_profile.specs.declared.Node.TheVariants.{Row}
use Rattle.modules_profile.specs.SystemProfile.{SystemProfile}
use Rattle.modules_profile.specs.LocalSystem.{LocalSystem}
use Rattle.modules_profile.specs.Locals.{local_of, local_row, own_header}
use Rattle.modules_profile.specs.LocalNodes.{same_node}
use Rattle.base_core.specs.Numbers.{int_at}
use Rattle.c_syntax.specs.declared.CType.TheVariants.{I32, U8}
use Rattle.c_syntax.specs.declared.Leaf.TheVariants.{Param, Own}
use Rattle.c_syntax.specs.declared.Target.TheVariants.{Own as OnSelf}
use Rattle.c_syntax.specs.Tree.{literal, read, compare, assign, branch, call, exprs_of_list, stmts_of_list, StmtTree, ParamTree}
use Rattle.c_semantics.specs.Cells.{Cells}
use Rattle.emit_shape.specs.Names.{counter_name}
use Rattle.emit_shape.specs.Heads.{now_param}
use Rattle.emit_shape.specs.SystemTree.{SystemTree}
use Rattle.emit_shape.specs.Slots.{Slot, value, memory, counter, slot_field}
use Rattle.emit_shape.specs.TinySamples.{inner_procedure, group_procedure, input_param, zeros}
use Rattle.emit_shape.specs.Delays.{is_single}
use Rattle.diagram_meaning.specs.SystemRuns.{SystemTick}
use Rattle.right_relation.specs.Rings.{begun_ring}
use Rattle.right_relation.specs.LocalTicks.{LocalTick, value_of, memory_of, is_off}
use Rattle.right_relation.specs.Instances.{Act, out, update, reset, none_called, with_called, Offer, offered_for, OnDone}
use Rattle.right_relation.specs.Serving.{act_values}
use Rattle.right_relation.specs.Standing.{standing_cells, after_cells, executed_by, outer_tick_of}
use Rattle.right_relation.specs.Relation.{own_offer}

-- E, enabled by In2 with its states reset: x1 through a Unit Delay to y1
abbrev pub delayed : Diagram
delayed =
    simple (row None (Inport 1) [] ∷ row None (Inport 2) [] ∷ row None (SubSystem (Enabled true))
    (1 ∷ []) ∷ row (Some 2) (Inport 1) (0 ∷ []) ∷ row (Some 2) EnablePort []
    ∷ row (Some 2) (UnitDelay zero_initial) (3 ∷ []) ∷ row (Some 2) (Outport 1 false zero_initial)
    (5 ∷ []) ∷ row None (Outport 1 false zero_initial) (6 ∷ []) ∷ [])

abbrev pub local : LocalSystem
local = local_of delayed [] (Some 2) []

-- its function takes the enable alone
abbrev pub profile : SystemProfile
profile = record { row = Some 2; functions = record { inputs = 2 ^ 32; outputs = 1 } ∷ [] }

abbrev pub slots : List Slot
slots = value (local_row delayed [] 3) ∷ value (local_row delayed [] 5)
    ∷ value (local_row delayed [] 6) ∷ memory (local_row delayed [] 5) ∷ counter (counter_name 0) U8
    ∷ []

abbrev pub control_param : ParamTree
control_param = record { name = codes "ctl"; type = I32 }

-- where the parameter at a place is above 0, the first statements, else the second
abbrev pub if_high : ℕ → List StmtTree → List StmtTree → StmtTree
if_high k yes_stmts no_stmts_list =
    branch 0 (compare Gt (read (Param k)) (literal (pos 0))) (stmts_of_list yes_stmts)
    (stmts_of_list no_stmts_list)

-- its code by the bodies of its group, its function, its update, its start and its reset
abbrev pub code_of : (group function update start reset : List StmtTree) → SystemTree
code_of group function on_update on_start on_reset = record {
  structure = record { name = codes "s2"; fields = map slot_field slots };
  outputs = 2 ∷ [];
  procedures =
      group_procedure (codes "s2_g0") (control_param ∷ []) 4 group
      ∷ inner_procedure (codes "s2_out1") (now_param ∷ control_param ∷ []) function
      ∷ inner_procedure (codes "s2_update") (now_param ∷ input_param ∷ control_param ∷ []) on_update
      ∷ inner_procedure (codes "s2_start") [] on_start
      ∷ inner_procedure (codes "s2_reset") [] on_reset
      ∷ [];
}

abbrev pub group_body : List StmtTree
group_body = if_high 0 (assign 0 1 (read (Own 3)) ∷ []) []
    ∷ if_high 0 (assign 0 2 (read (Own 1)) ∷ []) [] ∷ []

abbrev pub function_body : List StmtTree
function_body = call 0 0 OnSelf (exprs_of_list (read (Param 1) ∷ [])) ∷ []

-- x1 first, since the memory reads it
abbrev pub update_body : List StmtTree
update_body = if_high 2 (assign 0 0 (read (Param 1)) ∷ []) []
    ∷ if_high 2 (assign 0 3 (read (Own 0)) ∷ []) (zeros (3 ∷ [])) ∷ zeros (4 ∷ [])

abbrev pub start_body : List StmtTree
start_body = zeros (0 ∷ 1 ∷ 2 ∷ 3 ∷ 4 ∷ [])

abbrev pub reset_body : List StmtTree
reset_body = zeros (3 ∷ [])

abbrev pub code : SystemTree
code = code_of group_body function_body update_body start_body reset_body

-- a tick of a system without delays of several samples and without a filler
abbrev pub without_rings : SystemTick → LocalTick
without_rings m =
    record {
      tick = m;
      ring = λ b. begun_ring [];
      ring_after = λ b. begun_ring [];
      filler = pos 0;
    }

-- before the tick x1 was 9, the delay and y1 were 8, and the memory is 5; In1 is 7
abbrev pub held_values : ℕ → ℤ
held_values b = int_at (pos 7 ∷ pos 0 ∷ pos 0 ∷ pos 9 ∷ pos 0 ∷ pos 8 ∷ pos 8 ∷ []) b

-- a tick in which the system around is active and the enable is low: it is off
abbrev pub off_tick : LocalTick
off_tick =
    without_rings (record {
      t = 4;
      parent = true;
      is_off_around = false;
      inputs = pos 7 ∷ [];
      controls = pos 0 ∷ [];
      before = held_values;
      value = held_values;
      memory = λ b. pos 5 ∷ [];
      memory_after = λ b. pos 0 ∷ [];
      trigger = NotYet;
      trigger_after = NotYet;
    })

-- a tick in which a subsystem around it is off
abbrev pub reset_tick : LocalTick
reset_tick =
    without_rings (record {
      t = 4;
      parent = false;
      is_off_around = true;
      inputs = pos 7 ∷ [];
      controls = pos 1 ∷ [];
      before = held_values;
      value = held_values;
      memory = λ b. pos 5 ∷ [];
      memory_after = λ b. pos 0 ∷ [];
      trigger = NotYet;
      trigger_after = NotYet;
    })

-- the next tick of the run where the enable is high: the memory is passed on and takes the input
abbrev pub high_values : ℕ → ℤ
high_values b = int_at (pos 7 ∷ pos 1 ∷ pos 0 ∷ pos 7 ∷ pos 0 ∷ pos 5 ∷ pos 5 ∷ []) b

abbrev pub high_tick : LocalTick
high_tick =
    without_rings (record {
      t = 4;
      parent = true;
      is_off_around = false;
      inputs = pos 7 ∷ [];
      controls = pos 1 ∷ [];
      before = held_values;
      value = high_values;
      memory = λ b. pos 5 ∷ [];
      memory_after = λ b. pos 7 ∷ [];
      trigger = NotYet;
      trigger_after = NotYet;
    })

is_off_now : is_off local off_tick ≡ true
is_off_now = refl

high_equations : map (value_of local high_tick) local.rows ≡ map (λ r. high_values r.row) local.rows
high_equations = refl

off_memories : map (memory_of local off_tick) (filter (λ r. is_single r.op) local.rows)
    ≡ (pos 0 ∷ []) ∷ []
off_memories = refl

abbrev pub held : ℕ → Node → Bool
held j x = list_any (same_node x) (Row 5 ∷ Row 6 ∷ [])

abbrev pub standing : LocalTick → (ℕ → Bool) → Cells
standing m called =
    standing_cells local m [] slots (executed_by (own_header local profile) held called)
    (λ name. cond (called 1) (pos 1) (pos 0))

abbrev pub offer : Offer
offer = own_offer local profile [] slots [] code (λ k. k)

abbrev Leads : LocalTick → (ℕ → Bool) → Act → Cells → Type 0
Leads m called act cells =
    OnDone ((offered_for offer act).routine.run
    (act_values (own_header local profile) 1 (outer_tick_of local m) act) (standing m called) 0)
    (λ a. a.cells ≡ cells)

off_out : Leads off_tick none_called (out 1) (standing off_tick (with_called none_called 1))
unfolding digits
off_out = refl

off_update : Leads off_tick (with_called none_called 1) update (after_cells local off_tick [] slots)
unfolding digits
off_update = refl

high_out : Leads high_tick none_called (out 1) (standing high_tick (with_called none_called 1))
unfolding digits
high_out = refl

high_update : Leads high_tick (with_called none_called 1) update
    (after_cells local high_tick [] slots)
unfolding digits
high_update = refl

reset_around : Leads reset_tick none_called reset (after_cells local reset_tick [] slots)
unfolding digits
reset_around = refl
