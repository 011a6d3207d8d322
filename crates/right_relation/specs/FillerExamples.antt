-- A subsystem whose struct would be empty: its one field keeps whatever number it holds, and code
-- that stores a 0 in it.
use Rattle.std.specs.Prelude.{◌≡◌, refl, true, false, List, [], ◌∷◌, map, Some, None, pos, codes}
use Rattle.std.specs.Fmt.{digits}
use Rattle.base_core.specs.declared.Control.TheVariants.{Enabled}
use Rattle.diagram_activity.specs.declared.TrigMem.TheVariants.{NotYet}
use Rattle.diagram_blocks.specs.declared.Kind.TheVariants.{Inport, SubSystem, EnablePort}
use Rattle.diagram_meaning.specs.Diagram.{Diagram}
use Rattle.diagram_meaning.specs.RunExamples.{simple, row}
use Rattle.modules_profile.specs.SystemProfile.{SystemProfile}
use Rattle.modules_profile.specs.LocalSystem.{LocalSystem}
use Rattle.modules_profile.specs.Locals.{local_of, own_header}
use Rattle.c_syntax.specs.Tree.{StmtTree}
use Rattle.c_semantics.specs.Cells.{number, Cells, no_cells, more_cells}
use Rattle.emit_shape.specs.Heads.{now_param}
use Rattle.emit_shape.specs.SystemTree.{SystemTree}
use Rattle.emit_shape.specs.Slots.{Slot, filler, slot_field}
use Rattle.emit_shape.specs.TinySamples.{inner_procedure, zeros}
use Rattle.right_relation.specs.Rings.{begun_ring}
use Rattle.right_relation.specs.LocalTicks.{LocalTick}
use Rattle.right_relation.specs.Instances.{update, Offer, OnDone}
use Rattle.right_relation.specs.Serving.{act_values}
use Rattle.right_relation.specs.Standing.{outer_tick_of, after_cells}
use Rattle.right_relation.specs.Relation.{own_offer}
use Rattle.right_relation.specs.Renewals.{IsStarted, IsReset, AllSlots}
use Rattle.right_relation.specs.ResetExamples.{control_param}

-- E, enabled by In1, with nothing else inside
abbrev pub bare : Diagram
bare =
    simple (row None (Inport 1) [] ∷ row None (SubSystem (Enabled true)) (0 ∷ [])
    ∷ row (Some 1) EnablePort [] ∷ [])

abbrev pub local : LocalSystem
local = local_of bare [] (Some 1) []

abbrev pub profile : SystemProfile
profile = record { row = Some 1; functions = [] }

abbrev pub slots : List Slot
slots = filler ∷ []

-- its code by the bodies of its update, its start and its reset
abbrev pub code_of : (update start reset : List StmtTree) → SystemTree
code_of on_update on_start on_reset = record {
  structure = record { name = codes "s1"; fields = map slot_field slots };
  outputs = [];
  procedures =
      inner_procedure (codes "s1_update") (now_param ∷ control_param ∷ []) on_update
      ∷ inner_procedure (codes "s1_start") [] on_start
      ∷ inner_procedure (codes "s1_reset") [] on_reset
      ∷ [];
}

abbrev pub code : SystemTree
code = code_of [] [] []

abbrev pub offer_of : SystemTree → Offer
offer_of c = own_offer local profile [] slots [] c (λ k. k)

-- a tick in which it is active, and its field holds 7
abbrev pub tick : LocalTick
tick = record {
  tick = record {
    t = 4;
    parent = true;
    is_off_around = false;
    inputs = [];
    controls = pos 1 ∷ [];
    before = λ b. pos 0;
    value = λ b. pos 0;
    memory = λ b. [];
    memory_after = λ b. [];
    trigger = NotYet;
    trigger_after = NotYet;
  };
  ring = λ b. begun_ring [];
  ring_after = λ b. begun_ring [];
  filler = pos 7;
}

abbrev pub seven : Cells
seven = more_cells (number (pos 7)) no_cells

-- the update leaves it, as it should, and so do the start and the reset
update_leaves : OnDone ((offer_of code).update.routine.run
    (act_values (own_header local profile) 1 (outer_tick_of local tick) update) seven 0)
    (λ a. a.cells ≡ after_cells local tick [] slots)
unfolding digits
update_leaves = refl

start_leaves : OnDone ((offer_of code).start.routine.run [] seven 0)
    (λ a. AllSlots (IsStarted local []) slots seven a.cells)
unfolding digits
start_leaves = (refl, tt)

reset_leaves : OnDone ((offer_of code).reset.routine.run [] seven 0)
    (λ a. AllSlots (IsReset local []) slots seven a.cells)
unfolding digits
reset_leaves = (refl, tt)

-- an update, a start and a reset that store 0
abbrev pub update_clears : SystemTree
update_clears = code_of (zeros (0 ∷ [])) [] []

abbrev pub start_clears : SystemTree
start_clears = code_of [] (zeros (0 ∷ [])) []

abbrev pub reset_clears : SystemTree
reset_clears = code_of [] [] (zeros (0 ∷ []))
