-- The struct `root` of a program that is put together, after its start and in its ticks.
use Rattle.std.specs.Prelude.{◌≡◌, ℕ, suc, ◌%◌, ◌<◌, ◌≤◌, ⊤, List, [], ◌∷◌, map, length, slice_index_or, Option, None, unwrap_or, ℤ, pos}
use Rattle.std.specs.List.{AllByRecursion}
use Rattle.diagram_meaning.specs.Rows.{outports_of}
use Rattle.diagram_meaning.specs.Run.{outs}
use Rattle.diagram_meaning.specs.Laws.{Run, IsRunOver}
use Rattle.diagram_meaning.specs.Traces.{IsTrace}
use Rattle.modules_profile.specs.Systems.{system_name}
use Rattle.c_syntax.specs.Tree.{ProgramTree}
use Rattle.c_syntax.specs.RootFields.{procedure_named, field_position, output_fields, root_struct, root_fields}
use Rattle.c_semantics.specs.Cells.{Cells, number_at, fields_at, cells_at}
use Rattle.c_semantics.specs.CellLaws.{cells_count}
use Rattle.c_semantics.specs.Machine.{After}
use Rattle.c_semantics.specs.Rows.{step_run, tick_row}
use Rattle.emit_shape.specs.Names.{now_name, root_start_name, value_name}
use Rattle.emit_shape.specs.Programs.{struct_place}
use Rattle.right_relation.specs.Forms.{HasForms}
use Rattle.right_relation.specs.Instances.{none_called, OnDone}
use Rattle.right_relation.specs.Budgets.{step_bound}
use Rattle.right_relation.specs.Renewals.{Renewal}
use Rattle.right_claim.specs.Paths.{path_to, number_in}
use Rattle.right_claim.specs.Calls.{CallsInTick}
use Rattle.right_claim.specs.Anew.{forms_at, FromAnyFields}
use Rattle.right_linking.specs.Parts.{Parts, program_of, diagram, all_systems, Views}
use Rattle.right_linking.specs.Places.{FormsAreOfSlots}
use Rattle.right_linking.specs.Starts.{Renewed, ReachInside}
use Rattle.right_linking.specs.Lives.{Lives}

-- the field of `root` for `top`
abbrev pub top_place : ProgramTree → ℕ
top_place p = field_position (root_fields p) (system_name None)

-- the root's fields before tick t, where its instance of `top` has these
pub record IsRootAt (p : ProgramTree) (hyper t : ℕ) (top cells : Cells) : Type 0 where
  pub now : number_at cells (field_position (root_fields p) now_name) ≡ pos (t % hyper)
  pub inner : fields_at cells (top_place p) ≡ top
  pub long : cells_count cells ≡ length (root_fields p)

-- each field of a path is there
abbrev pub HasPath : List ℕ → Cells → Type 0
HasPath [] cells = ⊤
HasPath (f ∷ path) cells = (f < cells_count cells) × HasPath path (fields_at cells f)

-- in these fields of the root's struct there is an instance of the system at its path
pub record HasInstance (a : Parts) (cells : Cells) (s : Option ℕ) : Type 0 where
  pub there : HasPath (path_to (program_of a) (diagram a).rows s) cells
  pub forms : HasForms (forms_at (program_of a) (struct_place (program_of a) s))
      (cells_at (path_to (program_of a) (diagram a).rows s) cells)

-- so it is in any fields of that struct
abbrev pub InstancesHavePaths : Parts → Type 0
InstancesHavePaths a =
    (cells : Cells) → HasForms (forms_at (program_of a) (root_struct (program_of a))) cells →
    AllByRecursion (HasInstance a cells) (all_systems a)

-- What `root_start` leaves: the tick is 0, `top` is started, and so is each system inside at its
-- path; each output is what the field of its Outport in `top` holds, and the fields keep their
-- forms.
pub record IsRootStarted (a : Parts) (started : Option ℕ → Renewal)
    (before after : Cells) : Type 0 where
  pub stands : IsRootAt (program_of a) a.hyper 0
      ((started None).renewed (fields_at before (top_place (program_of a)))) after
  pub systems : AllByRecursion
      (λ s. cells_at (path_to (program_of a) (diagram a).rows s) after
      ≡ (started s).renewed (cells_at (path_to (program_of a) (diagram a).rows s) before))
      (all_systems a)
  pub outputs : map (number_at after) (output_fields (root_fields (program_of a)))
      ≡ map (λ b. number_in (program_of a) None (fields_at after (top_place (program_of a)))
      (value_name b)) (outports_of (diagram a).rows None)
  pub keeps : HasForms (forms_at (program_of a) (root_struct (program_of a))) after

-- so it does from any fields of the root's struct
abbrev pub RootStarts : (a : Parts) (v : Views a) → Renewed a v → Type 0
RootStarts a v renewed =
    FromAnyFields (program_of a) (root_struct (program_of a))
    (unwrap_or (procedure_named (program_of a) root_start_name) 0)
    (IsRootStarted a renewed.started)

-- A tick of the root goes from the tick's number and an instance of `top` in which nothing was
-- called to those of the next tick, gives the outputs, stays within the bound, and makes the calls
-- and stores of the tick.
pub record TakesTick (a : Parts) (xs : List (List ℤ)) (run : Run) (t : ℕ) (top : Cells)
    (after : After) : Type 0 where
  pub stands : IsRootAt (program_of a) a.hyper (suc t) top after.cells
  pub outputs : (tick_row (program_of a) after).outputs
      ≡ outs (diagram a) None (slice_index_or run.values t [])
  pub in_bound : after.steps ≤ step_bound (diagram a).rows
  pub calls : CallsInTick (program_of a) (diagram a) (slice_index_or xs t [])
      (slice_index_or run.values t []) (slice_index_or run.triggers t []) after.log after.stores

-- so it does in each tick of a run through which the instance of `top` lives
abbrev pub RootTakesTicks : (a : Parts) (v : Views a) → Renewed a v → Type 0
RootTakesTicks a v renewed = (xs : List (List ℤ)) (run : Run) (before : Cells) →
    IsTrace (diagram a) None xs → IsRunOver (diagram a) None xs run →
    (lives : Lives a v None xs run renewed None before) →
    (t : ℕ) (cells : Cells) → t < length xs →
    IsRootAt (program_of a) a.hyper t ((lives.at t).standing none_called) cells →
    OnDone (step_run (program_of a) (slice_index_or xs t []) cells)
    (TakesTick a xs run t (lives.at t).after)

-- Given what the fields of systems hold, that a start reaches all systems inside, and that each
-- instance has its path.
abbrev pub RootsStart : Type 0
RootsStart = FormsAreOfSlots → (a : Parts) (v : Views a) (renewed : Renewed a v) →
    ReachInside a renewed.started → InstancesHavePaths a → RootStarts a v renewed

abbrev pub RootsTakeTicks : Type 0
RootsTakeTicks = (a : Parts) (v : Views a) (renewed : Renewed a v) → RootTakesTicks a v renewed
