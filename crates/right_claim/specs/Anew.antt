-- Instances that are started anew and reset: what this makes of the fields of a system and of each
-- system inside it, whatever numbers of their types they held, and what they answer from then on.
use Rattle.std.specs.Prelude.{◌≡◌, ◌⊎◌, ℕ, ◌+◌, ◌≤◌, true, [], map, slice_index_or, unwrap_or, Option, Some, None, pos}
use Rattle.std.specs.List.{AllByRecursion}
use Rattle.diagram_meaning.specs.Rows.{outports_of, system_control, is_triggered}
use Rattle.diagram_meaning.specs.Diagram.{Diagram}
use Rattle.diagram_meaning.specs.Run.{start_of}
use Rattle.modules_profile.specs.Systems.{systems, systems_inside, system_name}
use Rattle.c_syntax.specs.Tree.{ProgramTree}
use Rattle.c_syntax.specs.RootFields.{procedure_named, field_position, output_fields, root_struct, root_fields}
use Rattle.c_semantics.specs.Cells.{Cells, number_at, fields_at, cells_at}
use Rattle.c_semantics.specs.Machine.{routine_at, program_routines}
use Rattle.emit_shape.specs.Names.{value_name, memory_name, place_name, taken_name, trigger_name, now_name, start_name, reset_name, root_start_name}
use Rattle.emit_shape.specs.Programs.{procedure_place, struct_place}
use Rattle.right_relation.specs.Instances.{OnDone}
use Rattle.right_relation.specs.Forms.{Form, holds_instance, Forms, no_forms, more_forms, HasForms, struct_forms}
use Rattle.right_claim.specs.Paths.{path_inside, path_to, number_in}
use Rattle.right_claim.specs.Held.{valued_rows, single_rows, line_rows, counter_fields}
use Rattle.right_claim.specs.Driving.{TakesTraces, AnswersScripts}

-- the forms of the fields of the struct at a position
abbrev pub forms_at : ProgramTree → ℕ → Forms
forms_at p k = slice_index_or (struct_forms [] p.structs) k no_forms

-- how many fields there are of these forms, those of instances below too
abbrev mutual
  pub form_fields : Form → ℕ
  form_fields (holds_instance fields) = field_count fields
  form_fields _ = 0

  pub field_count : Forms → ℕ
  field_count no_forms = 0
  field_count (more_forms form forms) = 1 + (form_fields form + field_count forms)

-- memories hold what they do before the first tick, rings count as empty, and the trigger is not
-- yet
pub record AreForgotten (p : ProgramTree) (d : Diagram) (n : Option ℕ)
    (after : Cells) : Type 0 where
  pub memories : AllByRecursion (λ b. number_in p n after (memory_name b) ≡ start_of d b)
      (single_rows d n)
  pub places : AllByRecursion (λ b. number_in p n after (place_name b) ≡ pos 0) (line_rows d n)
  pub taken : AllByRecursion (λ b. number_in p n after (taken_name b) ≡ pos 0) (line_rows d n)
  pub trigger : is_triggered (system_control d.rows n) ≡ true →
      number_in p n after trigger_name ≡ pos 0

-- after a start: values too, and no function counts as called
pub record AreStarted (p : ProgramTree) (d : Diagram) (n : Option ℕ) (after : Cells) : Type 0 where
  pub forgotten : AreForgotten p d n after
  pub values : AllByRecursion (λ b. number_in p n after (value_name b) ≡ start_of d b)
      (valued_rows d n)
  pub counters : AllByRecursion (λ f. number_in p n after f.name ≡ pos 0) (counter_fields p n)

-- after a reset: each value is as it was, and each counter is 0 or as it was
pub record AreReset (p : ProgramTree) (d : Diagram) (n : Option ℕ)
    (before after : Cells) : Type 0 where
  pub forgotten : AreForgotten p d n after
  pub values : AllByRecursion (λ b. number_in p n after (value_name b)
      ≡ number_in p n before (value_name b)) (valued_rows d n)
  pub counters : AllByRecursion (λ f. (number_in p n after f.name ≡ pos 0)
      ⊎ (number_in p n after f.name ≡ number_in p n before f.name)) (counter_fields p n)

-- ---- In an instance of the system s, and in all instances inside

-- it holds of the fields of s and of those of each system inside, before and after
pub record HoldsInside (p : ProgramTree) (d : Diagram) (s : Option ℕ) (P : Option ℕ → Cells →
    Cells → Type 0) (before after : Cells) : Type 0 where
  pub here : P s before after
  pub inside : AllByRecursion
      (λ e. P (Some e) (cells_at (path_inside p d.rows s e) before)
      (cells_at (path_inside p d.rows s e) after)) (systems_inside d.rows s)

-- whatever fields its struct has, the procedure without arguments of this name isn't stuck, takes
-- at most as many steps as there are fields below, and leaves that
abbrev pub FromAnyFields : ProgramTree → (structure : ℕ) (procedure : ℕ) →
    (Cells → Cells → Type 0) → Type 0
FromAnyFields p structure procedure P =
    (before : Cells) → HasForms (forms_at p structure) before →
    OnDone ((routine_at (program_routines p) procedure).run [] before 0)
    (λ a. (a.steps ≤ field_count (forms_at p structure)) × P before a.cells)

-- A system is started, and reset, from any fields: after the start all fields of it and of the
-- systems inside are as before the first tick, and each lawful script is answered by its run.
pub record RenewsAll (p : ProgramTree) (d : Diagram) (hyper : ℕ) (s : Option ℕ) : Type 0 where
  pub starts : FromAnyFields p (struct_place p s) (procedure_place p (start_name s))
      (λ before after. HoldsInside p d s (λ n old new. AreStarted p d n new) before after
      × AnswersScripts p d hyper [] s after)
  pub resets : FromAnyFields p (struct_place p s) (procedure_place p (reset_name s))
      (HoldsInside p d s (AreReset p d))

-- The fields of `root` after `root_start`: the tick is 0, `top` is started, and each output is what
-- its Outport is before the first tick; each trace is answered by its run, and in each system each
-- lawful script.
pub record AreRestarted (p : ProgramTree) (d : Diagram) (hyper : ℕ)
    (before after : Cells) : Type 0 where
  pub tick : number_at after (field_position (root_fields p) now_name) ≡ pos 0
  pub top : HoldsInside p d None (λ n old new. AreStarted p d n new)
      (fields_at before (field_position (root_fields p) (system_name None)))
      (fields_at after (field_position (root_fields p) (system_name None)))
  pub outputs : map (number_at after) (output_fields (root_fields p))
      ≡ map (start_of d) (outports_of d.rows None)
  pub traces : TakesTraces p d after
  pub scripts : AllByRecursion (λ s. AnswersScripts p d hyper (path_to p d.rows s) s after)
      (systems d.rows)

-- the whole program is started from any fields
abbrev pub Restarts : ProgramTree → Diagram → ℕ → Type 0
Restarts p d hyper =
    FromAnyFields p (root_struct p) (unwrap_or (procedure_named p root_start_name) 0)
    (AreRestarted p d hyper)
