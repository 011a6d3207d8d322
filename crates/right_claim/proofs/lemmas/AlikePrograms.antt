-- What is said of right code over traces, scripts, starts and resets holds of each program that does the same.
use Rattle.std.specs.Prelude.{◌≡◌, ◌⊎◌, ℕ, suc, ◌+◌, ◌≤◌, ◌%◌, Bool, true, false, List, [], ◌∷◌, ◌++◌, map, filter, slice_index_or, Contains, IsPermutation, Option, Some, None, option_map, ℤ, pos}
use Rattle.std.specs.List.{AllByRecursion}
use Rattle.std.proofs.Common.{refl, sym, ap, subst, ◌∙◌}
use Rattle.diagram_activity.specs.declared.TrigMem.{TrigMem}
use Rattle.diagram_blocks.specs.Meaning.{has_value}
use Rattle.diagram_meaning.specs.declared.table.Row.{Row}
use Rattle.diagram_meaning.specs.Rows.{row_at, rows_of, outports_of, around, system_control, is_triggered}
use Rattle.diagram_meaning.specs.Diagram.{Diagram}
use Rattle.diagram_meaning.specs.Run.{value_at, memory_at, first_of, start_of, active_in, outs}
use Rattle.diagram_meaning.specs.Laws.{Run}
use Rattle.diagram_meaning.specs.SystemRuns.{system_trigger}
use Rattle.modules_profile.specs.declared.Function.{Function}
use Rattle.modules_profile.specs.Functions.{functions_for}
use Rattle.modules_profile.specs.Systems.{systems, systems_inside, system_name}
use Rattle.c_syntax.specs.declared.Stuck.{Stuck}
use Rattle.c_syntax.specs.Tree.{FieldTree, StructTree, ProgramTree}
use Rattle.c_syntax.specs.RootFields.{field_position, output_fields, root_struct, root_fields}
use Rattle.c_semantics.specs.Cells.{Cells, number_at, fields_at, cells_at}
use Rattle.c_semantics.specs.Machine.{LoggedCall, StoredField, After, Outcome, done, stuck, call_from_outside}
use Rattle.c_semantics.specs.Rows.{TickRow, Rows, tick_row, c_rows, start_run, step_run}
use Rattle.c_semantics.specs.LinesAside.{RunAlike, outcome_aside, stuck_aside}
use Rattle.emit_shape.specs.Names.{value_name, memory_name, trigger_name, out_name, update_name, start_name, reset_name, now_name, root_start_name, root_step_name}
use Rattle.emit_shape.specs.Programs.{procedure_place, struct_place}
use Rattle.emit_shape.specs.Faces.{out_places}
use Rattle.right_relation.specs.Instances.{OnDone, calls_at, stores_at}
use Rattle.right_relation.specs.Forms.{HasForms}
use Rattle.right_relation.specs.Budgets.{step_bound}
use Rattle.diagram_activity.specs.Activity.{memory_number}
use Rattle.right_claim.specs.Paths.{path_to, path_inside, place_in, number_in}
use Rattle.right_claim.specs.Scripts.{Call, out_with, update_with}
use Rattle.right_claim.specs.Calls.{IsWholeTick, HasCallsOf, StoresOnce, CallsInside, CallsInTick}
use Rattle.right_claim.specs.Held.{valued_rows, single_rows, line_rows, counter_fields, HoldsRing, HoldsTick, HoldsRun}
use Rattle.right_claim.specs.Driving.{IsRightTick, TicksFrom, TakesTraces, call_in_tick, HoldsOutputs, DrivenFrom, AnswersScripts}
use Rattle.right_claim.specs.Right.{GivesOutputs, StaysInBound, AnswersAnyOrder}
use Rattle.right_claim.specs.Anew.{forms_at, field_count, AreForgotten, AreStarted, AreReset, HoldsInside, FromAnyFields, RenewsAll, AreRestarted, Restarts}

-- ---- Outcomes

-- what holds of what is left holds in both
pub done-alike : (a b : Outcome) (P : After → Type 0) → outcome_aside a ≡ outcome_aside b → OnDone a P → OnDone b P
done-alike (done x) (done y) P same h = subst (λ (o : Outcome). OnDone o P) same h
done-alike (done x) (stuck at cells) P same h = absurd (subst (λ (o : Outcome). OnDone o P) same h)
done-alike (stuck at cells) b P same h = absurd h

-- what follows from what holds
pub done-then : (a : Outcome) (P Q : After → Type 0) → ((x : After) → P x → Q x) → OnDone a P → OnDone a Q
done-then (done x) P Q next h = next x h
done-then (stuck at cells) P Q next h = absurd h

not-stuck : (a b : Option Stuck) → option_map stuck_aside a ≡ option_map stuck_aside b → a ≡ None → b ≡ None
not-stuck a None same h = refl
not-stuck None (Some at) same h = absurd (let wrong : ⊥ = cc same in wrong)
not-stuck (Some here) (Some at) same h = absurd (let wrong : ⊥ = cc h in wrong)

-- what holds of each of some follows in each
pub each-then : {A : Type 0} (P Q : A → Type 0) (xs : List A) → ((x : A) → P x → Q x) → AllByRecursion P xs → AllByRecursion Q xs
each-then P Q [] next h = tt
each-then P Q (x ∷ xs) next h = (next x h.0, each-then P Q xs next h.1)

-- ---- Two programs with the same structs

-- the structs of a program, and nothing else
abbrev bare : List StructTree → ProgramTree
bare structs = record { pures = []; structs = structs; procedures = [] }

-- what holds of one of them holds of the other
with-structs : (P : ProgramTree → Type 0) (p q : ProgramTree) → p.structs ≡ q.structs → ((x : ProgramTree) → P x → P (bare x.structs)) →
    ((x : ProgramTree) → P (bare x.structs) → P x) → P p → P q
with-structs P p q same to from h = from q (subst (λ structs. P (bare structs)) same (to p h))

module _ (p q : ProgramTree) (same : p.structs ≡ q.structs) where
  same-path : (rows : List Row) (s : Option ℕ) → path_to p rows s ≡ path_to q rows s
  same-path rows s = ap (λ structs. path_to (bare structs) rows s) same

  same-inside : (rows : List Row) (s : Option ℕ) (e : ℕ) → path_inside p rows s e ≡ path_inside q rows s e
  same-inside rows s e = ap (λ structs. path_inside (bare structs) rows s e) same

  same-field : (s : Option ℕ) (name : List ℕ) → place_in p s name ≡ place_in q s name
  same-field s name = ap (λ structs. place_in (bare structs) s name) same

  -- ---- What fields hold

  ring-alike : (d : Diagram) (n : Option ℕ) (cells : Cells) (memory : List ℤ) (b : ℕ) →
      HoldsRing p d n cells memory b → HoldsRing q d n cells memory b
  ring-alike d n cells memory b =
      with-structs (λ x. HoldsRing x d n cells memory b) p q same
      (λ x h. record { ring = h.ring; items = h.items; place = h.place; taken = h.taken; holds = h.holds })
      (λ x h. record { ring = h.ring; items = h.items; place = h.place; taken = h.taken; holds = h.holds })

  held-alike : (d : Diagram) (v : List ℤ) (m : List (List ℤ)) (g : List TrigMem) (n : Option ℕ) (cells : Cells) →
      HoldsTick p d v m g n cells → HoldsTick q d v m g n cells
  held-alike d v m g n cells h = record {
    values =
        subst (λ structs. AllByRecursion (λ b. number_in (bare structs) n cells (value_name b) ≡ value_at v b) (valued_rows d n))
        same h.values;
    memories =
        subst (λ structs. AllByRecursion (λ b. number_in (bare structs) n cells (memory_name b) ≡ first_of (memory_at m b))
        (single_rows d n)) same h.memories;
    rings = each-then (λ b. HoldsRing p d n cells (memory_at m b) b) (λ b. HoldsRing q d n cells (memory_at m b) b) (line_rows d n)
        (λ b one. ring-alike d n cells (memory_at m b) b one) h.rings;
    trigger =
        subst (λ structs. is_triggered (system_control d.rows n) ≡ true →
        number_in (bare structs) n cells trigger_name ≡ memory_number (system_trigger g n)) same h.trigger;
    counters =
        subst (λ structs. AllByRecursion (λ (f : FieldTree). number_in (bare structs) n cells f.name ≡ pos 0)
        (counter_fields (bare structs) n)) same h.counters;
  }

  pub run-held-alike : (d : Diagram) (s : Option ℕ) (run : Run) (t : ℕ) (cells : Cells) →
      HoldsRun p d s run t cells → HoldsRun q d s run t cells
  run-held-alike d s run t cells h =
      let v = slice_index_or run.values t [] in
      let m = slice_index_or run.memories (suc t) [] in
      let g = slice_index_or run.triggers (suc t) [] in record {
        here = held-alike d v m g s cells h.here;
        inside =
            subst (λ structs. AllByRecursion
            (λ e. HoldsTick q d v m g (Some e) (cells_at (path_inside (bare structs) d.rows s e) cells)) (systems_inside d.rows s)) same
            (each-then (λ e. HoldsTick p d v m g (Some e) (cells_at (path_inside p d.rows s e) cells))
            (λ e. HoldsTick q d v m g (Some e) (cells_at (path_inside p d.rows s e) cells)) (systems_inside d.rows s)
            (λ e one. held-alike d v m g (Some e) (cells_at (path_inside p d.rows s e) cells) one) h.inside);
      }

  -- ---- What starts and resets leave

  forgotten-alike : (d : Diagram) (n : Option ℕ) (after : Cells) → AreForgotten p d n after → AreForgotten q d n after
  forgotten-alike d n after =
      with-structs (λ x. AreForgotten x d n after) p q same
      (λ x h. record { memories = h.memories; places = h.places; taken = h.taken; trigger = h.trigger })
      (λ x h. record { memories = h.memories; places = h.places; taken = h.taken; trigger = h.trigger })

  pub started-alike : (d : Diagram) (n : Option ℕ) (after : Cells) → AreStarted p d n after → AreStarted q d n after
  started-alike d n after h = record {
    forgotten = forgotten-alike d n after h.forgotten;
    values =
        subst (λ structs. AllByRecursion (λ b. number_in (bare structs) n after (value_name b) ≡ start_of d b) (valued_rows d n))
        same h.values;
    counters =
        subst (λ structs. AllByRecursion (λ (f : FieldTree). number_in (bare structs) n after f.name ≡ pos 0)
        (counter_fields (bare structs) n)) same h.counters;
  }

  pub reset-alike : (d : Diagram) (n : Option ℕ) (before after : Cells) → AreReset p d n before after → AreReset q d n before after
  reset-alike d n before after h = record {
    forgotten = forgotten-alike d n after h.forgotten;
    values =
        subst (λ structs.
        AllByRecursion (λ b. number_in (bare structs) n after (value_name b) ≡ number_in (bare structs) n before (value_name b))
        (valued_rows d n)) same h.values;
    counters =
        subst (λ structs.
        AllByRecursion (λ (f : FieldTree). (number_in (bare structs) n after f.name ≡ pos 0)
        ⊎ (number_in (bare structs) n after f.name ≡ number_in (bare structs) n before f.name))
        (counter_fields (bare structs) n)) same h.counters;
  }

  pub holds-alike : (d : Diagram) (s : Option ℕ) (P Q : Option ℕ → Cells → Cells → Type 0) (before after : Cells) →
      ((n : Option ℕ) (old new : Cells) → P n old new → Q n old new) → HoldsInside p d s P before after → HoldsInside q d s Q before after
  holds-alike d s P Q before after next h = record {
    here = next s before after h.here;
    inside =
        subst (λ structs.
        AllByRecursion (λ e. Q (Some e) (cells_at (path_inside (bare structs) d.rows s e) before)
        (cells_at (path_inside (bare structs) d.rows s e) after)) (systems_inside d.rows s)) same
        (each-then (λ e. P (Some e) (cells_at (path_inside p d.rows s e) before) (cells_at (path_inside p d.rows s e) after))
        (λ e. Q (Some e) (cells_at (path_inside p d.rows s e) before) (cells_at (path_inside p d.rows s e) after))
        (systems_inside d.rows s)
        (λ e one. next (Some e) (cells_at (path_inside p d.rows s e) before) (cells_at (path_inside p d.rows s e) after) one) h.inside);
  }

-- ---- Two programs that do the same

-- Two programs have the same structs, procedures at the same positions by name, and do the same at
-- each call, from the start and over each trace, except for the line where one is stuck.
pub record AreAlike (p q : ProgramTree) : Type 0 where
  pub structs : p.structs ≡ q.structs
  pub places : (name : List ℕ) → procedure_place p name ≡ procedure_place q name
  pub outs : (s : Option ℕ) → out_places p s ≡ out_places q s
  pub runs : RunAlike p q

module _ (p q : ProgramTree) (are : AreAlike p q) where
  abbrev structs : p.structs ≡ q.structs
  structs = are.structs

  abbrev alike : RunAlike p q
  alike = are.runs

  same-ticks : (xs : List (List ℤ)) → (c_rows p xs).ticks ≡ (c_rows q xs).ticks
  same-ticks xs = ap (λ (rows : Rows). rows.ticks) (alike.rows xs)

  pub outputs-alike : (d : Diagram) (xs : List (List ℤ)) → GivesOutputs p d xs → GivesOutputs q d xs
  outputs-alike d xs h =
      record {
        one_run = h.one_run;
        outputs = ap (λ (ticks : List TickRow). map (λ row. row.outputs) ticks) (sym (same-ticks xs)) ∙ h.outputs;
      }

  pub bounded-alike : (d : Diagram) (xs : List (List ℤ)) → StaysInBound p d xs → StaysInBound q d xs
  bounded-alike d xs h = record {
    not_stuck =
        not-stuck (c_rows p xs).stuck_place (c_rows q xs).stuck_place
        (ap (λ (rows : Rows). rows.stuck_place) (alike.rows xs)) h.not_stuck;
    steps = subst (AllByRecursion (λ (row : TickRow). row.steps ≤ step_bound d.rows)) (same-ticks xs) h.steps;
  }

  -- a call of the procedure with a name
  named-alike : (name : List ℕ) (path : List ℕ) (values : List ℤ) (cells : Cells) →
      outcome_aside (call_from_outside p (procedure_place p name) path values cells)
      ≡ outcome_aside (call_from_outside q (procedure_place q name) path values cells)
  named-alike name path values cells =
      (λ i. outcome_aside (call_from_outside p (are.places name i) path values cells))
      ∙ alike.calls (procedure_place q name) path values cells

  -- ---- Calls and stores

  whole-alike : (s : Option ℕ) (calls : List ℕ) → IsWholeTick p s calls → IsWholeTick q s calls
  whole-alike s calls h = record {
    outs = h.outs;
    each_once = subst (λ places. IsPermutation places h.outs) (are.outs s) h.each_once;
    then_update = h.then_update ∙ ap (λ k. h.outs ++ k ∷ []) (are.places (update_name s));
  }

  calls-alike : (s : Option ℕ) (is_active : Bool) (calls others : List ℕ) → calls ≡ others →
      HasCallsOf p s is_active calls → HasCallsOf q s is_active others
  calls-alike s true calls others e h = subst (IsWholeTick q s) e (whole-alike s calls h)
  calls-alike s false calls others e h = sym e ∙ h

  once-alike : (rows : List Row) (path others : List ℕ) (s : Option ℕ) (stores : List StoredField) → path ≡ others →
      StoresOnce p rows path s stores → StoresOnce q rows others s stores
  once-alike rows path others s stores e h =
      each-then (λ b. stores_at path (place_in p s (value_name b)) stores ≤ 1)
      (λ b. stores_at others (place_in q s (value_name b)) stores ≤ 1)
      (filter (λ b. has_value (row_at rows b).kind) (rows_of rows s))
      (λ b one. subst (λ n. n ≤ 1) (λ i. stores_at (e i) (same-field p q structs s (value_name b) i) stores) one) h

  inside-alike : (d : Diagram) (path : List ℕ) (s : Option ℕ) (x v : List ℤ) (g : List TrigMem) (log : List LoggedCall)
      (stores : List StoredField) → CallsInside p d path s x v g log stores → CallsInside q d path s x v g log stores
  inside-alike d path s x v g log stores h =
      let same_path = λ (e : ℕ). ap (λ inside. path ++ inside) (same-inside p q structs d.rows s e) in record {
        each = each-then
            (λ e. HasCallsOf p (Some e) (active_in d s x v g (around d.rows s e))
            (calls_at (path ++ path_inside p d.rows s e) log))
            (λ e. HasCallsOf q (Some e) (active_in d s x v g (around d.rows s e))
            (calls_at (path ++ path_inside q d.rows s e) log)) (systems_inside d.rows s)
            (λ e one. calls-alike (Some e) (active_in d s x v g (around d.rows s e))
            (calls_at (path ++ path_inside p d.rows s e) log) (calls_at (path ++ path_inside q d.rows s e) log)
            (ap (λ there. calls_at there log) (same_path e)) one) h.each;
        stored_once = once-alike d.rows path path s stores refl h.stored_once;
        inner_stored_once =
            each-then (λ e. StoresOnce p d.rows (path ++ path_inside p d.rows s e) (Some e) stores)
            (λ e. StoresOnce q d.rows (path ++ path_inside q d.rows s e) (Some e) stores) (systems_inside d.rows s)
            (λ e one. once-alike d.rows (path ++ path_inside p d.rows s e) (path ++ path_inside q d.rows s e) (Some e) stores
            (same_path e) one) h.inner_stored_once;
        no_other =
            subst (λ paths. AllByRecursion (λ (c : LoggedCall). Contains paths c.path) log)
            (λ i. path ∷ map (λ e. same_path e i) (systems_inside d.rows s)) h.no_other;
      }

  tick-alike : (d : Diagram) (x v : List ℤ) (g : List TrigMem) (log : List LoggedCall) (stores : List StoredField) →
      CallsInTick p d x v g log stores → CallsInTick q d x v g log stores
  tick-alike d x v g log stores h = record {
    inside = subst (λ path. CallsInside q d path None x v g log stores) (same-path p q structs d.rows None)
        (inside-alike d (path_to p d.rows None) None x v g log stores h.inside);
    top = subst (λ path. IsWholeTick q None (calls_at path log)) (same-path p q structs d.rows None)
        (whole-alike None (calls_at (path_to p d.rows None) log) h.top);
  }

  -- ---- Traces

  right-alike : (d : Diagram) (run : Run) (t : ℕ) (x : List ℤ) (after : After) →
      IsRightTick p d run t x after → IsRightTick q d run t x after
  right-alike d run t x after h = record {
    outputs = subst (λ ss. (tick_row (bare ss) after).outputs ≡ outs d None (slice_index_or run.values t [])) structs h.outputs;
    in_bound = h.in_bound;
    calls =
        tick-alike d x (slice_index_or run.values t []) (slice_index_or run.triggers t []) after.log after.stores h.calls;
    holds = subst (λ path. HoldsRun q d None run t (cells_at path after.cells)) (same-path p q structs d.rows None)
        (run-held-alike p q structs d None run t (cells_at (path_to p d.rows None) after.cells) h.holds);
  }

  ticks-alike : (d : Diagram) (run : Run) (t : ℕ) (rest : List (List ℤ)) (cells : Cells) →
      TicksFrom p d run t rest cells → TicksFrom q d run t rest cells
  ticks-alike d run t [] cells h = tt
  ticks-alike d run t (x ∷ rest) cells h =
      done-alike (step_run p x cells) (step_run q x cells)
      (λ (after : After). IsRightTick q d run t x after × TicksFrom q d run (suc t) rest after.cells)
      (named-alike root_step_name [] x cells)
      (done-then (step_run p x cells) _ _
      (λ after both. (right-alike d run t x after both.0, ticks-alike d run (suc t) rest after.cells both.1)) h)

  traces-alike : (d : Diagram) (cells : Cells) → TakesTraces p d cells → TakesTraces q d cells
  traces-alike d cells h xs run trace is_run = ticks-alike d run 0 xs cells (h xs run trace is_run)

  pub rows-alike : (d : Diagram) → OnDone (start_run p) (λ started. TakesTraces p d started.cells) →
      OnDone (start_run q) (λ started. TakesTraces q d started.cells)
  rows-alike d h =
      done-alike (start_run p) (start_run q) (λ started. TakesTraces q d started.cells) alike.start
      (done-then (start_run p) (λ started. TakesTraces p d started.cells) (λ started. TakesTraces q d started.cells)
      (λ started takes. traces-alike d started.cells takes) h)

  -- ---- Scripts

  module _ (d : Diagram) (hyper : ℕ) (path : List ℕ) (s : Option ℕ) (functions : List Function) (xs : List (List ℤ)) (run : Run) where
    outputs-held-alike : (t : ℕ) (cells : Cells) (js : List ℕ) →
        AllByRecursion (HoldsOutputs p d hyper path s functions xs run t cells) js →
        AllByRecursion (HoldsOutputs q d hyper path s functions xs run t cells) js
    outputs-held-alike t cells js h =
        subst (λ ss. AllByRecursion (HoldsOutputs (bare ss) d hyper path s functions xs run t cells) js) structs h

    driven-alike : (script : List Call) (t : ℕ) (cells : Cells) (called : List ℕ) (log : List LoggedCall) (stores : List StoredField) →
        DrivenFrom p d hyper path s functions xs run t cells called log stores script →
        DrivenFrom q d hyper path s functions xs run t cells called log stores script
    driven-alike [] t cells called log stores h = tt
    driven-alike (out_with j values ∷ script) t cells called log stores h =
        done-alike (call_in_tick p hyper path t (out_name s j) values cells) (call_in_tick q hyper path t (out_name s j) values cells)
        (λ (after : After). AllByRecursion (HoldsOutputs q d hyper path s functions xs run t after.cells) (j ∷ called)
        × DrivenFrom q d hyper path s functions xs run t after.cells (j ∷ called) (log ++ after.log) (stores ++ after.stores) script)
        (named-alike (out_name s j) path (pos (t % hyper) ∷ values) cells)
        (done-then (call_in_tick p hyper path t (out_name s j) values cells) _ _
        (λ after both. (
          outputs-held-alike t after.cells (j ∷ called) both.0,
          driven-alike script t after.cells (j ∷ called) (log ++ after.log) (stores ++ after.stores) both.1,
        )) h)
    driven-alike (update_with values ∷ script) t cells called log stores h =
        done-alike (call_in_tick p hyper path t (update_name s) values cells) (call_in_tick q hyper path t (update_name s) values cells)
        (λ (after : After). CallsInside q d path s (slice_index_or xs t []) (slice_index_or run.values t [])
        (slice_index_or run.triggers t []) (log ++ after.log) (stores ++ after.stores)
        × HoldsRun q d s run t (cells_at path after.cells)
        × DrivenFrom q d hyper path s functions xs run (suc t) after.cells [] [] [] script)
        (named-alike (update_name s) path (pos (t % hyper) ∷ values) cells)
        (done-then (call_in_tick p hyper path t (update_name s) values cells) _ _
        (λ after all. (
          inside-alike d path s (slice_index_or xs t []) (slice_index_or run.values t []) (slice_index_or run.triggers t [])
              (log ++ after.log) (stores ++ after.stores) all.0,
          run-held-alike p q structs d s run t (cells_at path after.cells) all.1,
          driven-alike script (suc t) after.cells [] [] [] all.2,
        )) h)

  scripts-alike : (d : Diagram) (hyper : ℕ) (path : List ℕ) (s : Option ℕ) (cells : Cells) →
      AnswersScripts p d hyper path s cells → AnswersScripts q d hyper path s cells
  scripts-alike d hyper path s cells h needs script xs run true_needs lawful trace fits is_run =
      driven-alike d hyper path s (functions_for needs) xs run script 0 cells [] [] []
      (h needs script xs run true_needs lawful trace fits is_run)

  -- on the system's own instance
  own-scripts-alike : (d : Diagram) (hyper : ℕ) (s : Option ℕ) (cells : Cells) →
      AnswersScripts p d hyper (path_to p d.rows s) s cells → AnswersScripts q d hyper (path_to q d.rows s) s cells
  own-scripts-alike d hyper s cells h =
      subst (λ path. AnswersScripts q d hyper path s cells) (same-path p q structs d.rows s)
      (scripts-alike d hyper (path_to p d.rows s) s cells h)

  pub answers-alike : (d : Diagram) (hyper : ℕ) (s : Option ℕ) → AnswersAnyOrder p d hyper s → AnswersAnyOrder q d hyper s
  answers-alike d hyper s h =
      done-alike (start_run p) (start_run q) (λ started. AnswersScripts q d hyper (path_to q d.rows s) s started.cells) alike.start
      (done-then (start_run p) (λ started. AnswersScripts p d hyper (path_to p d.rows s) s started.cells)
      (λ started. AnswersScripts q d hyper (path_to q d.rows s) s started.cells)
      (λ started one. own-scripts-alike d hyper s started.cells one) h)

  -- ---- Starts and resets

  leaves-alike : (structure : ℕ) (name : List ℕ) (P Q : Cells → Cells → Type 0) →
      ((before after : Cells) → P before after → Q before after) → FromAnyFields p structure (procedure_place p name) P →
      FromAnyFields q structure (procedure_place q name) Q
  leaves-alike structure name P Q next h before has =
      done-alike (call_from_outside p (procedure_place p name) [] [] before) (call_from_outside q (procedure_place q name) [] [] before)
      (λ a. (a.steps ≤ field_count (forms_at q structure)) × Q before a.cells) (named-alike name [] [] before)
      (done-then (call_from_outside p (procedure_place p name) [] [] before)
      (λ a. (a.steps ≤ field_count (forms_at p structure)) × P before a.cells)
      (λ a. (a.steps ≤ field_count (forms_at q structure)) × Q before a.cells)
      (λ a both. (
        subst (λ ss. a.steps ≤ field_count (forms_at (bare ss) structure)) structs both.0,
        next before a.cells both.1,
      )) (h before (subst (λ ss. HasForms (forms_at (bare ss) structure) before) (sym structs) has)))

  moved-alike : (k l : ℕ) (name : List ℕ) (P Q : Cells → Cells → Type 0) → k ≡ l →
      ((before after : Cells) → P before after → Q before after) →
      FromAnyFields p k (procedure_place p name) P → FromAnyFields q l (procedure_place q name) Q
  moved-alike k l name P Q at next h =
      subst (λ i. FromAnyFields q i (procedure_place q name) Q) at (leaves-alike k name P Q next h)

  all-started-alike : (d : Diagram) (s : Option ℕ) (before after : Cells) →
      HoldsInside p d s (λ n old new. AreStarted p d n new) before after →
      HoldsInside q d s (λ n old new. AreStarted q d n new) before after
  all-started-alike d s before after h =
      holds-alike p q structs d s (λ n old new. AreStarted p d n new) (λ n old new. AreStarted q d n new) before after
      (λ n old new one. started-alike p q structs d n new one) h

  pub renewed-alike : (d : Diagram) (hyper : ℕ) (s : Option ℕ) → RenewsAll p d hyper s → RenewsAll q d hyper s
  renewed-alike d hyper s h = record {
    starts = moved-alike (struct_place p s) (struct_place q s) (start_name s)
        (λ before after. HoldsInside p d s (λ n old new. AreStarted p d n new) before after × AnswersScripts p d hyper [] s after)
        (λ before after. HoldsInside q d s (λ n old new. AreStarted q d n new) before after × AnswersScripts q d hyper [] s after)
        (ap (λ ss. struct_place (bare ss) s) structs)
        (λ before after both. (all-started-alike d s before after both.0, scripts-alike d hyper [] s after both.1)) h.starts;
    resets = moved-alike (struct_place p s) (struct_place q s) (reset_name s)
        (HoldsInside p d s (AreReset p d)) (HoldsInside q d s (AreReset q d)) (ap (λ ss. struct_place (bare ss) s) structs)
        (λ before after one. holds-alike p q structs d s (AreReset p d) (AreReset q d) before after
        (λ n old new begun. reset-alike p q structs d n old new begun) one) h.resets;
  }

  root-alike : (d : Diagram) (hyper : ℕ) (before after : Cells) →
      AreRestarted p d hyper before after → AreRestarted q d hyper before after
  root-alike d hyper before after h = record {
    tick = subst (λ ss. number_at after (field_position (root_fields (bare ss)) now_name) ≡ pos 0) structs h.tick;
    top = subst
        (λ ss. HoldsInside q d None (λ n old new. AreStarted q d n new)
        (fields_at before (field_position (root_fields (bare ss)) (system_name None)))
        (fields_at after (field_position (root_fields (bare ss)) (system_name None)))) structs
        (all-started-alike d None _ _ h.top);
    outputs =
        subst (λ ss. map (number_at after) (output_fields (root_fields (bare ss)))
        ≡ map (start_of d) (outports_of d.rows None)) structs h.outputs;
    traces = traces-alike d after h.traces;
    scripts =
        each-then (λ s. AnswersScripts p d hyper (path_to p d.rows s) s after)
        (λ s. AnswersScripts q d hyper (path_to q d.rows s) s after) (systems d.rows)
        (λ s one. own-scripts-alike d hyper s after one) h.scripts;
  }

  pub restarted-alike : (d : Diagram) (hyper : ℕ) → Restarts p d hyper → Restarts q d hyper
  restarted-alike d hyper h =
      moved-alike (root_struct p) (root_struct q) root_start_name (AreRestarted p d hyper) (AreRestarted q d hyper)
      (ap (λ ss. root_struct (bare ss)) structs) (λ before after one. root-alike d hyper before after one) h
