-- A call that isn't refused goes on each script that the driver stood for.
use Rattle.std.specs.Prelude.{◌≡◌, ℕ, suc, ◌+◌, ◌-◌, ◌%◌, ◌≤◌, true, false, List, [], ◌∷◌, ◌++◌, zip, length, slice_set, None, ℤ, refl}
use Rattle.std.specs.List.{range_with_len}
use Rattle.std.proofs.Common.{sym, ap, subst, ◌∙◌, arith}
use Rattle.std.proofs.Math.Nat.{mod-add-mod, zero-mod}
use Rattle.std.proofs.lemmas.List.FromFn.{length-range_with_len}
use Rattle.base_core.specs.declared.Port.{Port}
use Rattle.diagram_meaning.specs.Inputs.{input_ports}
use Rattle.modules_profile.specs.declared.Function.{Function}
use Rattle.base_core.specs.Ports.{ports_in}
use Rattle.modules_profile.specs.Headers.{numbered_function}
use Rattle.c_syntax.specs.declared.fault.Cost.{Cost}
use Rattle.c_syntax.specs.declared.fault.Stuck.{Stuck}
use Rattle.c_syntax.specs.Plain.{program_tree}
use Rattle.c_checked.specs.Checked.{CheckedProgram}
use Rattle.c_semantics.specs.Cells.{Cells}
use Rattle.c_semantics.specs.Machine.{After, Outcome, done, stuck, cost_of}
use Rattle.c_semantics.specs.Rows.{start_run}
use Rattle.c_interpreter.specs.Instances.{instance_at}
use Rattle.c_interpreter.specs.States.{MachineState, tree_of, fields_of}
use Rattle.right_relation.specs.Instances.{OnDone}
use Rattle.right_claim.specs.Scripts.{Call, out_with, update_with, TickSoFar, nothing_yet, CanFollow, IsLawfulScript, given_of}
use Rattle.right_claim.specs.DriveLaws.{ScriptsGrow, LawfulScriptsRun}
use Rattle.tool_driver.specs.declared.inputs.Input.{Input}
use Rattle.tool_driver.specs.Shapes.{Shape, inputs_of, function_inputs}
use Rattle.emit_shape.specs.Names.{function_name, named_update}
use Rattle.tool_driver.specs.Drivable.{IsDrivable}
use Rattle.tool_driver.specs.States.{DriverState, program_of, plan_of, plan_of_update}
use Rattle.tool_driver.specs.Judging.{call_fault, update_fault, values_fault, twice_fault, early_fault}
use Rattle.tool_driver.specs.Calling.{IsCallFor, IsUpdateFor, at_start, given_with, IsCallOf, IsUpdate, IsStuckIn}
use Rattle.tool_driver.specs.Driven.{Driven, functions_of, shape_of, updates, LeavesFields, StandsFor, HasDone, HasRun, Tells, functions_called, values_given, call_at, TakesBehind}
use Rattle.tool_driver.specs.Laws.{NewDriversStand, CallsGoOn, UpdatesGoOn}
use Rattle.tool_driver.proofs.Lists.{replicated}
use Rattle.tool_driver.proofs.Fields.{on-done, HasOutputs, leaves-more}
use Rattle.tool_driver.proofs.Ports.{all_inputs}
use Rattle.tool_driver.proofs.Ticks.{no-first, no-second, HasOneEach, called-more, not-called, all-called}
use Rattle.tool_driver.proofs.Standing.{behind-more, tick, called-is, all-are, taken-are, in-types, alike, kept, one-each, is-place, call-is, answered, outputs-are, driven-over}

-- ---- Ticks

-- what a driver of the system's shape has done
has-done : (w : Driven) (d : DriverState) (t : TickSoFar) → d.shape ≡ shape_of w →
    d.called ≡ functions_called (length (functions_of w)) t.called →
    d.given ≡ values_given (all_inputs w) t.given → HasOneEach t.given → HasDone d t
has-done w d t shape called given one = record {
  called = called ∙ ap (λ (s : Shape). functions_called (length s.functions) t.called) (sym shape);
  given = given ∙ ap (λ (s : Shape). values_given (inputs_of s) t.given) (sym shape);
  one_each = one;
}

-- a driver at the start of a tick has done nothing
nothing-done : (w : Driven) (machine : MachineState) (instance : ℕ) (shape : Shape) (now : ℕ) → shape ≡ shape_of w →
    HasDone (at_start machine instance shape now) nothing_yet
nothing-done w machine instance shape now e = record {
  called =
      replicated false (range_with_len 1 (length shape.functions)) (length shape.functions)
      (sym (length-range_with_len 1 (length shape.functions)));
  given = replicated None (inputs_of shape) (length (inputs_of shape)) refl;
  one_each = tt;
}

pub new_drivers_stand : NewDriversStand
new_drivers_stand w machine instance shape ready = record {
  program = ready.program;
  shape = ready.shape_is;
  instance = ready.instance_is;
  lawful = tt;
  fields =
      subst (λ (o : Outcome). OnDone o (λ started. fields_of machine ≡ started.cells))
      (sym (ap start_run (sym ready.program) ∙ ready.started.run)) ready.started.cells;
  now = sym (zero-mod w.hyper);
  tick = nothing-done w machine instance shape 0 ready.shape_is;
}

updates-out : (script : List Call) (j : ℕ) (values : List ℤ) → updates (script ++ out_with j values ∷ []) ≡ updates script
updates-out [] j values = refl
updates-out (out_with i others ∷ cs) j values = updates-out cs j values
updates-out (update_with others ∷ cs) j values = ap suc (updates-out cs j values)

updates-update : (script : List Call) (values : List ℤ) → updates (script ++ update_with values ∷ []) ≡ updates script + 1
updates-update [] values = refl
updates-update (out_with i others ∷ cs) values = updates-update cs values
updates-update (update_with others ∷ cs) values = let h = updates-update cs values in omega (arith, h)

same-program : (m before : MachineState) (w : Driven) → m.program ≡ before.program → tree_of before ≡ w.program → tree_of m ≡ w.program
same-program m before w same program = ap (λ (c : CheckedProgram). program_tree c.program) same ∙ program

not-both : (o : Outcome) (P : After → Type 0) (at : Stuck) (cells : Cells) → o ≡ stuck at cells → OnDone o P → ⊥
not-both o P at cells e h = subst (λ o. OnDone o P) e h

left-has : (o : Outcome) (P : After → Type 0) (left : After) → o ≡ done left → OnDone o P → P left
left-has o P left e h = subst (λ o. OnDone o P) e h

module _ (grow : ScriptsGrow) (runs : LawfulScriptsRun) (w : Driven) (before : DriverState) (script : List Call)
    (stands : StandsFor w before script) where
  abbrev count : ℕ
  count = length (functions_of w)

  lawful-more : (c : Call) → CanFollow w.diagram w.system (functions_of w) (tick w before script stands) c →
      IsLawfulScript w.diagram w.system (functions_of w) (script ++ c ∷ [])
  lawful-more c follows = (grow w.diagram w.system (functions_of w) script c).1 (stands.lawful, follows)

  has-run : (c : Call) → IsLawfulScript w.diagram w.system (functions_of w) (script ++ c ∷ []) → HasRun w (script ++ c ∷ [])
  has-run c lawful =
      let found = runs w.diagram w.system (functions_of w) (script ++ c ∷ []) w.no_loop lawful in
      record { trace = found.0; one = found.3; over = record { is_trace = found.1; fits = found.2; is_run = found.3.is_run } }

  -- in right code no call that may follow is stuck
  never-stuck : (c : Call) (at : Stuck) (cells : Cells) → CanFollow w.diagram w.system (functions_of w) (tick w before script stands) c →
      call_at w (updates script) c (fields_of before.machine) ≡ stuck at cells → ⊥
  never-stuck c at cells follows is =
      let lawful = lawful-more c follows in
      let run = has-run c lawful in
      not-both (call_at w (updates script) c (fields_of before.machine))
      (λ a. HasOutputs w run.trace run.one.run (updates script) c a.cells) at cells is
      (answered w before script stands c run.trace run.one.run lawful run.over)

  -- the fields after one more call
  fields-more : (c : Call) (left : After) (m : MachineState) →
      call_at w (updates script) c (fields_of before.machine) ≡ done left → fields_of m ≡ left.cells →
      OnDone (start_run w.program) (λ started. LeavesFields w 0 started.cells (script ++ c ∷ []) (fields_of m))
  fields-more c left m does cells =
      on-done (start_run w.program) (λ started. LeavesFields w 0 started.cells script (fields_of before.machine))
      (λ started. LeavesFields w 0 started.cells (script ++ c ∷ []) (fields_of m))
      (λ started leaves. subst (λ end. LeavesFields w 0 started.cells (script ++ c ∷ []) end) (sym cells)
      (leaves-more w script 0 (updates script) started.cells (fields_of before.machine) c left (omega arith) leaves does)) stands.fields

  -- what one more call took
  takes-more : (c : Call) (left : After) (cost : Cost) → call_at w (updates script) c (fields_of before.machine) ≡ done left →
      cost ≡ cost_of left → TakesBehind w script c cost
  takes-more c left cost does is = record {
    cells = fields_of before.machine;
    leaves = stands.fields;
    takes = subst (λ (o : Outcome). OnDone o (λ l. cost ≡ cost_of l)) (sym does) is;
  }

  -- ---- A function

  module _ (j : ℕ) (values out : List ℤ) (call : IsCallFor before j values out) (none : call_fault before j values ≡ None) where
    abbrev f : Function
    f = numbered_function (functions_of w) j

    abbrev ins : List Input
    ins = function_inputs (shape_of w) j

    abbrev ports : List Port
    ports = ports_in f.inputs (input_ports w.diagram.rows w.system)

    same_count : length before.shape.functions ≡ count
    same_count = ap (λ (s : Shape). length s.functions) stands.shape

    each : length values ≡ length ins
    each = call.values_each ∙ ap (λ s. length (function_inputs s j)) stands.shape

    values_none : values_fault before.given ins values ≡ None
    values_none = ap (λ s. values_fault before.given (function_inputs s j) values) (sym stands.shape)
        ∙ no-second (twice_fault before.called j) (values_fault before.given (function_inputs before.shape j) values)
        none

    follows : CanFollow w.diagram w.system (functions_of w) (tick w before script stands) (out_with j values)
    follows = record {
      in_turn = (
        call.least,
        (let most : j ≤ count = omega (arith, call.most, same_count) in most),
        not-called (tick w before script stands).called count j call.least (omega (arith, call.most, same_count))
            (ap (λ c. twice_fault c j) (sym (called-is w before script stands))
            ∙ no-first (twice_fault before.called j)
            (values_fault before.given (function_inputs before.shape j) values) none),
      );
      in_types = in-types w before script stands ins ports (taken-are w before script stands f) values each values_none;
      alike = alike w before script stands ins ports (taken-are w before script stands f) values each values_none;
    }

    out-not-stuck : (at : Stuck) (after : DriverState) → IsStuckIn (plan_of before j) values at before after → ⊥
    out-not-stuck at after is =
        never-stuck (out_with j values) at (fields_of after.machine) follows
        (sym (call-is w before script stands (λ s. function_name s.name j) is.stuck.instance_is values
        (fields_of before.machine) (is-place w before script stands is.stuck.instance_is is.stuck.there))
        ∙ is.stuck.run)

    module _ (cost : Cost) (after : DriverState) (made : IsCallOf j values out cost before after) where
      out-does : call_at w (updates script) (out_with j values) (fields_of before.machine) ≡ done made.makes.call.left
      out-does =
          sym (call-is w before script stands (λ s. function_name s.name j) made.makes.call.instance_is values
          (fields_of before.machine)
          (is-place w before script stands made.makes.call.instance_is made.makes.call.there)) ∙ made.makes.call.run

      shape-after : after.shape ≡ shape_of w
      shape-after = ap (λ (d : DriverState). d.shape) made.tick ∙ stands.shape

      out-program : tree_of after.machine ≡ w.program
      out-program = same-program after.machine before.machine w made.makes.program stands.program

      instance-after : after.instance ≡ before.instance
      instance-after = ap (λ (d : DriverState). d.instance) made.tick

      called-after : after.called ≡ functions_called count (j ∷ (tick w before script stands).called)
      called-after =
          ap (λ (d : DriverState). d.called) made.tick ∙ ap (λ c. slice_set c (j - 1) true) (called-is w before script stands)
          ∙ called-more (tick w before script stands).called count j call.least (omega (arith, call.most, same_count))

      given-after : after.given ≡ values_given (all_inputs w) (given_of ports values ++ (tick w before script stands).given)
      given-after =
          ap (λ (d : DriverState). d.given) made.tick ∙ ap (λ s. given_with before.given (zip (function_inputs s j) values)) stands.shape
          ∙ kept w before script stands ins ports (taken-are w before script stands f) values each values_none

      out-stands : StandsFor w after (script ++ out_with j values ∷ [])
      out-stands = record {
        program = out-program;
        shape = shape-after;
        instance = ap (λ n. instance_at w.program n) instance-after ∙ stands.instance;
        lawful = lawful-more (out_with j values) follows;
        fields = fields-more (out_with j values) made.makes.call.left after.machine out-does made.makes.call.cells;
        now = ap (λ (d : DriverState). d.now) made.tick ∙ stands.now ∙ ap (λ n. n % w.hyper) (sym (updates-out script j values));
        tick = subst (λ t. HasDone after t) (sym (behind-more w nothing_yet script (out_with j values)))
            (has-done w after
            (record {
              called = j ∷ (tick w before script stands).called;
              given = given_of ports values
                  ++ (tick w before script stands).given;
            }) shape-after called-after given-after
            (one-each w before script stands ins ports (taken-are w before script stands f) values each values_none));
      }

      out-tells : IsDrivable (program_of before) before.instance before.shape → Tells w script (out_with j values) out
      out-tells d xs run over =
          made.outputs
          ∙ outputs-are w before script stands d after.machine after.instance made.makes.call.left.cells xs run j values
          out-program instance-after made.makes.call.cells
          (left-has (call_at w (updates script) (out_with j values) (fields_of before.machine))
          (λ a. HasOutputs w xs run (updates script) (out_with j values) a.cells) made.makes.call.left out-does
          (answered w before script stands (out_with j values) xs run (lawful-more (out_with j values) follows) over))

  -- ---- The update

  module _ (values : List ℤ) (call : IsUpdateFor before values) (none : update_fault before values ≡ None) where
    each-input : length values ≡ length (all_inputs w)
    each-input = call ∙ ap (λ s. length (inputs_of s)) stands.shape

    update_none : values_fault before.given (all_inputs w) values ≡ None
    update_none = ap (λ s. values_fault before.given (inputs_of s) values) (sym stands.shape)
        ∙ no-second (early_fault before.called) (values_fault before.given (inputs_of before.shape) values) none

    update-follows : CanFollow w.diagram w.system (functions_of w) (tick w before script stands) (update_with values)
    update-follows = record {
      in_turn = all-called (tick w before script stands).called count
          (ap early_fault (sym (called-is w before script stands))
          ∙ no-first (early_fault before.called) (values_fault before.given (inputs_of before.shape) values) none);
      in_types =
          in-types w before script stands (all_inputs w) (input_ports w.diagram.rows w.system)
          (all-are w before script stands) values each-input update_none;
      alike = alike w before script stands (all_inputs w) (input_ports w.diagram.rows w.system)
          (all-are w before script stands) values each-input update_none;
    }

    update-not-stuck : (at : Stuck) (after : DriverState) → IsStuckIn (plan_of_update before) values at before after → ⊥
    update-not-stuck at after is =
        never-stuck (update_with values) at (fields_of after.machine) update-follows
        (sym (call-is w before script stands (λ s. named_update s.name) is.stuck.instance_is values
        (fields_of before.machine) (is-place w before script stands is.stuck.instance_is is.stuck.there))
        ∙ is.stuck.run)

    module _ (cost : Cost) (after : DriverState) (made : IsUpdate values cost before after) where
      update-does : call_at w (updates script) (update_with values) (fields_of before.machine) ≡ done made.makes.call.left
      update-does =
          sym (call-is w before script stands (λ s. named_update s.name) made.makes.call.instance_is values
          (fields_of before.machine)
          (is-place w before script stands made.makes.call.instance_is made.makes.call.there)) ∙ made.makes.call.run

      update-shape : after.shape ≡ shape_of w
      update-shape = ap (λ (d : DriverState). d.shape) made.tick ∙ stands.shape

      next-now : after.now ≡ updates (script ++ update_with values ∷ []) % w.hyper
      next-now =
          ap (λ (d : DriverState). d.now) made.tick ∙ ap (λ (s : Shape). (before.now + 1) % s.hyper) stands.shape
          ∙ ap (λ n. (n + 1) % w.hyper) stands.now
          ∙ mod-add-mod (updates script) w.hyper 1 ∙ ap (λ n. n % w.hyper) (sym (updates-update script values))

      update-stands : StandsFor w after (script ++ update_with values ∷ [])
      update-stands = record {
        program = same-program after.machine before.machine w made.makes.program stands.program;
        shape = update-shape;
        instance = ap (λ n. instance_at w.program n) (ap (λ (d : DriverState). d.instance) made.tick) ∙ stands.instance;
        lawful = lawful-more (update_with values) update-follows;
        fields = fields-more (update_with values) made.makes.call.left after.machine update-does made.makes.call.cells;
        now = next-now;
        tick = subst (λ t. HasDone after t) (sym (behind-more w nothing_yet script (update_with values)))
            (subst (λ d. HasDone d nothing_yet) (sym made.tick)
            (nothing-done w after.machine before.instance before.shape
            ((before.now + 1) % before.shape.hyper) stands.shape));
      }

pub calls_go_on : ScriptsGrow → LawfulScriptsRun → CallsGoOn
calls_go_on grow runs = record {
  made = λ w script j values out cost before after stands d call none made.
      record {
        stands = out-stands grow runs w before script stands j values out call none cost after made;
        tells = out-tells grow runs w before script stands j values out call none cost after made d;
        takes = takes-more grow runs w before script stands (out_with j values) made.makes.call.left cost
            (out-does grow runs w before script stands j values out call none cost after made) made.makes.call.cost_is;
        driven = λ xs run over. driven-over w before script stands (script ++ out_with j values ∷ []) xs run
            (lawful-more grow runs w before script stands (out_with j values)
            (follows grow runs w before script stands j values out call none)) over;
        runs = has-run grow runs w before script stands (out_with j values)
            (lawful-more grow runs w before script stands (out_with j values)
            (follows grow runs w before script stands j values out call none));
      };
  not_stuck =
      λ w script j values out at before after stands d call none is.
      out-not-stuck grow runs w before script stands j values out call none at after is;
}

pub updates_go_on : ScriptsGrow → LawfulScriptsRun → UpdatesGoOn
updates_go_on grow runs = record {
  made = λ w script values cost before after stands d call none made.
      record {
        stands = update-stands grow runs w before script stands values call none cost after made;
        tells = tt;
        takes = takes-more grow runs w before script stands (update_with values) made.makes.call.left cost
            (update-does grow runs w before script stands values call none cost after made) made.makes.call.cost_is;
        driven = λ xs run over. driven-over w before script stands (script ++ update_with values ∷ []) xs run
            (lawful-more grow runs w before script stands (update_with values)
            (update-follows grow runs w before script stands values call none)) over;
        runs = has-run grow runs w before script stands (update_with values)
            (lawful-more grow runs w before script stands (update_with values)
            (update-follows grow runs w before script stands values call none));
      };
  not_stuck =
      λ w script values at before after stands d call none is.
      update-not-stuck grow runs w before script stands values call none at after is;
}
