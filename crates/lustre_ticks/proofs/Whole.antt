-- So the instance has what the run has, and is whole.
use Rattle.std.proofs.Common.{◌≡◌, refl, sym, ◌∙◌, ℕ, ◌%◌, true, List, [], ◌∷◌, ◌++◌, map, flat_map, Option, None, Some, ℤ, pos}
use Rattle.std.specs.List.{AllByRecursion}
use Rattle.base_core.specs.declared.Control.{Control}
use Rattle.base_core.specs.declared.Control.TheVariants.{Plain, Enabled, Triggered, Both}
use Rattle.base_core.specs.declared.Port.{Port}
use Rattle.diagram_blocks.specs.Kinds.{is_subsystem, is_delay}
use Rattle.diagram_blocks.specs.Meaning.{has_value}
use Rattle.diagram_meaning.specs.Rows.{row_at, rows_of, system_control}
use Rattle.diagram_meaning.specs.Inputs.{input_ports}
use Rattle.diagram_meaning.specs.Diagram.{op_at}
use Rattle.diagram_meaning.specs.SystemRuns.{IsRowOf}
use Rattle.diagram_typed_runs.specs.TypedRuns.{IsSystem}
use Rattle.modules_profile.specs.Systems.{entering_wire}
use Rattle.c_syntax.specs.declared.Leaf.{Leaf}
use Rattle.emit_shape.specs.Names.{value_name, now_name, trigger_name, control_name, second_control_name}
use Rattle.lustre_syntax.specs.Tree.{set, name}
use Rattle.lustre_syntax.specs.Named.{NamedExpr}
use Rattle.lustre_flows.specs.Values.{value_at}
use Rattle.lustre_system.specs.Names.{around_active, around_off, active_name, reset_name, takes_name, sample_name, leaf_name, leaves_of, part_name}
use Rattle.lustre_system.specs.RowEquations.{only_if, delayed_name, memory_equations, value_equations, child_equations, row_equations, row_code, wire_read}
use Rattle.lustre_system.specs.SystemNodes.{active_value, reset_value, trigger_memory, has_trigger, system_equations}
use Rattle.lustre_rows.specs.NamesOfTick.{NamesHave, ControlsHave, leaf_value, tick_reads, c_functions}
use Rattle.lustre_rows.specs.ChildLaws.{node_inputs}
use Rattle.lustre_rows.proofs.lemmas.Lists.{all-after, all-map, all-only, all-joined, own-rows}
use Rattle.lustre_right.specs.Systems.{HasValues}
use Rattle.lustre_right.specs.SystemLaws.{SystemsAreWhole}
use Rattle.lustre_right.specs.TickLaws.{IsExpected, HasRun}
use Rattle.lustre_ticks.proofs.Setting.{Setting, d, rows, hyper, tick_of, solved, place, names}
use Rattle.lustre_ticks.proofs.Agreement.{all-some, expected_outcome, outcome, Argued, Done}
use Rattle.lustre_ticks.proofs.Held.{child-calls}
use Rattle.lustre_ticks.proofs.Count.{counts}
use Rattle.lustre_ticks.proofs.Inputs.{read-is}
use Rattle.lustre_ticks.proofs.Given.{memories-done, row-values-done}
use Rattle.lustre_ticks.proofs.Everything.{carried}
use Rattle.lustre_ticks.proofs.CallsCarried.{calls-carried}

module _ (g : Setting) (s : Option ℕ) (system : IsSystem (rows g) s) where
  -- ---- What the names have

  controls-carried : (c : Control) → ControlsHave (d g) (hyper g) s (tick_of g s) (g.expected s) (place g s) c →
      ControlsHave (d g) (hyper g) s (tick_of g s) (solved g s) (place g s) c
  controls-carried Plain has = tt
  controls-carried (Enabled reset) has = carried g s system control_name _ has
  controls-carried (Triggered edge) has = (carried g s system control_name _ has.0, carried g s system trigger_name _ has.1)
  controls-carried (Both reset edge) has = (
    carried g s system control_name _ has.0,
    carried g s system second_control_name _ has.1,
    carried g s system trigger_name _ has.2,
  )

  names-have : NamesHave (d g) (hyper g) s (tick_of g s) (solved g s) (place g s)
  names-have =
      let here = names g s system in
      record {
        now = carried g s system now_name _ here.now;
        on = carried g s system around_active _ here.on;
        off = carried g s system around_off _ here.off;
        controls = controls-carried (system_control (rows g) s) here.controls;
        active = carried g s system active_name _ here.active;
        reset = carried g s system reset_name _ here.reset;
        rows = λ b row valued. carried g s system (value_name b) _ (here.rows b row valued);
        wires = λ c wire. carried g s system (value_name c) _ (here.wires c wire);
        takes = λ b row delay. carried g s system (takes_name b) _ (here.takes b row delay);
        samples = λ b k row delay below. carried g s system (sample_name b k) _ (here.samples b k row delay below);
        delayed = λ b row delay. carried g s system (delayed_name (d g) s b) _ (here.delayed b row delay);
        leaves = λ b row.
            all-map (λ (l : Leaf). value_at (g.expected s) (place g s (leaf_name (rows g) s l)) ≡ Some (leaf_value (tick_of g s) l))
            (λ (l : Leaf). value_at (solved g s) (place g s (leaf_name (rows g) s l)) ≡ Some (leaf_value (tick_of g s) l))
            (λ l has. carried g s system (leaf_name (rows g) s l) _ has) (leaves_of (rows g) s b) (here.leaves b row);
        parts = λ b row valued.
            calls-carried c_functions (tick_reads (tick_of g s)) 0 (g.expected s) (solved g s) (part_name b) (place g s)
            (carried g s system) 0
            (row_code (d g) s b) (here.parts b row valued);
      }

  pub values-there : HasValues (d g) (hyper g) g.before g.left s
  values-there text member =
      let (v, is) = (g.right s system).whole text member in
      (v, carried g s system text v is)

  pub as-expected : IsExpected (d g) (hyper g) s (tick_of g s) (solved g s)
  as-expected = record { names = names-have; whole = values-there }

  -- ---- Arguments

  named-argued : (text : List ℕ) → (v : ℤ) × (expected_outcome g s (name text) ≡ Some v) → (v : ℤ) × (outcome g s (name text) ≡ Some v)
  named-argued text (v, is) =
      let there = carried g s system text v (sym (read-is (value_at (g.expected s) (place g s text))) ∙ is) in
      (v, read-is (value_at (solved g s) (place g s text)) ∙ there)

  wire-argued : (c : Option ℕ) → (v : ℤ) × (expected_outcome g s (wire_read (d g) s c) ≡ Some v) →
      (v : ℤ) × (outcome g s (wire_read (d g) s c) ≡ Some v)
  wire-argued None has = (pos 0, refl)
  wire-argued (Some c) has = named-argued (value_name c) has

  module _ (b : ℕ) (row : IsRowOf (rows g) s b) where
    abbrev wire_read_by : Port → NamedExpr
    wire_read_by p = wire_read (d g) s (entering_wire (rows g) b p)

    wires-argued : (ps : List Port) → AllByRecursion (λ e. (v : ℤ) × (expected_outcome g s e ≡ Some v)) (map wire_read_by ps) →
        AllByRecursion (λ e. (v : ℤ) × (outcome g s e ≡ Some v)) (map wire_read_by ps)
    wires-argued [] all = tt
    wires-argued (p ∷ ps) all = (wire-argued (entering_wire (rows g) b p) all.0, wires-argued ps all.1)

    child-argued : is_subsystem (row_at (rows g) b).kind ≡ true → AllByRecursion (Argued g s) (child_equations (d g) s b)
    child-argued is =
        let calls = (child-calls g s system b row is).0 in
        let arguments = name now_name ∷ name active_name ∷ name reset_name ∷ map wire_read_by (input_ports (rows g) (Some b)) in
        let all = all-some (expected_outcome g s) arguments (node_inputs (hyper g) (tick_of g (Some b))) calls.1 in (
          (
            named-argued now_name all.0,
            (
              named-argued active_name all.1.0,
              (
                named-argued reset_name all.1.1.0,
                wires-argued (input_ports (rows g) (Some b)) all.1.1.1,
              ),
            ),
          ),
          tt,
        )

    row-argued : AllByRecursion (Argued g s) (row_equations (d g) s b)
    row-argued =
        let memories = only_if (is_delay (op_at (d g) b)) (memory_equations (d g) s b) in
        let own = only_if (has_value (row_at (rows g) b).kind) (value_equations (d g) s b) in
        let children = only_if (is_subsystem (row_at (rows g) b).kind) (child_equations (d g) s b) in
        all-after (Argued g s) (memories ++ own) children
        (all-after (Argued g s) memories own
        (all-only (Argued g s) (is_delay (op_at (d g) b)) (memory_equations (d g) s b)
        (λ delay. all-map (Done g s) (Argued g s) (λ e done. done.1) (memory_equations (d g) s b) (memories-done g s system b row delay)))
        (all-only (Argued g s) (has_value (row_at (rows g) b).kind) (value_equations (d g) s b)
        (λ valued. all-map (Done g s) (Argued g s) (λ e done. done.1) (value_equations (d g) s b)
        (row-values-done g s system b row valued))))
        (all-only (Argued g s) (is_subsystem (row_at (rows g) b).kind) (child_equations (d g) s b) child-argued)

  pub all-argued : AllByRecursion (Argued g s) (system_equations (d g) s)
  all-argued =
      all-after (Argued g s) (only_if (has_trigger (d g) s) (set 0 trigger_name (trigger_memory (d g) s) ∷ []))
      (set 0 active_name (active_value (d g) s) ∷ set 0 reset_name (reset_value (d g) s)
      ∷ flat_map (row_equations (d g) s) (rows_of (rows g) s))
      (all-only (Argued g s) (has_trigger (d g) s) (set 0 trigger_name (trigger_memory (d g) s) ∷ []) (λ is. (tt, tt))) (
        tt,
        (
          tt,
          all-joined (Argued g s) (row_equations (d g) s) (rows_of (rows g) s)
              (all-map (IsRowOf (rows g) s) (λ b. AllByRecursion (Argued g s) (row_equations (d g) s b)) row-argued (rows_of (rows g) s)
              (own-rows (rows g) s)),
        ),
      )

-- ---- All systems

pub has-run : (g : Setting) → HasRun g.r g.xs g.run g.t g.left
has-run g = record { count = counts g; systems = as-expected g }

pub is-whole : (g : Setting) → SystemsAreWhole g.r g.before g.left
is-whole g = record {
  counts = (pos (g.t % hyper g), counts g);
  values = values-there g;
  arguments = all-argued g;
}
