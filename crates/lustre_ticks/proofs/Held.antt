-- What holds in the instance, and what is expected, of the equations of a system, row by row.
use Rattle.std.proofs.Common.{◌≡◌, refl, ℕ, zero, suc, ◌<◌, true, List, [], ◌∷◌, ◌++◌, length, flat_map, Option, None, Some, option_map, arith}
use Rattle.std.specs.List.{AllByRecursion}
use Rattle.diagram_blocks.specs.Kinds.{is_subsystem, is_delay}
use Rattle.diagram_blocks.specs.Meaning.{has_value}
use Rattle.diagram_meaning.specs.Rows.{row_at, rows_of}
use Rattle.diagram_meaning.specs.Diagram.{op_at}
use Rattle.diagram_meaning.specs.SystemRuns.{IsRowOf, IsSystemRun, MeetsParent, system_tick}
use Rattle.diagram_typed_runs.specs.TypedRuns.{IsSystem}
use Rattle.emit_shape.specs.Names.{trigger_name}
use Rattle.lustre_syntax.specs.Tree.{set}
use Rattle.lustre_syntax.specs.Named.{NamedEquation}
use Rattle.lustre_flows.specs.Instances.{Instance}
use Rattle.lustre_system.specs.Names.{active_name, reset_name}
use Rattle.lustre_system.specs.RowEquations.{only_if, memory_equations, value_equations, child_equations, row_equations}
use Rattle.lustre_system.specs.SystemNodes.{active_value, reset_value, trigger_memory, has_trigger, system_equations}
use Rattle.lustre_rows.specs.NamesOfTick.{IsAfter}
use Rattle.lustre_rows.specs.EquationLaws.{IsNamedTick, IsTimedRow, IsComputedRow}
use Rattle.lustre_rows.specs.ChildLaws.{CallsChild}
use Rattle.lustre_rows.specs.RunLaws.{IsRunRow}
use Rattle.lustre_right.specs.Systems.{values_of_system}
use Rattle.lustre_right.specs.TickLaws.{HadRun}
use Rattle.diagram_meaning.proofs.lemmas.Agreement.{All-append_left, All-append_right}
use Rattle.modules_profile.proofs.lemmas.PortRows.{in-rows}
use Rattle.lustre_rows.proofs.lemmas.Wires.{within-root}
use Rattle.lustre_ticks.proofs.Lists.{all-kept, all-among}
use Rattle.lustre_ticks.proofs.Setting.{Setting, d, rows, hyper, tick_of, olds, place, names, system-tick}
use Rattle.lustre_ticks.proofs.Agreement.{Holds, Gives}

module _ (g : Setting) (s : Option ℕ) (system : IsSystem (rows g) s) where
  run-of : IsSystemRun (d g) s (length g.xs) (system_tick (d g) None g.xs g.run s)
  run-of = g.laws.runs g.r None s g.xs g.run g.tick.resolved (within-root (rows g) s) g.tick.is_run

  after-by : (before : Option Instance) (t : ℕ) → t < length g.xs → HadRun g.r g.xs g.run t before →
      IsAfter (d g) (hyper g) s (system_tick (d g) None g.xs g.run s t) (place g s) (option_map (values_of_system (d g) (hyper g) s) before)
  after-by None zero below had = run-of.first
  after-by None (suc t) below had = absurd (omega (arith, had))
  after-by (Some before) zero below had = absurd had
  after-by (Some before) (suc t) below had =
      (system_tick (d g) None g.xs g.run s t, (had.systems s system).names, run-of.each t (omega (arith, below)), run-of.in_order t)

  named-tick : IsNamedTick (d g) (hyper g) s (tick_of g s) (olds g s) (g.expected s) (place g s)
  named-tick = record {
    cycle = g.laws.cycles g.r.tree.table g.r.types g.r.ops g.r.times g.tick.resolved.resolved;
    short = (let few = g.laws.short g.r.tree.table g.r.types g.r.ops g.r.times g.tick.resolved.resolved in omega (arith, few));
    after = after-by g.before g.t g.tick.within g.had;
    names = names g s system;
  }

  -- ---- All equations

  all-hold : AllByRecursion (Holds g s) (system_equations (d g) s)
  all-hold = (g.laws.hold g.r g.before _ g.left g.solution).1 s system

  abbrev trigger_part : List NamedEquation
  trigger_part = set 0 trigger_name (trigger_memory (d g) s) ∷ []

  abbrev activity_part : List NamedEquation
  activity_part = set 0 active_name (active_value (d g) s) ∷ set 0 reset_name (reset_value (d g) s) ∷ []

  abbrev rows_part : List NamedEquation
  rows_part = flat_map (row_equations (d g) s) (rows_of (rows g) s)

  after-trigger : AllByRecursion (Holds g s) (set 0 active_name (active_value (d g) s) ∷ set 0 reset_name (reset_value (d g) s) ∷ rows_part)
  after-trigger =
      All-append_right (Holds g s) (only_if (has_trigger (d g) s) trigger_part)
      (set 0 active_name (active_value (d g) s) ∷ set 0 reset_name (reset_value (d g) s) ∷ rows_part) all-hold

  activity-gives : AllByRecursion (Gives g s) (only_if (has_trigger (d g) s) trigger_part ++ activity_part)
  activity-gives = g.laws.activity (d g) (hyper g) s (tick_of g s) (olds g s) (g.expected s) (place g s) named-tick

  pub trigger-holds : has_trigger (d g) s ≡ true → AllByRecursion (Holds g s) trigger_part
  trigger-holds is =
      all-kept (Holds g s) (has_trigger (d g) s) trigger_part is
      (All-append_left (Holds g s) (only_if (has_trigger (d g) s) trigger_part)
      (set 0 active_name (active_value (d g) s) ∷ set 0 reset_name (reset_value (d g) s) ∷ rows_part) all-hold)

  pub trigger-gives : has_trigger (d g) s ≡ true → AllByRecursion (Gives g s) trigger_part
  trigger-gives is =
      all-kept (Gives g s) (has_trigger (d g) s) trigger_part is
      (All-append_left (Gives g s) (only_if (has_trigger (d g) s) trigger_part) activity_part activity-gives)

  pub active-holds : AllByRecursion (Holds g s) activity_part
  active-holds = (after-trigger.0, (after-trigger.1.0, tt))

  pub active-gives : AllByRecursion (Gives g s) activity_part
  active-gives = All-append_right (Gives g s) (only_if (has_trigger (d g) s) trigger_part) activity_part activity-gives

  -- ---- Rows

  module _ (b : ℕ) (row : IsRowOf (rows g) s b) where
    abbrev memories : List NamedEquation
    memories = only_if (is_delay (op_at (d g) b)) (memory_equations (d g) s b)

    abbrev own_values : List NamedEquation
    own_values = only_if (has_value (row_at (rows g) b).kind) (value_equations (d g) s b)

    abbrev own_children : List NamedEquation
    own_children = only_if (is_subsystem (row_at (rows g) b).kind) (child_equations (d g) s b)

    row-holds : AllByRecursion (Holds g s) ((memories ++ own_values) ++ own_children)
    row-holds = all-among (Holds g s) (row_equations (d g) s) (rows_of (rows g) s) b after-trigger.1.1
        (in-rows (rows g) s b row.in_table row.own)

    run-row : IsRunRow g.r g.xs g.run s g.t b
    run-row = record { tick = system-tick g s system; row = row }

    timed : IsTimedRow (d g) (hyper g) s g.t b
    timed = g.laws.timed g.r g.xs g.run s g.t b run-row

    pub memories-hold : is_delay (op_at (d g) b) ≡ true → AllByRecursion (Holds g s) (memory_equations (d g) s b)
    memories-hold is =
        all-kept (Holds g s) (is_delay (op_at (d g) b)) (memory_equations (d g) s b) is
        (All-append_left (Holds g s) memories own_values (All-append_left (Holds g s) (memories ++ own_values) own_children row-holds))

    pub memories-give : is_delay (op_at (d g) b) ≡ true → AllByRecursion (Gives g s) (memory_equations (d g) s b)
    memories-give is = g.laws.memories (d g) (hyper g) s (tick_of g s) (olds g s) (g.expected s) (place g s) b named-tick timed is

    pub values-hold : has_value (row_at (rows g) b).kind ≡ true → AllByRecursion (Holds g s) (value_equations (d g) s b)
    values-hold is =
        all-kept (Holds g s) (has_value (row_at (rows g) b).kind) (value_equations (d g) s b) is
        (All-append_right (Holds g s) memories own_values (All-append_left (Holds g s) (memories ++ own_values) own_children row-holds))

    pub computed : has_value (row_at (rows g) b).kind ≡ true → IsComputedRow (d g) s (tick_of g s) b
    computed is = g.laws.computed g.r g.xs g.run s g.t b run-row is

    pub values-give : has_value (row_at (rows g) b).kind ≡ true → AllByRecursion (Gives g s) (value_equations (d g) s b)
    values-give is =
        g.laws.values (d g) (hyper g) s (tick_of g s) (olds g s) (g.expected s) (place g s) b named-tick (run-of.each g.t g.tick.within)
        timed (computed is)

    pub child-holds : is_subsystem (row_at (rows g) b).kind ≡ true → AllByRecursion (Holds g s) (child_equations (d g) s b)
    child-holds is =
        all-kept (Holds g s) (is_subsystem (row_at (rows g) b).kind) (child_equations (d g) s b) is
        (All-append_right (Holds g s) (memories ++ own_values) own_children row-holds)

    pub meets : MeetsParent (d g) s (tick_of g s) b (tick_of g (Some b))
    meets = g.laws.parents g.r None s g.xs g.run g.t b g.tick.resolved (within-root (rows g) s) g.tick.is_run row

    pub child-calls : is_subsystem (row_at (rows g) b).kind ≡ true →
        AllByRecursion (CallsChild (d g) (hyper g) (olds g s) (g.expected s) (place g s) b (tick_of g (Some b))) (child_equations (d g) s b)
    child-calls is =
        g.laws.children (d g) (hyper g) s (tick_of g s) (tick_of g (Some b)) (olds g s) (g.expected s) (place g s) b named-tick
        (record {
          row = row;
          subsystem = is;
          wired = g.tick.resolved.tree.table.wired;
          inports = g.tick.resolved.tree.table.inports (Some b);
          outports = g.tick.resolved.tree.table.outports (Some b);
        })
        meets refl refl
