-- All equations of the node of a system hold.
use Rattle.std.proofs.Common.{refl, subst, ℕ, List, [], ◌∷◌, ◌++◌, Option, None, Some, ℤ, arith, append_assoc, inl, inr}
use Rattle.std.specs.List.{AllByRecursion, flat_map}
use Rattle.base_fixed_point.specs.Rounding.{RoundingIsOne}
use Rattle.diagram_blocks.specs.Kinds.{is_subsystem, is_delay}
use Rattle.diagram_blocks.specs.Laws.{NarrowRowsFit}
use Rattle.diagram_blocks.specs.Meaning.{has_value}
use Rattle.diagram_meaning.specs.Rows.{row_at, rows_of}
use Rattle.diagram_meaning.specs.Diagram.{Diagram, op_at}
use Rattle.diagram_meaning.specs.ResolvedLaws.{HitsRepeat, CyclesHaveTicks, ResolvedCyclesAreShort}
use Rattle.diagram_meaning.specs.ResolvedTree.{ResolvedTree, diagram_of}
use Rattle.diagram_meaning.specs.Laws.{Run}
use Rattle.diagram_meaning.specs.SystemRuns.{SystemTick, IsRowOf, system_tick, IsSystemTick, RunsAreOfSystems, ChildrenMeetParents}
use Rattle.diagram_typed_runs.specs.TypedRuns.{TicksAreTyped}
use Rattle.emit_prelude.specs.Rules.{WholeNumbersStay}
use Rattle.emit_row_code.specs.Laws.{RowsAreComputed}
use Rattle.emit_shape.specs.Names.{trigger_name}
use Rattle.lustre_syntax.specs.Tree.{set}
use Rattle.lustre_syntax.specs.Named.{NamedEquation}
use Rattle.lustre_system.specs.Names.{active_name, reset_name}
use Rattle.lustre_system.specs.RowEquations.{only_if, memory_equations, value_equations, child_equations, row_equations}
use Rattle.lustre_system.specs.SystemNodes.{active_value, reset_value, trigger_memory, has_trigger}
use Rattle.lustre_functions.specs.FunctionLaws.{NodesGiveTheSame}
use Rattle.lustre_rows.specs.NamesOfTick.{NamesHave, IsAfter}
use Rattle.lustre_rows.specs.EquationLaws.{GivesItsName, IsNamedTick}
use Rattle.lustre_rows.specs.ChildLaws.{CallsChild}
use Rattle.lustre_rows.specs.RunLaws.{IsRunTick, IsRunRow}
use Rattle.lustre_rows.specs.SystemLaws.{HoldsInTick, SystemEquationsHold}
use Rattle.lustre_rows.proofs.lemmas.Lists.{all-after, all-map, all-joined, all-only, own-rows}
use Rattle.lustre_rows.proofs.Activity.{activity_equations_hold}
use Rattle.lustre_rows.proofs.Memories.{memory_equations_hold}
use Rattle.lustre_rows.proofs.ValueEquations.{value_equations_hold}
use Rattle.lustre_rows.proofs.ChildCalls.{child_equations_hold}
use Rattle.lustre_rows.proofs.lemmas.Wires.{within-root}
use Rattle.lustre_rows.proofs.RunRows.{rows_of_runs_are_timed, rows_of_runs_are_computed}

-- ---- The laws that it takes

pub record Laws : Type 0 where
  pub computed : RowsAreComputed
  pub same : NodesGiveTheSame
  pub stay : WholeNumbersStay
  pub one : RoundingIsOne
  pub narrow : NarrowRowsFit
  pub typed : TicksAreTyped
  pub runs : RunsAreOfSystems
  pub repeat : HitsRepeat
  pub parents : ChildrenMeetParents
  pub cycles : CyclesHaveTicks
  pub short : ResolvedCyclesAreShort

module _ (laws : Laws) (r : ResolvedTree) (xs : List (List ℤ)) (run : Run) (n : Option ℕ) (t : ℕ)
    (before : Option (List (Option ℤ))) (values : List (Option ℤ)) (place : List ℕ → ℕ) (at : IsRunTick r xs run n t)
    (names : NamesHave (diagram_of r) r.times.hyper n (system_tick (diagram_of r) None xs run n t) values place)
    (after : IsAfter (diagram_of r) r.times.hyper n (system_tick (diagram_of r) None xs run n t) place before) where
  abbrev d : Diagram
  d = diagram_of r

  abbrev m : SystemTick
  m = system_tick d None xs run n t

  abbrev inner : ℕ → SystemTick
  inner e = system_tick d None xs run (Some e) t

  abbrev Holds : NamedEquation → Type 0
  Holds = HoldsInTick d r.times.hyper n before values place inner

  tick : IsNamedTick d r.times.hyper n m before values place
  tick = record {
    cycle = laws.cycles r.tree.table r.types r.ops r.times at.resolved.resolved;
    short = (let few = laws.short r.tree.table r.types r.ops r.times at.resolved.resolved in omega (arith, few));
    after = after;
    names = names;
  }

  system : IsSystemTick d n m
  system = (laws.runs r None n xs run at.resolved (within-root d.rows n) at.is_run).each t at.within

  own-hold : (equations : List NamedEquation) → AllByRecursion (GivesItsName before values place) equations → AllByRecursion Holds equations
  own-hold equations all = all-map (GivesItsName before values place) Holds (λ x holds. inl holds) equations all

  rows-hold : (b : ℕ) → IsRowOf d.rows n b → AllByRecursion Holds (row_equations d n b)
  rows-hold b row =
      let run_row : IsRunRow r xs run n t b = record { tick = at; row = row } in
      let timed = rows_of_runs_are_timed laws.repeat r xs run n t b run_row in
      let memories = only_if (is_delay (op_at d b)) (memory_equations d n b) in
      let own = only_if (has_value (row_at d.rows b).kind) (value_equations d n b) in
      all-after Holds (memories ++ own) (only_if (is_subsystem (row_at d.rows b).kind) (child_equations d n b))
      (all-after Holds memories own
      (all-only Holds (is_delay (op_at d b)) (memory_equations d n b)
      (λ delay. own-hold (memory_equations d n b) (memory_equations_hold d r.times.hyper n m before values place b tick timed delay)))
      (all-only Holds (has_value (row_at d.rows b).kind) (value_equations d n b)
      (λ valued. own-hold (value_equations d n b)
      (value_equations_hold laws.computed laws.same laws.stay laws.one laws.narrow d r.times.hyper n m before values place b
      tick system timed
      (rows_of_runs_are_computed laws.typed r xs run n t b run_row valued)))))
      (all-only Holds (is_subsystem (row_at d.rows b).kind) (child_equations d n b)
      (λ subsystem. all-map (CallsChild d r.times.hyper before values place b (inner b)) Holds (λ x holds. inr (b, row, holds))
      (child_equations d n b)
      (child_equations_hold d r.times.hyper n m (inner b) before values place b tick
      (record {
        row = row;
        subsystem = subsystem;
        wired = at.resolved.tree.table.wired;
        inports = at.resolved.tree.table.inports (Some b);
        outports = at.resolved.tree.table.outports (Some b);
      })
      (laws.parents r None n xs run t b at.resolved (within-root d.rows n) at.is_run row) refl refl)))

  all-hold : AllByRecursion Holds
      ((only_if (has_trigger d n) (set 0 trigger_name (trigger_memory d n) ∷ [])
      ++ set 0 active_name (active_value d n) ∷ set 0 reset_name (reset_value d n) ∷ [])
      ++ flat_map (row_equations d n) (rows_of d.rows n))
  all-hold =
      let activity = only_if (has_trigger d n) (set 0 trigger_name (trigger_memory d n) ∷ [])
      ++ set 0 active_name (active_value d n) ∷ set 0 reset_name (reset_value d n) ∷ [] in
      all-after Holds activity (flat_map (row_equations d n) (rows_of d.rows n))
      (own-hold activity (activity_equations_hold d r.times.hyper n m before values place tick))
      (all-joined Holds (row_equations d n) (rows_of d.rows n)
      (all-map (IsRowOf d.rows n) (λ b. AllByRecursion Holds (row_equations d n b)) rows-hold (rows_of d.rows n) (own-rows d.rows n)))

pub system_equations_hold : Laws → SystemEquationsHold
system_equations_hold laws r xs run n t before values place at names after =
    let d = diagram_of r in
    subst (λ (equations : List NamedEquation). AllByRecursion (HoldsInTick d r.times.hyper n before values place
    (λ e. system_tick d None xs run (Some e) t)) equations)
    (append_assoc (only_if (has_trigger d n) (set 0 trigger_name (trigger_memory d n) ∷ []))
    (set 0 active_name (active_value d n) ∷ set 0 reset_name (reset_value d n) ∷ []) (flat_map (row_equations d n) (rows_of d.rows n)))
    (all-hold laws r xs run n t before values place at names after)
