-- All that the equations of a system give is known.
use Rattle.std.proofs.Common.{◌≡◌, sym, ◌∙◌, subst, ℕ, true, List, [], ◌∷◌, ◌++◌, length, flat_map, Contains, Option, None, Some}
use Rattle.std.specs.List.{AllByRecursion}
use Rattle.std.proofs.lemmas.Option.{get_or_from_slice_get}
use Rattle.diagram_blocks.specs.Kinds.{is_subsystem, is_outport, is_delay}
use Rattle.diagram_blocks.specs.Meaning.{has_value}
use Rattle.diagram_meaning.specs.declared.Row.{Row}
use Rattle.diagram_meaning.specs.Rows.{row_at, rows_of, outports_of}
use Rattle.diagram_meaning.specs.Diagram.{op_at}
use Rattle.diagram_meaning.specs.SystemRuns.{IsRowOf}
use Rattle.diagram_meaning.proofs.lemmas.Ports.{ported-at}
use Rattle.diagram_typed_runs.specs.TypedRuns.{IsSystem}
use Rattle.emit_shape.specs.Names.{value_name, trigger_name}
use Rattle.lustre_syntax.specs.Tree.{set}
use Rattle.lustre_system.specs.Names.{active_name, reset_name, takes_name}
use Rattle.lustre_system.specs.RowEquations.{only_if, runs, memory_equations, value_equations, child_equations, row_equations}
use Rattle.lustre_system.specs.SystemNodes.{active_value, reset_value, trigger_memory, has_trigger, system_equations}
use Rattle.lustre_rows.proofs.lemmas.Lists.{all-after, all-map, all-only, all-joined, own-rows, all-members, all-mapped}
use Rattle.lustre_rows.proofs.lemmas.Systems.{system-below}
use Rattle.lustre_ticks.proofs.Setting.{Setting, d, rows, IsKnown}
use Rattle.lustre_ticks.proofs.Agreement.{Given, Done, in-order}
use Rattle.lustre_ticks.proofs.Held.{memories-hold, memories-give}
use Rattle.lustre_ticks.proofs.Around.{KnowsActivity, trigger-known}
use Rattle.lustre_ticks.proofs.Wires.{BelowSystem, activity-known}
use Rattle.lustre_ticks.proofs.Rows.{reading, row-known, samples-done, values-done}

all-below : (table : List Row) (s : Option ℕ) → IsSystem table s → BelowSystem (length table) s
all-below table None system = tt
all-below table (Some e) system = system-below table e system

pub activity-of : (g : Setting) (s : Option ℕ) → IsSystem (rows g) s → KnowsActivity g s
activity-of g s system = activity-known g (length (rows g)) s system (all-below (rows g) s system) (λ c m. row-known g c)

module _ (g : Setting) (s : Option ℕ) (system : IsSystem (rows g) s) where
  activity : KnowsActivity g s
  activity = activity-of g s system

  -- ---- Rows

  module _ (b : ℕ) (row : IsRowOf (rows g) s b) where
    pub memories-done : is_delay (op_at (d g) b) ≡ true → AllByRecursion (Done g s) (memory_equations (d g) s b)
    memories-done delay =
        let taking = in-order g s (IsKnown g s) (λ text known. known) (set 0 (takes_name b) (runs (d g) s b) ∷ [])
        ((memories-hold g s system b row delay).0, tt) ((memories-give g s system b row delay).0, tt)
        (g.laws.taking_order g.r s b (IsKnown g s) (reading g s system b row activity)) in
        (taking.0, samples-done g s system b row delay)

    pub row-values-done : has_value (row_at (rows g) b).kind ≡ true → AllByRecursion (Done g s) (value_equations (d g) s b)
    row-values-done valued = values-done g s system b row valued activity (λ feeds c m. row-known g c)

    outputs-known : is_subsystem (row_at (rows g) b).kind ≡ true →
        AllByRecursion (λ o. IsKnown g s (value_name o)) (outports_of (rows g) (Some b))
    outputs-known is = all-members (λ o. IsKnown g s (value_name o)) (outports_of (rows g) (Some b)) each
      where
        each : (o : ℕ) → Contains (outports_of (rows g) (Some b)) o → IsKnown g s (value_name o)
        each o (k, below, at) =
            let (c, found, ported, port) = ported-at (rows g) is_outport (Some b) (g.tick.resolved.tree.table.outports (Some b)) k below in
            let same : c ≡ o = sym (get_or_from_slice_get (outports_of (rows g) (Some b)) k c o found) ∙ at in
            subst (λ x. IsKnown g s (value_name x)) same
            (subst (λ (p : Option ℕ). IsKnown g p (value_name c)) row.own
            ((row-known g c).output b ported.in_table ported.passing ported.is_own))

    row-given : AllByRecursion (Given g s) (row_equations (d g) s b)
    row-given =
        let memories = only_if (is_delay (op_at (d g) b)) (memory_equations (d g) s b) in
        let own = only_if (has_value (row_at (rows g) b).kind) (value_equations (d g) s b) in
        let children = only_if (is_subsystem (row_at (rows g) b).kind) (child_equations (d g) s b) in
        all-after (Given g s) (memories ++ own) children
        (all-after (Given g s) memories own
        (all-only (Given g s) (is_delay (op_at (d g) b)) (memory_equations (d g) s b)
        (λ delay. all-map (Done g s) (Given g s) (λ e done. done.0) (memory_equations (d g) s b) (memories-done delay)))
        (all-only (Given g s) (has_value (row_at (rows g) b).kind) (value_equations (d g) s b)
        (λ valued. all-map (Done g s) (Given g s) (λ e done. done.0) (value_equations (d g) s b) (row-values-done valued))))
        (all-only (Given g s) (is_subsystem (row_at (rows g) b).kind) (child_equations (d g) s b)
        (λ is. (all-mapped (IsKnown g s) value_name (outports_of (rows g) (Some b)) (outputs-known is), tt)))

  -- ---- All

  pub all-given : AllByRecursion (Given g s) (system_equations (d g) s)
  all-given =
      all-after (Given g s) (only_if (has_trigger (d g) s) (set 0 trigger_name (trigger_memory (d g) s) ∷ []))
      (set 0 active_name (active_value (d g) s) ∷ set 0 reset_name (reset_value (d g) s)
      ∷ flat_map (row_equations (d g) s) (rows_of (rows g) s))
      (all-only (Given g s) (has_trigger (d g) s) (set 0 trigger_name (trigger_memory (d g) s) ∷ [])
      (λ is. ((trigger-known g s system is, tt), tt))) (
        (activity.active, tt),
        (
          (activity.reset, tt),
          all-joined (Given g s) (row_equations (d g) s) (rows_of (rows g) s)
              (all-map (IsRowOf (rows g) s) (λ b. AllByRecursion (Given g s) (row_equations (d g) s b)) row-given (rows_of (rows g) s)
              (own-rows (rows g) s)),
        ),
      )
