-- The equations for a row are in order: its samples, whether it takes one, and its value.
use Rattle.std.proofs.Common.{ℕ, Bool, true, false, if◌then◌else◌, List, [], ◌∷◌, ◌++◌, map, Option, Some, None, pos, neg_ℤ, int_lt}
use Rattle.std.specs.List.{AllByRecursion}
use Rattle.diagram_blocks.specs.Kinds.{is_reset_outport}
use Rattle.diagram_meaning.specs.Diagram.{Diagram, type_at, op_at, time_at}
use Rattle.diagram_meaning.specs.Rows.{row_at, system_control}
use Rattle.diagram_meaning.specs.Run.{start_of}
use Rattle.c_syntax.specs.declared.Leaf.TheVariants.{Child}
use Rattle.emit_row_code.specs.TestCode.{disabled_by}
use Rattle.emit_shape.specs.Names.{value_name, now_name}
use Rattle.lustre_syntax.specs.Tree.{negative, number, choice, arrow, previous, set}
use Rattle.lustre_syntax.specs.Named.{NamedExpr}
use Rattle.lustre_system.specs.FromC.{value_of}
use Rattle.lustre_system.specs.Functions.{function_name}
use Rattle.lustre_system.specs.Names.{active_name, reset_name, around_active, takes_name, part_name, leaf_name, leaves_of, control_leaves}
use Rattle.lustre_system.specs.RowEquations.{signed_number, test_in, row_code, runs, kept, value_or_kept, or_reset, row_value, value_equations, delayed_name, sample_value, sample_equations}
use Rattle.lustre_right.specs.Reads.{names_now, equation_reads, Known, KnownAfter, InOrder, KnownAround, KnownInputs}
use Rattle.lustre_rows.proofs.lemmas.Lists.{all-after, all-map}
use Rattle.lustre_order.proofs.Controls.{IsKnown, OptionIsKnown, signed-known, disabled-known, runs-known}
use Rattle.lustre_order.proofs.RowCodes.{code-in-order}

module _ (d : Diagram) (s : Option ℕ) (b : ℕ) where
  -- ---- Samples

  abbrev start_where : Bool → NamedExpr
  start_where below = if below then negative (number (neg_ℤ (start_of d b))) else number (start_of d b)

  sample-known : (known : Known) (sample next : List ℕ) →
      AllByRecursion known (equation_reads (set 0 sample (sample_value d s b sample next)))
  sample-known known sample next = by (int_lt (start_of d b) (pos 0))
    where
      by : (below : Bool) →
          AllByRecursion known
          (equation_reads (set 0 sample (arrow (start_where below) (choice (previous reset_name) (start_where below)
          (choice (previous (takes_name b)) (previous next) (previous sample))))))
      by true = tt
      by false = tt

  pub samples-in-order : (known : Known) (texts : List (List ℕ)) → InOrder known (sample_equations d s b texts)
  samples-in-order known [] = tt
  samples-in-order known (m ∷ []) = (sample-known known m (delayed_name d s b), tt)
  samples-in-order known (m ∷ n ∷ ms) = (
    sample-known known m n,
    samples-in-order (KnownAfter known (set 0 m (sample_value d s b m n))) (n ∷ ms),
  )

  -- ---- Whether it runs

  runs-are-known : (known : Known) → known active_name → known now_name → IsKnown known (runs d s b)
  runs-are-known known active now = runs-known known d s (time_at d b) active now

  pub taking-in-order : (known : Known) → known active_name → known now_name →
      InOrder known (set 0 (takes_name b) (runs d s b) ∷ [])
  taking-in-order known active now =
      (all-after known (names_now (runs d s b)) [] (runs-are-known known active now) tt, tt)

  -- ---- Its value

  module _ (known : Known) (around : KnownAround known d s) (active : known active_name) where
    abbrev computed : NamedExpr
    computed = value_of (leaf_name d.rows s) function_name (part_name b) (row_code d s b)

    module _ (wider : Known) (wide : (text : List ℕ) → known text → wider text) (is_computed : IsKnown wider computed) where
      kept-known : IsKnown wider (kept d s b)
      kept-known = all-after wider (names_now (signed_number (start_of d b))) [] (signed-known wider (start_of d b)) tt

      value-known : IsKnown wider (value_or_kept d s b)
      value-known =
          all-after wider (names_now (runs d s b) ++ names_now computed) (names_now (kept d s b))
          (all-after wider (names_now (runs d s b)) (names_now computed)
          (runs-are-known wider (wide active_name active) (wide now_name around.now)) is_computed)
          kept-known

      reset-known : (test : Option NamedExpr) → OptionIsKnown known test → IsKnown wider (or_reset d s b test)
      reset-known None is = value-known
      reset-known (Some test) is =
          let start = names_now (signed_number (start_of d b)) in
          all-after wider ((around_active ∷ names_now test) ++ start) (names_now (value_or_kept d s b))
          (all-after wider (around_active ∷ names_now test) start
          (wide around_active around.on, all-map known wider wide (names_now test) is) (signed-known wider (start_of d b)))
          value-known

      row-known : IsKnown wider (row_value d s b)
      row-known = by (is_reset_outport (row_at d.rows b).kind)
        where
          by : (resets : Bool) →
              IsKnown wider (or_reset d s b (if resets
              then test_in d s (disabled_by (system_control d.rows s) (control_leaves d.rows s)) else None))
          by true = reset-known (test_in d s (disabled_by (system_control d.rows s) (control_leaves d.rows s)))
              (disabled-known known d s around.controls)
          by false = value-known

      last-in-order : InOrder wider (set 0 (value_name b) (row_value d s b) ∷ [])
      last-in-order = (all-after wider (names_now (row_value d s b)) [] row-known tt, tt)

    pub value-in-order : KnownInputs known d s b → InOrder known (value_equations d s b)
    value-in-order inputs =
        code-in-order (leaf_name d.rows s) function_name (part_name b) (leaves_of d.rows s b)
        (map (type_at d.types) (row_at d.rows b).inputs) (Child b 0) known (set 0 (value_name b) (row_value d s b) ∷ []) (op_at d b)
        inputs.leaves inputs.sample last-in-order
