-- The tests of a system's controls and of the tick read names that are known.
use Rattle.std.proofs.Common.{refl, sym, subst, ℕ, ◌+◌, ◌==◌, Bool, true, false, if◌then◌else◌, List, [], length, slice_index_or, Option, Some, None, ℤ, pos, neg_ℤ, int_lt}
use Rattle.std.specs.Prelude.{⊤}
use Rattle.std.specs.List.{AllByRecursion}
use Rattle.base_core.specs.declared.Compare.TheVariants.{Eq}
use Rattle.base_core.specs.declared.Control.{Control}
use Rattle.base_core.specs.declared.Control.TheVariants.{Plain, Enabled, Triggered, Both}
use Rattle.base_core.specs.declared.Edge.{Edge}
use Rattle.base_core.specs.declared.Edge.TheVariants.{Rising, Falling, Either}
use Rattle.diagram_meaning.specs.declared.Time.{Time}
use Rattle.diagram_meaning.specs.Diagram.{Diagram}
use Rattle.diagram_meaning.specs.Rows.{system_control, enable_count, inports_of}
use Rattle.c_syntax.specs.declared.BinOp.TheVariants.{Rem}
use Rattle.c_syntax.specs.Tree.{literal, read, binary, compare}
use Rattle.emit_row_code.specs.TestCode.{active_by, disabled_by, off_by, hit_test, event_test}
use Rattle.emit_row_code.specs.declared.leaves.ControlLeaves.{ControlLeaves}
use Rattle.emit_shape.specs.Names.{now_name}
use Rattle.lustre_syntax.specs.Tree.{name, number, negative}
use Rattle.lustre_syntax.specs.Named.{NamedExpr}
use Rattle.lustre_system.specs.FromC.{test_of}
use Rattle.lustre_system.specs.Functions.{function_name}
use Rattle.lustre_system.specs.Names.{around_active, around_off, active_name, leaf_name, now_leaf, control_leaves}
use Rattle.lustre_system.specs.RowEquations.{also, signed_number, test_in}
use Rattle.lustre_system.specs.SystemNodes.{off_too}
use Rattle.lustre_right.specs.Reads.{names_now, Known, KnownControls}
use Rattle.lustre_rows.proofs.lemmas.ParamNames.{ports_by, names_by, enable-named, trigger-named, memory-named, now-named}

module _ (known : Known) where
  -- an expression reads names that are known
  abbrev pub IsKnown : NamedExpr → Type 0
  IsKnown e = AllByRecursion known (names_now e)

  -- so does one that there may be
  abbrev pub OptionIsKnown : Option NamedExpr → Type 0
  OptionIsKnown None = ⊤
  OptionIsKnown (Some e) = IsKnown e

  -- a number is no name
  pub signed-known : (v : ℤ) → IsKnown (signed_number v)
  signed-known v = by (int_lt v (pos 0))
    where
      by : (b : Bool) → IsKnown (if b then negative (number (neg_ℤ v)) else number v)
      by true = tt
      by false = tt

  -- ---- Controls by their names

  abbrev Controls : (enable trigger remembers : List ℕ) → Control → Type 0
  Controls enable trigger remembers Plain = ⊤
  Controls enable trigger remembers (Enabled reset) = known enable
  Controls enable trigger remembers (Triggered edge) = known trigger × known remembers
  Controls enable trigger remembers (Both reset edge) = known enable × known trigger × known remembers

  -- by the places of the parameters
  controls-known : (c : Control) (n : ℕ) → KnownControls known c →
      Controls (slice_index_or (names_by c n) n []) (slice_index_or (names_by c n) (n + enable_count c) [])
      (slice_index_or (names_by c n) (length (ports_by c n)) []) c
  controls-known Plain n is = tt
  controls-known (Enabled reset) n is = subst known (sym (enable-named (Enabled reset) n refl)) is
  controls-known (Triggered edge) n is = (
    subst known (sym (trigger-named (Triggered edge) n refl)) is.0,
    subst known (sym (memory-named (Triggered edge) n)) is.1,
  )
  controls-known (Both reset edge) n is = (
    subst known (sym (enable-named (Both reset edge) n refl)) is.0,
    subst known (sym (trigger-named (Both reset edge) n refl)) is.1,
    subst known (sym (memory-named (Both reset edge) n)) is.2,
  )

  module _ (d : Diagram) (s : Option ℕ) where
    module _ (leaves : ControlLeaves) where
      abbrev Named : Control → Type 0
      Named =
          Controls (leaf_name d.rows s leaves.enable) (leaf_name d.rows s leaves.trigger) (leaf_name d.rows s leaves.remembers)

      event-known : (edge : Edge) → known (leaf_name d.rows s leaves.trigger) → known (leaf_name d.rows s leaves.remembers) →
          IsKnown (test_of (leaf_name d.rows s) function_name (λ n. []) (event_test edge leaves))
      event-known Rising trigger remembers = (remembers, (trigger, tt))
      event-known Falling trigger remembers = (remembers, (trigger, tt))
      event-known Either trigger remembers = (remembers, (trigger, (remembers, (trigger, tt))))

      active-by-known : (c : Control) → Named c → known around_active →
          IsKnown (also (name around_active) (test_in d s (active_by c leaves)))
      active-by-known Plain is on = (on, tt)
      active-by-known (Enabled reset) is on = (on, (is, tt))
      active-by-known (Triggered edge) is on = (on, event-known edge is.0 is.1)
      active-by-known (Both reset edge) is on = (on, (is.0, event-known edge is.1 is.2))

      off-by-known : (c : Control) → Named c → known around_active → known around_off →
          IsKnown (off_too d s (test_in d s (off_by c leaves)))
      off-by-known Plain is on off = (off, tt)
      off-by-known (Enabled true) is on off = (off, (on, (is, tt)))
      off-by-known (Enabled false) is on off = (off, tt)
      off-by-known (Triggered edge) is on off = (off, tt)
      off-by-known (Both true edge) is on off = (off, (on, (is.0, tt)))
      off-by-known (Both false edge) is on off = (off, tt)

      disabled-by-known : (c : Control) → Named c → OptionIsKnown (test_in d s (disabled_by c leaves))
      disabled-by-known Plain is = tt
      disabled-by-known (Enabled reset) is = (is, tt)
      disabled-by-known (Triggered edge) is = tt
      disabled-by-known (Both reset edge) is = (is.0, tt)

    abbrev control : Control
    control = system_control d.rows s

    own-controls : KnownControls known control → Named (control_leaves d.rows s) control
    own-controls is = controls-known control (length (inports_of d.rows s)) is

    pub active-known : KnownControls known control → known around_active →
        IsKnown (also (name around_active) (test_in d s (active_by control (control_leaves d.rows s))))
    active-known is on = active-by-known (control_leaves d.rows s) control (own-controls is) on

    pub off-known : KnownControls known control → known around_active → known around_off →
        IsKnown (off_too d s (test_in d s (off_by control (control_leaves d.rows s))))
    off-known is on off = off-by-known (control_leaves d.rows s) control (own-controls is) on off

    pub disabled-known : KnownControls known control → OptionIsKnown (test_in d s (disabled_by control (control_leaves d.rows s)))
    disabled-known is = disabled-by-known (control_leaves d.rows s) control (own-controls is)

    -- whether a row of a sample time runs
    pub runs-known : (time : Time) → known active_name → known now_name →
        IsKnown (also (name active_name) (test_in d s (hit_test time (now_leaf d.rows s))))
    runs-known time active now = by (time.period == 1)
      where
        there : known (leaf_name d.rows s (now_leaf d.rows s))
        there = subst known (sym (now-named control (length (inports_of d.rows s)))) now

        by : (b : Bool) →
            IsKnown (also (name active_name) (test_in d s (if b then None
            else Some (compare Eq (binary Rem (read (now_leaf d.rows s)) (literal (pos time.period))) (literal (pos time.offset))))))
        by true = (active, tt)
        by false = (active, (there, tt))
