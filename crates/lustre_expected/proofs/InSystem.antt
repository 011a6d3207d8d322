-- Where the names of a row stand among those of its system.
use Rattle.std.proofs.Common.{suc, arith, ◌≡◌, ℕ, true, List, ◌++◌, Option}
use Rattle.std.specs.Prelude.{Contains}
use Rattle.std.specs.List.{flat_map}
use Rattle.std.proofs.lemmas.List.Elements.{Contains-append_left, Contains-append_right}
use Rattle.diagram_blocks.specs.Kinds.{is_subsystem, is_delay}
use Rattle.diagram_blocks.specs.Meaning.{has_value}
use Rattle.diagram_meaning.specs.Rows.{row_at, rows_of}
use Rattle.diagram_meaning.specs.Diagram.{Diagram, op_at}
use Rattle.diagram_meaning.specs.SystemRuns.{SystemTick, IsRowOf}
use Rattle.modules_profile.proofs.lemmas.PortRows.{in-rows}
use Rattle.lustre_system.specs.RowEquations.{only_if}
use Rattle.lustre_rows.proofs.lemmas.Lists.{in-joined, in-only}
use Rattle.lustre_expected.proofs.HeldNames.{Held}
use Rattle.lustre_expected.proofs.SystemNames.{held_memory, held_own, held_child, held_row, held_inputs, held_outputs, held_trigger, held_others, held}

module _ (d : Diagram) (hyper : ℕ) (s : Option ℕ) (m : SystemTick) (h : Held) where
  abbrev first : List Held
  first = held_inputs d hyper s m ++ held_outputs d hyper s m

  pub in-inputs : Contains (held_inputs d hyper s m) h → Contains (held d hyper s m) h
  in-inputs here =
      Contains-append_left first (held_others d hyper s m) h
      (Contains-append_left (held_inputs d hyper s m) (held_outputs d hyper s m) h here)

  pub in-outputs : Contains (held_outputs d hyper s m) h → Contains (held d hyper s m) h
  in-outputs here =
      Contains-append_left first (held_others d hyper s m) h
      (Contains-append_right (held_inputs d hyper s m) (held_outputs d hyper s m) h here)

  pub in-others : Contains (held_others d hyper s m) h → Contains (held d hyper s m) h
  in-others here = Contains-append_right first (held_others d hyper s m) h here

  abbrev all_rows : List Held
  all_rows = flat_map (held_row d hyper s m) (rows_of d.rows s)

  -- past those of its activity
  in-later : Contains (held_trigger d hyper s m ++ all_rows) h → Contains (held d hyper s m) h
  in-later (k, below, is) = in-others (suc (suc k), omega (arith, below), is)

  pub in-trigger : Contains (held_trigger d hyper s m) h → Contains (held d hyper s m) h
  in-trigger here = in-later (Contains-append_left (held_trigger d hyper s m) all_rows h here)

  -- a row of the system
  module _ (b : ℕ) (row : IsRowOf d.rows s b) where
    in-row : Contains (held_row d hyper s m b) h → Contains (held d hyper s m) h
    in-row here =
        in-later (Contains-append_right (held_trigger d hyper s m) all_rows h
        (in-joined (held_row d hyper s m) (rows_of d.rows s) b h (in-rows d.rows s b row.in_table row.own) here))

    abbrev memory : List Held
    memory = only_if (is_delay (op_at d b)) (held_memory d hyper s m b)

    abbrev own : List Held
    own = only_if (has_value (row_at d.rows b).kind) (held_own d hyper s m b)

    abbrev child : List Held
    child = only_if (is_subsystem (row_at d.rows b).kind) (held_child d hyper s m b)

    pub in-memory : is_delay (op_at d b) ≡ true → Contains (held_memory d hyper s m b) h → Contains (held d hyper s m) h
    in-memory is here =
        in-row (Contains-append_left (memory ++ own) child h (Contains-append_left memory own h
        (in-only (is_delay (op_at d b)) (held_memory d hyper s m b) h is here)))

    pub in-own : has_value (row_at d.rows b).kind ≡ true → Contains (held_own d hyper s m b) h → Contains (held d hyper s m) h
    in-own is here =
        in-row (Contains-append_left (memory ++ own) child h (Contains-append_right memory own h
        (in-only (has_value (row_at d.rows b).kind) (held_own d hyper s m b) h is here)))

    pub in-child : is_subsystem (row_at d.rows b).kind ≡ true → Contains (held_child d hyper s m b) h → Contains (held d hyper s m) h
    in-child is here =
        in-row (Contains-append_right (memory ++ own) child h
        (in-only (is_subsystem (row_at d.rows b).kind) (held_child d hyper s m b) h is here))
