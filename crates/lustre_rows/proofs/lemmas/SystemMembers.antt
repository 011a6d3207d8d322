-- What is among the names of a system's node.
use Rattle.std.proofs.Common.{◌≡◌, refl, ap, ℕ, ◌-◌, Bool, true, false, not, List, [], ◌∷◌, ◌++◌, map, Option, Some}
use Rattle.std.specs.Prelude.{Contains}
use Rattle.std.specs.List.{flat_map, range_with_len}
use Rattle.std.proofs.lemmas.List.Elements.{Contains-append_left, Contains-append_right}
use Rattle.diagram_blocks.specs.Kinds.{is_subsystem, is_outport, is_delay, port_of}
use Rattle.diagram_blocks.specs.Meaning.{has_value}
use Rattle.diagram_meaning.specs.Rows.{row_at, rows_of, outports_of}
use Rattle.diagram_meaning.specs.WellFormed.{HasPorts}
use Rattle.diagram_meaning.specs.Diagram.{Diagram, op_at}
use Rattle.diagram_meaning.specs.SystemRuns.{IsRowOf}
use Rattle.modules_profile.proofs.lemmas.Members.{in-first, in-rest, in-map, in-at}
use Rattle.modules_profile.proofs.lemmas.PortRows.{in-rows, port-place}
use Rattle.emit_shape.specs.Names.{value_name, trigger_name}
use Rattle.lustre_syntax.specs.Tree.{Declared}
use Rattle.lustre_syntax.specs.Named.{all_names}
use Rattle.lustre_system.specs.FromC.{call_count}
use Rattle.lustre_system.specs.Functions.{int_name}
use Rattle.lustre_system.specs.Names.{active_name, reset_name, takes_name, part_name}
use Rattle.lustre_system.specs.RowEquations.{bool_name, only_if, row_code, samples, row_names}
use Rattle.lustre_system.specs.SystemNodes.{has_trigger, system_inputs, system_names, system_node}
use Rattle.lustre_rows.proofs.lemmas.Lists.{in-joined, in-only}

module _ (d : Diagram) (s : Option ℕ) where
  abbrev pub IsName : Declared → Type 0
  IsName x = Contains (all_names (system_node d s)) x

  abbrev pub outputs : List Declared
  outputs = map (λ o. int_name (value_name o)) (outports_of d.rows s)

  abbrev pub trigger : List Declared
  trigger = only_if (has_trigger d s) (int_name trigger_name ∷ [])

  abbrev pub rows : List Declared
  rows = flat_map (row_names d s) (rows_of d.rows s)

  pub of-inputs : (x : Declared) → Contains (system_inputs d s) x → IsName x
  of-inputs x here =
      Contains-append_left (system_inputs d s ++ outputs) (system_names d s) x (Contains-append_left (system_inputs d s) outputs x here)

  pub of-outputs : (x : Declared) → Contains outputs x → IsName x
  of-outputs x here =
      Contains-append_left (system_inputs d s ++ outputs) (system_names d s) x (Contains-append_right (system_inputs d s) outputs x here)

  pub of-others : (x : Declared) → Contains (system_names d s) x → IsName x
  of-others x here = Contains-append_right (system_inputs d s ++ outputs) (system_names d s) x here

  -- past those of its activity
  pub of-later : (x : Declared) → Contains (trigger ++ rows) x → IsName x
  of-later x here =
      of-others x (in-rest (bool_name active_name) x (bool_name reset_name ∷ trigger ++ rows)
      (in-rest (bool_name reset_name) x (trigger ++ rows) here))

  -- ---- Those of a row

  module _ (b : ℕ) (row : IsRowOf d.rows s b) where
    abbrev pub memories : List Declared
    memories = bool_name (takes_name b) ∷ map int_name (samples d s b)

    abbrev pub parts : List Declared
    parts = map (λ n. int_name (part_name b n)) (range_with_len 1 (call_count (row_code d s b)))

    abbrev pub value : List Declared
    value = only_if (not (is_outport (row_at d.rows b).kind)) (int_name (value_name b) ∷ [])

    abbrev pub child : List Declared
    child = map (λ o. int_name (value_name o)) (outports_of d.rows (Some b))

    abbrev pub delays : Bool
    delays = is_delay (op_at d b)

    abbrev pub valued : Bool
    valued = has_value (row_at d.rows b).kind

    abbrev pub nested : Bool
    nested = is_subsystem (row_at d.rows b).kind

    of-row : (x : Declared) → Contains (row_names d s b) x → IsName x
    of-row x here =
        of-later x (Contains-append_right trigger rows x
        (in-joined (row_names d s) (rows_of d.rows s) b x (in-rows d.rows s b row.in_table row.own) here))

    pub of-memories : (x : Declared) → delays ≡ true → Contains memories x → IsName x
    of-memories x is here =
        of-row x (Contains-append_left (only_if delays memories ++ only_if valued (parts ++ value)) (only_if nested child) x
        (Contains-append_left (only_if delays memories) (only_if valued (parts ++ value)) x (in-only delays memories x is here)))

    pub of-own : (x : Declared) → valued ≡ true → Contains (parts ++ value) x → IsName x
    of-own x is here =
        of-row x (Contains-append_left (only_if delays memories ++ only_if valued (parts ++ value)) (only_if nested child) x
        (Contains-append_right (only_if delays memories) (only_if valued (parts ++ value)) x (in-only valued (parts ++ value) x is here)))

    pub of-child : (x : Declared) → nested ≡ true → Contains child x → IsName x
    of-child x is here =
        of-row x (Contains-append_right (only_if delays memories ++ only_if valued (parts ++ value)) (only_if nested child) x
        (in-only nested child x is here))

    -- its value
    pub of-value : HasPorts d.rows is_outport s → valued ≡ true → IsName (int_name (value_name b))
    of-value has is = by (is_outport (row_at d.rows b).kind) refl
      where
        x : Declared
        x = int_name (value_name b)

        by : (t : Bool) → is_outport (row_at d.rows b).kind ≡ t → IsName x
        by true outport =
            of-outputs x (in-map (λ o. int_name (value_name o)) (outports_of d.rows s) b
            (in-at (outports_of d.rows s) (port_of (row_at d.rows b).kind - 1) b
            (port-place d.rows s is_outport has b row.in_table row.own outport)))
        by false plain =
            of-own x is (Contains-append_right parts value x
            (in-only (not (is_outport (row_at d.rows b).kind)) (x ∷ []) x (ap not plain) (in-first x [])))
