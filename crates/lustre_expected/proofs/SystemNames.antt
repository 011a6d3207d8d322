-- The names of a system's node, each with the number that it has at a tick.
use Rattle.std.proofs.Common.{◌≡◌, refl, ap, ℕ, ◌-◌, ◌%◌, not, ◌||◌, List, [], ◌∷◌, ◌++◌, map, Option, Some, ℤ, pos}
use Rattle.std.specs.List.{range_with_len, flat_map}
use Rattle.base_core.specs.Numbers.{int_at}
use Rattle.base_core.specs.declared.Control.{Control}
use Rattle.base_core.specs.declared.Port.{Port}
use Rattle.base_core.specs.declared.Port.TheVariants.{Number, Enable, Trigger}
use Rattle.diagram_activity.specs.Activity.{memory_number}
use Rattle.diagram_blocks.specs.Kinds.{is_subsystem, is_outport, is_delay}
use Rattle.diagram_blocks.specs.Meaning.{has_value, delay_length}
use Rattle.diagram_meaning.specs.Rows.{row_at, rows_of, outports_of, system_control, enable_count}
use Rattle.diagram_meaning.specs.Inputs.{input_ports}
use Rattle.diagram_meaning.specs.Diagram.{Diagram, op_at}
use Rattle.diagram_meaning.specs.SystemRuns.{SystemTick, system_is_active, system_is_off, own_runs}
use Rattle.emit_shape.specs.Names.{value_name, now_name, trigger_name, port_name}
use Rattle.lustre_flows.specs.Values.{number_of}
use Rattle.lustre_system.specs.FromC.{call_count}
use Rattle.lustre_system.specs.Functions.{int_name}
use Rattle.lustre_system.specs.Names.{around_active, around_off, active_name, reset_name, takes_name, sample_name, part_name}
use Rattle.lustre_system.specs.RowEquations.{bool_name, only_if, row_code, samples, row_names}
use Rattle.lustre_system.specs.SystemNodes.{has_trigger, system_inputs, system_names}
use Rattle.lustre_rows.specs.NamesOfTick.{tick_reads, c_functions}
use Rattle.lustre_right.specs.Systems.{system_texts}
use Rattle.lustre_expected.proofs.HeldNames.{Held, has, texts, AreNamed, named-after, named-only, named-each, named-texts, named-joined}
use Rattle.lustre_expected.proofs.PartNumbers.{part_numbers}

-- the number of an input or control
abbrev pub port_number : SystemTick → Control → Port → ℤ
port_number m c (Number k) = int_at m.inputs (k - 1)
port_number m c Enable = int_at m.controls 0
port_number m c Trigger = int_at m.controls (enable_count c)

module _ (d : Diagram) (hyper : ℕ) (s : Option ℕ) (m : SystemTick) where
  -- the number of call n of a row
  abbrev pub part_number : ℕ → ℕ → ℤ
  part_number b n = int_at (part_numbers c_functions (tick_reads m) (row_code d s b)) (n - 1)

  abbrev pub held_value : ℕ → Held
  held_value b = has (value_name b) (m.value b)

  abbrev pub held_sample : ℕ → ℕ → Held
  held_sample b k = has (sample_name b k) (int_at (m.memory b) k)

  abbrev pub held_part : ℕ → ℕ → Held
  held_part b n = has (part_name b n) (part_number b n)

  abbrev pub held_port : Port → Held
  held_port p = has (port_name (system_control d.rows s) p) (port_number m (system_control d.rows s) p)

  -- the names of a row: those of a delay, of a value, and of a child
  abbrev pub held_memory : ℕ → List Held
  held_memory b =
      has (takes_name b) (number_of (own_runs d s m b)) ∷ map (held_sample b) (range_with_len 0 (delay_length (op_at d b)))

  abbrev pub held_own : ℕ → List Held
  held_own b =
      map (held_part b) (range_with_len 1 (call_count (row_code d s b)))
      ++ only_if (not (is_outport (row_at d.rows b).kind)) (held_value b ∷ [])

  abbrev pub held_child : ℕ → List Held
  held_child b = map held_value (outports_of d.rows (Some b))

  abbrev pub held_row : ℕ → List Held
  held_row b =
      only_if (is_delay (op_at d b)) (held_memory b) ++ only_if (has_value (row_at d.rows b).kind) (held_own b)
      ++ only_if (is_subsystem (row_at d.rows b).kind) (held_child b)

  -- those of the system
  abbrev pub held_inputs : List Held
  held_inputs =
      has now_name (pos (m.t % hyper)) ∷ has around_active (number_of m.parent) ∷ has around_off (number_of m.is_off_around)
      ∷ map held_port (input_ports d.rows s)

  abbrev pub held_outputs : List Held
  held_outputs = map held_value (outports_of d.rows s)

  abbrev pub held_trigger : List Held
  held_trigger = only_if (has_trigger d s) (has trigger_name (memory_number m.trigger) ∷ [])

  abbrev pub held_others : List Held
  held_others =
      has active_name (number_of (system_is_active d s m))
      ∷ has reset_name (number_of (m.is_off_around || system_is_off d s m))
      ∷ held_trigger ++ flat_map held_row (rows_of d.rows s)

  abbrev pub held : List Held
  held = held_inputs ++ held_outputs ++ held_others

  -- ---- They are the names of the node

  row-named : (b : ℕ) → AreNamed (held_row b) (row_names d s b)
  row-named b =
      let parts = range_with_len 1 (call_count (row_code d s b)) in
      let memory_names = bool_name (takes_name b) ∷ map int_name (samples d s b) in
      let own_names = map (λ n. int_name (part_name b n)) parts
      ++ only_if (not (is_outport (row_at d.rows b).kind)) (int_name (value_name b) ∷ []) in
      let child_names = map (λ o. int_name (value_name o)) (outports_of d.rows (Some b)) in
      let delay = is_delay (op_at d b) in
      let valued = has_value (row_at d.rows b).kind in
      let subsystem = is_subsystem (row_at d.rows b).kind in
      let inner = not (is_outport (row_at d.rows b).kind) in
      named-after (only_if delay (held_memory b) ++ only_if valued (held_own b)) (only_if subsystem (held_child b))
      (only_if delay memory_names ++ only_if valued own_names) (only_if subsystem child_names)
      (named-after (only_if delay (held_memory b)) (only_if valued (held_own b)) (only_if delay memory_names) (only_if valued own_names)
      (named-only delay (held_memory b) memory_names
      (ap (λ (ts : List (List ℕ)). takes_name b ∷ ts)
      (named-texts (sample_name b) (λ k. int_at (m.memory b) k) (range_with_len 0 (delay_length (op_at d b))))))
      (named-only valued (held_own b) own_names
      (named-after (map (held_part b) parts) (only_if inner (held_value b ∷ [])) (map (λ n. int_name (part_name b n)) parts)
      (only_if inner (int_name (value_name b) ∷ [])) (named-each (part_name b) (part_number b) parts)
      (named-only inner (held_value b ∷ []) (int_name (value_name b) ∷ []) refl))))
      (named-only subsystem (held_child b) child_names (named-each value_name m.value (outports_of d.rows (Some b))))

  inputs-named : AreNamed held_inputs (system_inputs d s)
  inputs-named =
      let control = system_control d.rows s in
      ap (λ (ts : List (List ℕ)). now_name ∷ around_active ∷ around_off ∷ ts)
      (named-texts (port_name control) (port_number m control) (input_ports d.rows s))

  others-named : AreNamed held_others (system_names d s)
  others-named =
      let trigger_names = only_if (has_trigger d s) (int_name trigger_name ∷ []) in
      ap (λ (ts : List (List ℕ)). active_name ∷ reset_name ∷ ts)
      (named-after held_trigger (flat_map held_row (rows_of d.rows s)) trigger_names (flat_map (row_names d s) (rows_of d.rows s))
      (named-only (has_trigger d s) (has trigger_name (memory_number m.trigger) ∷ []) (int_name trigger_name ∷ []) refl)
      (named-joined held_row (row_names d s) row-named (rows_of d.rows s)))

  pub held-named : texts held ≡ system_texts d s
  held-named =
      let output_names = map (λ o. int_name (value_name o)) (outports_of d.rows s) in
      named-after (held_inputs ++ held_outputs) held_others (system_inputs d s ++ output_names) (system_names d s)
      (named-after held_inputs held_outputs (system_inputs d s) output_names inputs-named
      (named-each value_name m.value (outports_of d.rows s))) others-named
