-- All names of the node of a system, from those of its parts.
use Rattle.std.proofs.Common.{◌≡◌, ℕ, ◌≤◌, Bool, true, false, List, [], ◌∷◌, ◌++◌, map, take, length, Some, Option, refl, sym, ap, ap₂, ◌∙◌}
use Rattle.std.specs.Prelude.{not}
use Rattle.std.specs.List.{flat_map, range_with_len}
use Rattle.std.proofs.lemmas.List.{take_all, append_assoc}
use Rattle.std.proofs.lemmas.List.Folds.{flat_map-map}
use Rattle.base_core.specs.declared.Control.{Control}
use Rattle.base_core.specs.declared.Port.{Port}
use Rattle.diagram_blocks.specs.declared.Kind.{Kind}
use Rattle.diagram_blocks.specs.declared.Op.{Op}
use Rattle.diagram_blocks.specs.Kinds.{is_delay, is_outport, is_subsystem}
use Rattle.diagram_blocks.specs.Meaning.{has_value, delay_length}
use Rattle.diagram_meaning.specs.Diagram.{Diagram, op_at}
use Rattle.diagram_meaning.specs.Rows.{row_at, rows_of, outports_of, is_triggered, system_control}
use Rattle.emit_row_facts.proofs.lemmas.Steps.{map-map}
use Rattle.emit_shape.specs.Names.{value_name, now_name, trigger_name, port_name}
use Rattle.lustre_syntax.specs.Tree.{Declared}
use Rattle.lustre_syntax.specs.Named.{all_names}
use Rattle.lustre_system.specs.FromC.{call_count}
use Rattle.lustre_system.specs.Functions.{int_name}
use Rattle.lustre_system.specs.Names.{around_active, around_off, active_name, reset_name, takes_name, sample_name, part_name}
use Rattle.lustre_system.specs.RowEquations.{bool_name, only_if, row_code, row_names, samples}
use Rattle.lustre_system.specs.SystemNodes.{system_node}
use Rattle.lustre_system_nodes.specs.declared.own_rows.OwnRow.{OwnRow}
use Rattle.lustre_system_nodes.specs.declared.parts.Parts.{Parts}
use Rattle.lustre_system_nodes.specs.OwnRows.{own_row}
use Rattle.lustre_system_nodes.specs.Parts.{ArePartsOf}

abbrev outputs_by : List ℕ → List Declared
outputs_by rows = map (λ o. int_name (value_name o)) rows

-- ---- A row

abbrev memory_names : ℕ → Op → List Declared
memory_names b op =
    only_if (is_delay op) (bool_name (takes_name b) ∷ map (λ k. int_name (sample_name b k)) (range_with_len 0 (delay_length op)))

abbrev value_names : ℕ → Kind → ℕ → List Declared
value_names b kind calls =
    only_if (has_value kind)
    (map (λ n. int_name (part_name b n)) (range_with_len 1 calls) ++ only_if (not (is_outport kind)) (int_name (value_name b) ∷ []))

map-only : {A B : Type 0} (f : A → B) (t : Bool) (xs : List A) → map f (only_if t xs) ≡ only_if t (map f xs)
map-only f true xs = refl
map-only f false xs = refl

module _ (d : Diagram) (s : Option ℕ) (b : ℕ) where
  abbrev own_kind : Kind
  own_kind = (row_at d.rows b).kind

  abbrev of_memory : List Declared
  of_memory = only_if (is_delay (op_at d b)) (bool_name (takes_name b) ∷ map int_name (samples d s b))

  abbrev of_value : List Declared
  of_value = value_names b own_kind (call_count (row_code d s b))

  abbrev of_child : List Declared
  of_child = only_if (is_subsystem own_kind) (outputs_by (outports_of d.rows (Some b)))

  -- from the names of its memory, of its value and of its child
  pub row-named : (x : OwnRow) (op : Op) (kind : Kind) (calls : ℕ) (outputs : List ℕ) (before first second all : List Declared) →
      x ≡ own_row d.rows b → op ≡ op_at d b → kind ≡ own_kind → calls ≡ call_count (row_code d s b) → outputs ≡ x.outputs →
      first ≡ before ++ memory_names b op → second ≡ first ++ value_names b kind calls → all ≡ second ++ outputs_by outputs →
      all ≡ before ++ row_names d s b
  row-named x op kind calls outputs before first second all is computes has counted again memory value child =
      let held : first ≡ before ++ of_memory =
      memory ∙ ap (λ o. before ++ memory_names b o) computes
      ∙ ap (λ names. before ++ only_if (is_delay (op_at d b)) (bool_name (takes_name b) ∷ names))
      (sym (map-map int_name (sample_name b) (range_with_len 0 (delay_length (op_at d b))))) in
      let valued : second ≡ before ++ (of_memory ++ of_value) =
      value ∙ ap₂ (λ (k : Kind) (n : ℕ). first ++ value_names b k n) has counted
      ∙ ap (λ (l : List Declared). l ++ of_value) held ∙ append_assoc before of_memory of_value in
      let called : outputs_by outputs ≡ of_child =
      ap outputs_by (again ∙ ap (λ (r : OwnRow). r.outputs) is)
      ∙ map-only (λ o. int_name (value_name o)) (is_subsystem own_kind) (outports_of d.rows (Some b)) in
      child ∙ ap₂ (λ (l c : List Declared). l ++ c) valued called ∙ append_assoc before (of_memory ++ of_value) of_child

-- ---- All rows

module _ (d : Diagram) (parts : Parts) (are : ArePartsOf d.rows parts) where
  pub flat-own : {B : Type 0} (f : ℕ → List B) (own : List OwnRow) (i : ℕ) (before now : List B) → own ≡ parts.own.items →
      length own ≤ i → now ≡ before ++ flat_map (λ (x : OwnRow). f x.row) (take i own) →
      now ≡ before ++ flat_map f (rows_of d.rows parts.row)
  flat-own f own i before now same past is =
      is
      ∙ ap (λ (xs : List OwnRow). before ++ flat_map (λ (x : OwnRow). f x.row) xs) (take_all i own past ∙ same ∙ are.own)
      ∙ ap (λ ys. before ++ ys) (flat_map-map (λ (x : OwnRow). f x.row) (own_row d.rows) (rows_of d.rows parts.row))

  -- ---- The node

  abbrev inputs_by : Control → List Port → List Declared
  inputs_by control ports =
      int_name now_name ∷ bool_name around_active ∷ bool_name around_off ∷ map int_name (map (port_name control) ports)

  abbrev states_by : Control → List Declared
  states_by control =
      bool_name active_name ∷ bool_name reset_name ∷ only_if (is_triggered control) (int_name trigger_name ∷ [])

  abbrev of_rows : List Declared
  of_rows = flat_map (row_names d parts.row) (rows_of d.rows parts.row)

  pub all-named : (ports : List Port) (outputs : List ℕ) (none first second third all : List Declared) →
      ports ≡ parts.ports.items → outputs ≡ parts.outputs → none ≡ [] → first ≡ none ++ inputs_by parts.control ports →
      second ≡ first ++ outputs_by outputs → third ≡ second ++ states_by parts.control → all ≡ third ++ of_rows →
      all ≡ all_names (system_node d parts.row)
  all-named ports outputs none first second third all same again empty inputs outs states rows =
      let node = system_node d parts.row in
      let given : first ≡ node.inputs =
      inputs ∙ ap (λ (l : List Declared). l ++ inputs_by parts.control ports) empty
      ∙ ap₂ inputs_by are.control (same ∙ are.ports) in
      let with_outputs : second ≡ node.inputs ++ node.outputs =
      outs ∙ ap₂ (λ (l : List Declared) (rows : List ℕ). l ++ outputs_by rows) given (again ∙ are.outputs) in
      rows
      ∙ ap (λ (l : List Declared). l ++ of_rows)
      (states ∙ ap₂ (λ (l : List Declared) (c : Control). l ++ states_by c) with_outputs are.control)
      ∙ append_assoc (node.inputs ++ node.outputs) (states_by (system_control d.rows parts.row)) of_rows
