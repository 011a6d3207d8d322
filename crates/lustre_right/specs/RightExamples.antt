-- Files of small models against what a right file is: their nodes, calls and paths, the values of
-- their rows, and delays at the limit.
use Rattle.std.specs.Prelude.{◌≡◌, ℕ, false, nat_le, List, [], ◌∷◌, ◌++◌, filter, map, reverse, length, slice_get, codes, Option, Some, None, ℤ, pos, refl}
use Rattle.std.specs.Fmt.{digits}
use Rattle.diagram_blocks.specs.declared.Kind.TheVariants.{Inport, Outport, Delay}
use Rattle.diagram_meaning.specs.Rows.{subsystems_of, inports_of, outports_of}
use Rattle.diagram_meaning.specs.Diagram.{Diagram}
use Rattle.diagram_meaning.specs.RunExamples.{row, simple, zero_initial, accumulator}
use Rattle.modules_profile.specs.Systems.{systems, system_name}
use Rattle.emit_prelude.specs.Rules.{names}
use Rattle.emit_shape.specs.Names.{value_name, root_name}
use Rattle.lustre_syntax.specs.Tree.{name, set, Declared, FileTree, node_texts}
use Rattle.lustre_flows.specs.Ticks.{last_node}
use Rattle.lustre_flows.specs.Flows.{outputs, flow_at}
use Rattle.lustre_system.specs.Functions.{int_name}
use Rattle.lustre_system.specs.File.{lustre_file}
use Rattle.lustre_system.specs.ModelExamples.{crossed_ports, nested_enables, one, two}
use Rattle.lustre_right.specs.Paths.{node_place, node_named, name_place, callees, path_to}
use Rattle.lustre_right.specs.LongDelays.{long_delay}
use Rattle.lustre_right.specs.Right.{function_count}

-- ---- Nodes and calls

abbrev pub wanted_texts : Diagram → List (List ℕ)
wanted_texts d = names ++ map system_name (reverse (systems d.rows)) ++ root_name ∷ []

abbrev pub texts : Diagram → List (List ℕ)
texts d = node_texts (lustre_file d 1).nodes

pub crossed_texts : texts crossed_ports ≡ wanted_texts crossed_ports
unfolding digits
crossed_texts = refl

pub nested_texts : texts nested_enables ≡ wanted_texts nested_enables
unfolding digits
nested_texts = refl

-- the systems that the node of a system calls, and those that it is to call
abbrev pub called_systems : FileTree → Option ℕ → List ℕ
called_systems f s = filter (nat_le function_count) (callees (node_named f (system_name s)))

abbrev pub child_places : FileTree → Diagram → Option ℕ → List ℕ
child_places f d s = map (λ e. node_place f (system_name (Some e))) (subsystems_of d.rows s)

abbrev pub calls_in : Diagram → Option ℕ → List ℕ
calls_in d s = called_systems (lustre_file d 1) s

abbrev pub calls_wanted : Diagram → Option ℕ → List ℕ
calls_wanted d s = child_places (lustre_file d 1) d s

pub top_calls : calls_in nested_enables None ≡ calls_wanted nested_enables None
unfolding digits
top_calls = refl

pub outer_calls : calls_in nested_enables (Some 2) ≡ calls_wanted nested_enables (Some 2)
unfolding digits
outer_calls = refl

pub inner_calls : calls_in nested_enables (Some 5) ≡ []
unfolding digits
inner_calls = refl

-- ---- Ports

pub crossed_inputs : (last_node (lustre_file crossed_ports 1)).inputs
    ≡ length (inports_of crossed_ports.rows None)
unfolding digits
crossed_inputs = refl

pub crossed_outputs : (last_node (lustre_file crossed_ports 1)).outputs
    ≡ length (outports_of crossed_ports.rows None)
unfolding digits
crossed_outputs = refl

-- a last node without inputs that says `y1 = y1;`: rows of a trace that are too long for it would
-- count as values of its outputs, so the flows alone don't tell that a file has the right ports
abbrev pub without_inputs : FileTree
without_inputs = record {
  nodes =
      record {
        text = root_name;
        line = 0;
        inputs = 0;
        outputs = 1;
        names = int_name (codes "y1") ∷ [];
        equations = set 0 0 (name 0) ∷ [];
      }
      ∷ [];
}

pub outputs_without_inputs : outputs without_inputs (map one (4 ∷ 9 ∷ []))
    ≡ map one (4 ∷ 9 ∷ [])
outputs_without_inputs = refl

-- the name of a row in its system is of `int`
abbrev pub row_name_in : FileTree → Diagram → Option ℕ → ℕ → Option Declared
row_name_in f d s b =
    slice_get (node_named f (system_name s)).names
    (name_place (node_named f (system_name s)) (value_name b))

pub crossed_name : row_name_in (lustre_file crossed_ports 1) crossed_ports (Some 1) 4
    ≡ Some (int_name (value_name 4))
unfolding digits
crossed_name = refl

-- ---- Paths: the root calls `top` alone, which calls s2, which calls s5; that calls clamp first

abbrev pub path_in : Diagram → Option ℕ → List ℕ
path_in d s = path_to (lustre_file d 1) d.rows s

pub top_path : path_in nested_enables None ≡ 0 ∷ []
unfolding digits
top_path = refl

pub inner_path : path_in nested_enables (Some 5) ≡ 0 ∷ 0 ∷ 0 ∷ []
unfolding digits
inner_path = refl

-- ---- Values of rows

-- the values that a file gives these rows of a system at a tick
abbrev pub values_at : FileTree → Diagram → (xs : List (List ℤ)) → (t : ℕ) → Option ℕ → List ℕ →
    List (Option ℤ)
values_at f d xs t s bs =
    map
    (λ b. flow_at f xs t (path_to f d.rows s)
    (name_place (node_named f (system_name s)) (value_name b))) bs

abbrev pub values_in : Diagram → (xs : List (List ℤ)) → (t : ℕ) → Option ℕ → List ℕ →
    List (Option ℤ)
values_in d xs t s bs = values_at (lustre_file d 1) d xs t s bs

-- those of its run over 5, 5, 5
pub accumulator_values : values_in accumulator (map one (5 ∷ 5 ∷ 5 ∷ [])) 1 None
    (0 ∷ 1 ∷ 2 ∷ 3 ∷ []) ≡ map (λ v. Some (pos v)) (5 ∷ 0 ∷ 5 ∷ 0 ∷ [])
unfolding digits
accumulator_values = refl

pub crossed_values : values_in crossed_ports (map one (4 ∷ 9 ∷ [])) 1 (Some 1)
    (2 ∷ 3 ∷ 4 ∷ 5 ∷ []) ≡ map (λ v. Some (pos v)) (9 ∷ 9 ∷ 9 ∷ 9 ∷ [])
unfolding digits
crossed_values = refl

-- the inner system rests at the third tick: the constant, the sum, the delay and the Outport
pub nested_values : values_in nested_enables (two 1 1 ∷ two 1 1 ∷ two 0 0 ∷ []) 2 (Some 5)
    (7 ∷ 8 ∷ 9 ∷ 10 ∷ []) ≡ map (λ v. Some (pos v)) (1 ∷ 2 ∷ 1 ∷ 2 ∷ [])
unfolding digits
nested_values = refl

-- ---- Long delays

abbrev pub delayed_by : ℕ → Diagram
delayed_by n =
    simple (row None (Inport 1) [] ∷ row None (Delay n zero_initial) (0 ∷ [])
    ∷ row None (Outport 1 false zero_initial) (1 ∷ []) ∷ [])

pub delay_64 : long_delay (delayed_by 64) ≡ None
delay_64 = refl

pub delay_65 : long_delay (delayed_by 65) ≡ Some (record { row = 0; line = 0 })
delay_65 = refl
