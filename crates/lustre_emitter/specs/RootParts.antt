-- The parts of the root's node: its names by number, and its equations with so many inputs and
-- outputs.
use Rattle.std.specs.Prelude.{ℕ, Bool, true, false, List, [], ◌∷◌, map, length, None}
use Rattle.std.specs.List.{range_with_len}
use Rattle.diagram_meaning.specs.Diagram.{Diagram}
use Rattle.diagram_meaning.specs.Rows.{inports_of, outports_of}
use Rattle.modules_profile.specs.Systems.{system_name}
use Rattle.c_syntax.specs.Outputs.{output_name}
use Rattle.emit_shape.specs.Names.{now_name, input_name}
use Rattle.lustre_syntax.specs.Tree.{name, truth, set, call}
use Rattle.lustre_syntax.specs.Named.{NamedEquation}
use Rattle.lustre_system.specs.File.{next_now}

-- how many Outports the root has, or else Inports
abbrev pub port_count : Diagram → Bool → ℕ
port_count d true = length (outports_of d.rows None)
port_count d false = length (inports_of d.rows None)

-- the name of output k, or else of input k
abbrev pub numbered_name : Bool → ℕ → List ℕ
numbered_name true k = output_name k
numbered_name false k = input_name k

-- the names of so many of them
abbrev pub numbered_names : Bool → ℕ → List (List ℕ)
numbered_names outputs count = map (numbered_name outputs) (range_with_len 1 count)

-- the equation that counts the ticks in a cycle of so many
abbrev pub now_equation : ℕ → NamedEquation
now_equation hyper = set 0 now_name (next_now hyper)

-- the call of `top` with so many inputs and outputs
abbrev pub top_equation : ℕ → ℕ → NamedEquation
top_equation inputs outputs =
    call 0 (numbered_names true outputs) (system_name None)
    (name now_name ∷ truth true ∷ truth false ∷ map name (numbered_names false inputs))

-- both
abbrev pub equations_of : ℕ → ℕ → ℕ → List NamedEquation
equations_of hyper inputs outputs = now_equation hyper ∷ top_equation inputs outputs ∷ []
