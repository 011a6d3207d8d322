-- Parts of the equations of row b.
use Rattle.std.specs.Prelude.{ℕ, ◌+◌, nat_lt, if◌then◌else◌, List, Option, None}
use Rattle.diagram_blocks.specs.Meaning.{delay_length}
use Rattle.diagram_meaning.specs.Diagram.{Diagram, op_at}
use Rattle.lustre_syntax.specs.Tree.{set}
use Rattle.lustre_syntax.specs.Named.{NamedExpr, NamedEquation}
use Rattle.lustre_system.specs.FromC.{value_of, calls_of}
use Rattle.lustre_system.specs.Functions.{function_name}
use Rattle.lustre_system.specs.Names.{sample_name, part_name, leaf_name}
use Rattle.lustre_system.specs.RowEquations.{row_code, delayed_name, sample_value}

-- what it computes in the system s, and the calls of functions for that
abbrev pub computed_value : Diagram → Option ℕ → ℕ → NamedExpr
computed_value d s b = value_of (leaf_name d.rows s) function_name (part_name b) (row_code d s b)

abbrev pub computed_calls : Diagram → Option ℕ → ℕ → List NamedEquation
computed_calls d s b = calls_of (leaf_name d.rows s) function_name (part_name b) (row_code d s b)

-- the name of what its sample k takes: the next sample, or what the delay reads
abbrev pub next_name : Diagram → ℕ → ℕ → List ℕ
next_name d b k =
    if nat_lt (k + 1) (delay_length (op_at d b)) then sample_name b (k + 1)
    else delayed_name d None b

-- the equation of its sample k
abbrev pub sample_equation : Diagram → ℕ → ℕ → NamedEquation
sample_equation d b k =
    set 0 (sample_name b k) (sample_value d None b (sample_name b k) (next_name d b k))
