-- A tick of a diagram, and what its equations give.
use Rattle.std.specs.Prelude.{ℕ, ℤ, List, None}
use Rattle.diagram_meaning.specs.Diagram.{Diagram}
use Rattle.diagram_meaning.specs.ResolvedTree.{diagram_of}
use Rattle.diagram_meaning.specs.Run as run
use Rattle.diagram_typed_runs.specs.Fitting.{IsFit}
use Rattle.diagram_typed_runs.specs.Traces.{HasInputs}
use Rattle.test_solver.specs.declared.row.Tick.{Tick}

-- its diagram
abbrev pub diagram_in : Tick → Diagram
diagram_in t = diagram_of t.diagram.now

-- its inputs are some of the diagram
abbrev pub HasItsInputs : Tick → Type 0
HasItsInputs t = HasInputs (diagram_in t) None t.inputs.now

-- the state before it is one of the diagram
abbrev pub IsFitBefore : Tick → Type 0
IsFitBefore t =
    IsFit (diagram_in t) t.before.now.values.items t.before.now.memories.items
    t.before.now.triggers.items

-- the value of a row, from these values of the tick
abbrev pub row_value : Tick → List ℤ → ℕ → ℤ
row_value t =
    run.row_value (diagram_in t) None t.number t.inputs.now t.before.now.values.items
    t.before.now.memories.items t.before.now.triggers.items

-- what a delay remembers after it, with these values
abbrev pub row_memory : Tick → List ℤ → ℕ → List ℤ
row_memory t =
    run.row_memory (diagram_in t) None t.number t.inputs.now t.before.now.memories.items
    t.before.now.triggers.items
