-- A model whose child passes its input on, where both outputs of the root take the child's output.
use Rattle.std.specs.Prelude.{false, [], ◌∷◌, Some, None}
use Rattle.base_core.specs.declared.Control.TheVariants.{Plain}
use Rattle.diagram_blocks.specs.declared.Kind.TheVariants.{Inport, Outport, SubSystem, Sum}
use Rattle.diagram_meaning.specs.Diagram.{Diagram}
use Rattle.diagram_meaning.specs.RunExamples.{simple, row, how, zero_initial}
use Rattle.modules_profile.specs.SystemProfile.{SystemProfile}
use Rattle.modules_profile.specs.SystemHeader.{SystemHeader}
use Rattle.modules_profile.specs.LocalSystem.{LocalSystem}
use Rattle.modules_profile.specs.Headers.{header_of}
use Rattle.modules_profile.specs.Locals.{local_of}

-- In1 and In2; C with x1 to y1, fed by In1; Out1 is C's output, and Out2 is a Sum of it and In2
abbrev pub shared_child : Diagram
shared_child =
    simple (row None (Inport 1) [] ∷ row None (Inport 2) [] ∷ row None (SubSystem Plain) []
    ∷ row (Some 2) (Inport 1) (0 ∷ []) ∷ row (Some 2) (Outport 1 false zero_initial) (3 ∷ [])
    ∷ row None (Sum 2 0 how) (4 ∷ 1 ∷ []) ∷ row None (Outport 1 false zero_initial) (4 ∷ [])
    ∷ row None (Outport 2 false zero_initial) (5 ∷ []) ∷ [])

-- the child has one function, which takes its input
abbrev pub inner_profile : SystemProfile
inner_profile = record { row = Some 2; functions = record { inputs = 1; outputs = 1 } ∷ [] }

abbrev pub inner_header : SystemHeader
inner_header = header_of shared_child (Some 2) inner_profile

-- the child by its own rows
abbrev pub inner_local : LocalSystem
inner_local = local_of shared_child [] (Some 2) []

-- the root has a function for each output
abbrev pub outer_profile : SystemProfile
outer_profile =
    record {
      row = None;
      functions = record { inputs = 1; outputs = 1 }
          ∷ record { inputs = 3; outputs = 2 } ∷ [];
    }

-- the root by its own rows
abbrev pub outer_local : LocalSystem
outer_local = local_of shared_child [] None (inner_header ∷ [])
