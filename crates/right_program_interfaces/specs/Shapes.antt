-- The shape of an assembled program, by its parts.
use Rattle.std.specs.Prelude.{◌∷◌, map, IsPermutation}
use Rattle.std.specs.List.{AllByRecursion}
use Rattle.modules_profile.specs.Systems.{system_name}
use Rattle.emit_shape.specs.Names.{root_name}
use Rattle.emit_shape.specs.ProgramShape.{AreOfPrelude, HasSystemShape}
use Rattle.emit_shape.specs.RootCode.{HasRootCode}
use Rattle.right_linking.specs.Parts.{Parts, program_of, diagram, all_systems}
use Rattle.right_linking.specs.Whole.{AssembledHasShape}

-- each system has a struct and procedures of its own
abbrev pub SystemsHaveShape : Type 0
SystemsHaveShape =
    (a : Parts) → AllByRecursion (HasSystemShape (program_of a) (diagram a) a.model.times.delays)
    (all_systems a)

-- the pure functions are among the eight
abbrev pub FunctionsAreKnown : Type 0
FunctionsAreKnown = (a : Parts) → AreOfPrelude (program_of a).pures

-- the structs are those of the systems and the root's
abbrev pub StructsAreNamed : Type 0
StructsAreNamed =
    (a : Parts) →
    IsPermutation (root_name ∷ map system_name (all_systems a))
    (map (λ st. st.name) (program_of a).structs)

-- so has the root
abbrev pub RootHasShape : Type 0
RootHasShape = (a : Parts) → HasRootCode (program_of a) (diagram a) a.hyper

-- the program has the shape of a program of its systems
abbrev pub AssembledHaveShape : Type 0
AssembledHaveShape = (a : Parts) → AssembledHasShape a
