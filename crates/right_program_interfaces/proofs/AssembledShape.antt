-- An assembled program has the shape of a program of its systems.
use Rattle.right_program_interfaces.specs.Shapes.{FunctionsAreKnown, SystemsHaveShape, StructsAreNamed, RootHasShape, AssembledHaveShape}

pub assembled_have_shape : FunctionsAreKnown → SystemsHaveShape → StructsAreNamed → RootHasShape → AssembledHaveShape
assembled_have_shape known systems structs root a = record { pures = known a; structs = structs a; each = systems a; root = root a }
