-- The interfaces of an assembled program's systems.
use Rattle.right_linking.specs.Parts.{Parts}
use Rattle.right_linking.specs.Whole.{AssembledIsLeast}

-- each system's functions take exactly what its outputs need, and are as few as can be
abbrev pub AssembledAreLeast : Type 0
AssembledAreLeast = (a : Parts) → AssembledIsLeast a
