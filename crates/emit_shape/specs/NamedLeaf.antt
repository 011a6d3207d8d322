-- What code reads, by names.
use Rattle.std.specs.Prelude.{ℕ, List}

-- a parameter, a field of the own struct, or a field of a child's
pub data NamedLeaf : Type 0 where
  param : (name : List ℕ) → NamedLeaf
  own : (field : List ℕ) → NamedLeaf
  child : (field inner : List ℕ) → NamedLeaf
