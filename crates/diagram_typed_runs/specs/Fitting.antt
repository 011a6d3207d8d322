-- Numbers that rows can have.
use Rattle.std.specs.Prelude.{◌≡◌, ℕ, List, length, ℤ, pos}
use Rattle.std.specs.List.{AllByRecursion}
use Rattle.diagram_activity.specs.declared.TrigMem.{TrigMem}
use Rattle.base_fixed_point.specs.Conversion.{InType}
use Rattle.diagram_blocks.specs.declared.Kind.TheVariants.{Ground}
use Rattle.diagram_meaning.specs.Rows.{row_at}
use Rattle.diagram_meaning.specs.Diagram.{Diagram, type_at}
use Rattle.diagram_meaning.specs.Run.{value_at, memory_at}

-- row b can have this number: it lies in the row's type, and is 0 at a Ground, which rows of any
-- type copy
pub record FitsRow (d : Diagram) (b : ℕ) (number : ℤ) : Type 0 where
  pub in_type : InType (type_at d.types b) number
  pub ground : (row_at d.rows b).kind ≡ Ground → number ≡ pos 0

-- each row can have its number
abbrev pub EachFits : Diagram → List ℤ → Type 0
EachFits d v = (b : ℕ) → FitsRow d b (value_at v b)

-- a value for each row, which it can have
pub record AreFit (d : Diagram) (v : List ℤ) : Type 0 where
  pub one_each : length v ≡ length d.rows
  pub each : EachFits d v

-- a memory for each row, all of whose numbers lie in the row's type
pub record AreInTypes (d : Diagram) (m : List (List ℤ)) : Type 0 where
  pub one_each : length m ≡ length d.rows
  pub each : (b : ℕ) → AllByRecursion (InType (type_at d.types b)) (memory_at m b)

-- before a tick each row has a value, a memory and a trigger, which it can have
pub record IsFit (d : Diagram) (before : List ℤ) (m : List (List ℤ))
    (g : List TrigMem) : Type 0 where
  pub values : AreFit d before
  pub memories : AreInTypes d m
  pub triggers : length g ≡ length d.rows
