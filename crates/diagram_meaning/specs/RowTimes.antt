-- What contracts see of the sample times.
use Rattle.std.specs.Prelude.{ℕ, List, Bool}
use Rattle.diagram_meaning.specs.declared.times.Time.{Time}

-- the sample time of each row, whether it is a delay between rates, and the cycle after which all
-- hits repeat
pub record RowTimes : Type 0 where
  pub run : List Time
  pub delays : List Bool
  pub hyper : ℕ
