-- The laws on which the types of a system's equations rest.
use Rattle.diagram_meaning.specs.ResolvedLaws.{ResolvedRowsAreNarrow, ResolvedCyclesAreShort, CyclesHaveTicks, PeriodsDivideCycle}
use Rattle.emit_row_code.specs.Laws.{RowsAreShallow, RowsReadTheirLeaves}
use Rattle.emit_row_code.specs.LawfulLaws.{RowsAreLawful}

pub record Laws : Type 0 where
  pub narrow : ResolvedRowsAreNarrow
  pub short : ResolvedCyclesAreShort
  pub ticks : CyclesHaveTicks
  pub divide : PeriodsDivideCycle
  pub lawful : RowsAreLawful
  pub shallow : RowsAreShallow
  pub reading : RowsReadTheirLeaves
