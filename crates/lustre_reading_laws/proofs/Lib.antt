pub mod lemmas
mod Depths
mod WellWritten
mod ResolvedValues
mod GivenNames
mod ResolvedEquations
mod DistinctNames
mod LawfulNodes
mod LawfulReadings
mod SpelledLists
mod SpelledExprs
mod SpelledNodes
mod OpeningDepths
