pub mod lemmas
mod Lists
mod FewFunctions
mod PublicProcedures
mod OwnNames
mod OutCounts
mod KeptPlaces
mod RefinedCalls
mod RefinedTraces
mod RefinedScripts
mod RefinedStarts
mod RefinedFaces
mod RefinedCode
