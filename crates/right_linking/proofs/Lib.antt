pub mod lemmas
mod SampleOffers
pub mod SystemOrder
mod CodedViews
pub mod SystemNames
pub mod FirstPlaces
pub mod SystemPlaces
pub mod FieldPlaces
pub mod ProcedurePlaces
pub mod RootPlaces
mod MovedRoutines
mod SystemProcedures
pub mod LawfulBodies
pub mod ChildSlots
pub mod NamedCodes
mod CalledNames
pub mod OfferedPlaces
mod OutputPlaces
mod SystemOffers
mod RootTraces
mod RootRows
mod Derivations
