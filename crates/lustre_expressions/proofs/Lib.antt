pub mod lemmas
mod Walks
mod NameLaws
mod FirstPlaces
