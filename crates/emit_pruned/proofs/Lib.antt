pub mod lemmas
mod KeptFunctions
mod RunsAlike
mod Closed
mod LawfulBodies
mod LawfulPruned
mod NoneIdle
mod FlagLaws
mod PlaceLaws
