pub mod lemmas
mod AnyFunctions
mod TestsBack
mod FusedReads
mod FusedBodies
mod FusedRules
mod FusedShape
mod FusedCode
