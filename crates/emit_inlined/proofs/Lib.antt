pub mod lemmas
mod ChainsInlined
mod DepthsInlined
mod InlinedLawful
mod InlinedRefines
mod LinesInlined
mod CountLaws
mod PlaceLaws
mod FoundHelpers
mod InlinedLists
