-- Lemmas that proofs of the crates above use.
pub mod NextStands
pub mod RingLaws
pub mod LocalTickLaws
pub mod Cycles
pub mod ChildTicks
pub mod TypedTicks
pub mod BudgetSums
pub mod NeededNodes
pub mod EarlierGroups
pub mod HeldOutports
pub mod SoundSystems
pub mod StandingShapes
pub mod ExecutedFields
pub mod ExecutedCode
pub mod SlotMembers
pub mod Containers
