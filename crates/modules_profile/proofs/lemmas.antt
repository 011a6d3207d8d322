-- Lemmas that proofs of the crates above use.
pub mod SystemsInside
pub mod Members
pub mod MaskBits
pub mod OwnRows
pub mod PortRows
pub mod LawfulSteps
pub mod NodeReach
pub mod InputMasks
pub mod Masks
pub mod PlaceSteps
