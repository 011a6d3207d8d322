-- Lemmas that proofs of the crates above use.
pub mod WrittenNumbers
pub mod Writable
pub mod RowLaws
pub mod TestLaws
pub mod DepthLaws
pub mod ReadingLaws
pub mod LawfulLaws
pub mod LawfulTests
pub mod StatementLaws
pub mod RingLaws
pub mod StatementRules
pub mod BalancedLaws
pub mod Conversions
pub mod RangeLaws
