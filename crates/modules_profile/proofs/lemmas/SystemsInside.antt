-- The systems directly inside a system, as the program's values and as the table have them.
pub use Rattle.modules_profile.proofs.NestedLists.{children-are, agreed-heads, agreed-child, got-mapped}
pub use Rattle.modules_profile.proofs.TreeSteps.{child-inside}
