-- The children of a system, and the names of what a system offers, for the crates above.
pub use Rattle.right_linking.proofs.FirstPlaces.{at-down}
pub use Rattle.right_linking.proofs.LawfulBodies.{all-append}
pub use Rattle.right_linking.proofs.ChildSlots.{IsOfChild, of-child, has-child}
pub use Rattle.right_linking.proofs.NamedCodes.{prefix-range, any-true, any-false, numbered-is, name-apart, prefix-is}
pub use Rattle.right_linking.proofs.OfferedPlaces.{behind, child-found}
