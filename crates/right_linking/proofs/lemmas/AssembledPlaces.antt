-- Where the parts are of a program that is put together from the last code to the first, for the crates above.
pub use Rattle.right_linking.proofs.FirstPlaces.{down, append-append, IsFirst, first-position, first-of, mapped-length}
pub use Rattle.right_linking.proofs.SystemOrder.{stands-once}
pub use Rattle.right_linking.proofs.SystemPlaces.{member, all-made, code-is, system-of, structs-down, procedures-down, below-codes}
pub use Rattle.right_linking.proofs.ProcedurePlaces.{own-procedure}
pub use Rattle.right_linking.proofs.OfferedPlaces.{positions}
pub use Rattle.right_linking.proofs.RootPlaces.{in-down, length-down}
