-- The names of systems and of their procedures, for the crates above.
pub use Rattle.right_linking.proofs.SystemNames.{bytes-same, bytes-apart, front-one, IsNumbered, system-plain, system-one, root-apart, procedures-apart}
pub use Rattle.right_linking.proofs.SystemPlaces.{BelongsTo, numbered, row-is, procedure-belongs, struct-name}
pub use Rattle.right_linking.proofs.ProcedurePlaces.{own-names-differ, own-place, head-there}
pub use Rattle.right_linking.proofs.FieldPlaces.{last-struct, slots-differ, moved-names}
