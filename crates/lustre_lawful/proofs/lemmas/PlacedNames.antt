-- Names in lists in which none is twice, their places, and the nodes of a model's file by their names, for the crates above.
pub use Rattle.lustre_lawful.proofs.Counts.{times, Once, once-from, times-of, of-times, new-name}
pub use Rattle.lustre_lawful.proofs.Places.{place-here, place-later, place-below, place-tells, given-renamed}
pub use Rattle.lustre_lawful.proofs.NumberedNames.{value-injective, sample-injective, part-injective}
pub use Rattle.lustre_lawful.proofs.RowTexts.{row_given, given-are}
pub use Rattle.lustre_lawful.proofs.SystemTexts.{system_given, system-given}
pub use Rattle.lustre_lawful.proofs.SystemNames.{few-numbers, system_names_are_distinct, systems_give_their_names}
pub use Rattle.lustre_lawful.proofs.NodePlaces.{names_of, found-node, placed-texts, function-there}
pub use Rattle.lustre_lawful.proofs.SystemOrder.{systems-sorted}
pub use Rattle.lustre_lawful.proofs.IntTypes.{inputs-typed, outputs-typed}
