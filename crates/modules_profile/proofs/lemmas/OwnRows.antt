-- What a system's own rows, its ports and the rows of its functions are, for the crates above.
pub use Rattle.modules_profile.proofs.FunctionRows.{given, beside, outs-are}
pub use Rattle.modules_profile.proofs.OwnHeaders.{by_port_mapped}
pub use Rattle.modules_profile.proofs.lemmas.PortRows.{of-rows, of-ports}
pub use Rattle.modules_profile.proofs.lemmas.LawfulSteps.{differ-at, of-flat_map}
