-- What a certificate has that was made from needs.
pub use Rattle.modules_certificate.proofs.Chosen.{few}
pub use Rattle.modules_certificate.proofs.Made.{made}
pub use Rattle.modules_certificate.proofs.Pairs.{places-below}
