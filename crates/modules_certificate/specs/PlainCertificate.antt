-- What contracts see of a certificate.
use Rattle.std.specs.Prelude.{ℕ, List}
use Rattle.modules_certificate.specs.declared.certificate.Difference.{Difference}

-- outputs, and for each two places in their list a bit in which their needs differ
pub record PlainCertificate : Type 0 where
  pub representatives : List ℕ
  pub differ : List Difference
