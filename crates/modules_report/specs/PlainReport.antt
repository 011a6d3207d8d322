-- What contracts see of a report.
use Rattle.std.specs.Prelude.{ℕ, List, Option}
use Rattle.base_core.specs.declared.Port.{Port}
use Rattle.modules_certificate.specs.PlainCertificate.{PlainCertificate}
use Rattle.modules_profile.specs.SystemProfile.{SystemProfile}

pub record PlainReport : Type 0 where
  pub row : Option ℕ
  pub inputs : ℕ
  pub controls : List Port
  pub outputs : ℕ
  pub profile : SystemProfile
  pub certificate : PlainCertificate
