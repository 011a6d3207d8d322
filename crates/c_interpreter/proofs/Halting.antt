-- The numbers of places.
use Rattle.std.proofs.Common.{◌≡◌, ◌∙◌, ap, ℕ, ◌+◌, ◌*◌, ◌<◌}
use Rattle.std.proofs.Math.Arith.{digits_div, digits_mod}
use Rattle.c_syntax.specs.declared.fault.Why.{Why}
use Rattle.c_semantics.specs.Values.{stuck_at}
use Rattle.c_interpreter.specs.Halts.{stuck_of, why_of}

pub stuck_is : (line code : ℕ) (why : Why) → code < 8 → why_of code ≡ why → stuck_of (line * 8 + code) ≡ stuck_at line why
stuck_is line code why small same =
    λ i. record { line = digits_div line small i; why = (ap why_of (digits_mod line small) ∙ same) i }
