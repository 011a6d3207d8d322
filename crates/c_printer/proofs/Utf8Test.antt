-- Whether a text is UTF-8.
use Rattle.std.proofs.Common.{◌≡◌, refl, sym, ℕ, List, Bool, true, false, Result, Ok, Err, is_ok}
use Rattle.std.specs.Prelude.{MatchResult, IsUtf8}
use Rattle.std.specs.Str.{is_utf8}
use Rattle.std.proofs.lemmas.Str.{IsUtf8-from_is_utf8, is_utf8-from_IsUtf8}

pub utf8-tested : {S E : Type 0} (P : S → Type 0) (Q : E → Type 0) (r : Result S E) (bs : List ℕ) →
    MatchResult r (λ s. P s × IsUtf8 bs) (λ e. (IsUtf8 bs → ⊥) × Q e) → is_ok r ≡ is_utf8 bs
utf8-tested P Q (Ok s) bs h = sym (is_utf8-from_IsUtf8 bs h.1)
utf8-tested P Q (Err e) bs h = by (is_utf8 bs) refl
  where
    by : (t : Bool) → is_utf8 bs ≡ t → false ≡ t
    by true valid = absurd (h.0 (IsUtf8-from_is_utf8 bs valid))
    by false invalid = refl
