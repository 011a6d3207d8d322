-- Types with the same numbers are one.
use Rattle.std.specs.Prelude.{◌≡◌, ℕ, Bool}
use mathlib.Core.HLevel.{is_prop→PathP}
use Rattle.std.specs.Coded.{le_prop}
use Rattle.base_fixed_point.specs.declared.FixType.{FixType}
use Rattle.base_fixed_point.specs.Profile.{InProfile}

profile-prop : (s : Bool) (b f : ℕ) → IsProp (InProfile s b f)
profile-prop s b f = hlevel (le_prop)

pub type-equal : (t u : FixType) → t.signed ≡ u.signed → t.bits ≡ u.bits → t.frac ≡ u.frac → t ≡ u
type-equal t u p q r = λ i. record {
  signed = p i;
  bits = q i;
  frac = r i;
  in_profile = is_prop→PathP (λ j. InProfile (p j) (q j) (r j)) (λ j. profile-prop _ _ _) t.in_profile u.in_profile i;
}
