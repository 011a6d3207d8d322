-- Types that show the same numbers are the same.
use Rattle.std.specs.Prelude.{◌≡◌, ℕ, Bool}
use mathlib.Core.HLevel.{is_prop→PathP}
use Rattle.std.specs.Coded.{le_prop}
use Rattle.base_fixed_point.specs.declared.FixType.{FixType}
use Rattle.base_fixed_point.specs.Profile.{InProfile}
use Rattle.mdl_type_texts.specs.TypeTexts.{format_of}

profile-prop : (s : Bool) (b f : ℕ) → IsProp (InProfile s b f)
profile-prop s b f = hlevel (le_prop)

pub type-equal : (t u : FixType) → format_of t ≡ format_of u → t ≡ u
type-equal t u p = λ i. record {
  signed = (p i).signed;
  bits = (p i).bits;
  frac = (p i).frac;
  in_profile = is_prop→PathP (λ j. InProfile (p j).signed (p j).bits (p j).frac) (λ j. profile-prop _ _ _) t.in_profile u.in_profile i;
}
