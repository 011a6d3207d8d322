-- The types of inputs, as far as they are known.
use Rattle.std.specs.Prelude.{◌≡◌, ℕ, List, Some, slice_get, ℤ, ⊤}
use Rattle.base_fixed_point.specs.declared.FixType.{FixType}
use Rattle.base_fixed_point.specs.Conversion.{InType}
use Rattle.diagram_blocks.specs.declared.Op.{Op}
use Rattle.diagram_blocks.specs.declared.Op.TheVariants.{Gain, Sum, Product, Switch, Convert}
use Rattle.diagram_blocks.specs.Value.{input}

-- input i + 1 lies in its type, where that is known
abbrev pub IsOfType : List FixType → List ℤ → ℕ → Type 0
IsOfType types vs i = (t : FixType) → slice_get types i ≡ Some t → InType t (input vs i)

-- each input by whose type the expression goes lies in it
abbrev pub AreTypesOf : Op → List FixType → List ℤ → Type 0
AreTypesOf (Gain m frac to how) types vs = IsOfType types vs 0
AreTypesOf (Sum count minus fracs to how) types vs = (i : ℕ) → IsOfType types vs i
AreTypesOf (Product count frac to how) types vs = (i : ℕ) → IsOfType types vs i
AreTypesOf (Switch criterion threshold fracs to how) types vs = (i : ℕ) → IsOfType types vs i
AreTypesOf (Convert frac to how) types vs = IsOfType types vs 0
AreTypesOf _ types vs = ⊤
