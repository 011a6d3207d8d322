-- The C types that hold the numbers of types.
use Rattle.std.specs.Prelude.{◌≡◌, ◌⊎◌, ℕ, ◌-◌, ◌^◌, ◌<◌, ◌≤◌, Bool, true, false, nat_le, if◌then◌else◌, ◌&&◌, ℤ, pos, neg_ℤ, ◌≤ℤ◌, int_le}
use Rattle.std.proofs.Common.{refl, sym, subst, arith, lit<, inl, inr}
use Rattle.std.proofs.Math.Nat.{pow-le-pow_right}
use Rattle.std.proofs.lemmas.Bool.{and_from, leb-true}
use Rattle.std.proofs.lemmas.Int.{ints}
use Rattle.base_fixed_point.specs.declared.FixType.{FixType}
use Rattle.base_fixed_point.specs.Conversion.{InType}
use Rattle.c_syntax.specs.declared.CType.{CType}
use Rattle.c_syntax.specs.declared.CType.TheVariants.{I8, U8, I16, U16, I32, U32, I64}
use Rattle.c_semantics.specs.Values.{is_in_type, least_of, greatest_of}
use Rattle.emit_shape.specs.Names.{container}

int-le : (a b : ℤ) → a ≤ℤ b → int_le a b ≡ true
int-le a b h = by (int_le a b) refl
  where
    by : (t : Bool) → int_le a b ≡ t → t ≡ true
    by true e = refl
    by false e = absurd (omega (arith, ints, h, e))

-- numbers of so many bits are numbers of more
abbrev Within : ℤ → ℤ → ℤ → Type 0
Within least greatest v = (least ≤ℤ v) × (v ≤ℤ greatest)

more-below : (a b : ℕ) (v : ℤ) → a ≤ b → v ≤ℤ pos (a - 1) → v ≤ℤ pos (b - 1)
more-below a b v p h = omega (arith, ints, p, h)

more-above : (a b : ℕ) (v : ℤ) → a ≤ b → neg_ℤ (pos a) ≤ℤ v → neg_ℤ (pos b) ≤ℤ v
more-above a b v p h = omega (arith, ints, p, h)

signed-more : (m n : ℕ) (v : ℤ) → m ≤ n → Within (neg_ℤ (pos (2 ^ m))) (pos (2 ^ m - 1)) v →
    Within (neg_ℤ (pos (2 ^ n))) (pos (2 ^ n - 1)) v
signed-more m n v h within =
    let two : 0 < 2 = lit< tt in
    let p : 2 ^ m ≤ 2 ^ n = pow-le-pow_right two h in (more-above (2 ^ m) (2 ^ n) v p within.0, more-below (2 ^ m) (2 ^ n) v p within.1)

unsigned-more : (m n : ℕ) (v : ℤ) → m ≤ n → Within (pos 0) (pos (2 ^ m - 1)) v → Within (pos 0) (pos (2 ^ n - 1)) v
unsigned-more m n v h within =
    let two : 0 < 2 = lit< tt in
    let p : 2 ^ m ≤ 2 ^ n = pow-le-pow_right two h in (within.0, more-below (2 ^ m) (2 ^ n) v p within.1)

both : (least greatest v : ℤ) → Within least greatest v → (int_le least v && int_le v greatest) ≡ true
both least greatest v within = and_from _ _ (int-le least v within.0) (int-le v greatest within.1)

-- in the range of a type with these bits, with a sign or without
abbrev IsBetween : ℕ → ℤ → Bool → Type 0
IsBetween bits v s =
    ((if s then neg_ℤ (pos (2 ^ (bits - 1))) else pos 0) ≤ℤ v) × (v ≤ℤ (if s then pos (2 ^ (bits - 1) - 1) else pos (2 ^ bits - 1)))

-- the numbers of a type are numbers of its container
pub container-has : (t : FixType) (v : ℤ) → InType t v → is_in_type (container t) v ≡ true
container-has t v within = by t.signed (nat_le t.bits 8) (nat_le t.bits 16) refl refl refl
  where
    bits_fit : t.bits ≤ 32
    bits_fit = t.in_profile.1

    by : (s b8 b16 : Bool) → t.signed ≡ s → nat_le t.bits 8 ≡ b8 → nat_le t.bits 16 ≡ b16 →
        is_in_type (if b8 then (if s then I8 else U8) else (if b16 then (if s then I16 else U16) else (if s then I32 else U32))) v ≡ true
    by true true b16 e small more =
        both _ _ v (signed-more (t.bits - 1) 7 v (let h = leb-true t.bits 8 small in omega (arith, h))
        (subst (IsBetween t.bits v) e within))
    by true false true e large small =
        both _ _ v (signed-more (t.bits - 1) 15 v (let h = leb-true t.bits 16 small in omega (arith, h))
        (subst (IsBetween t.bits v) e within))
    by true false false e large more =
        both _ _ v (signed-more (t.bits - 1) 31 v (let h = bits_fit in omega (arith, h)) (subst (IsBetween t.bits v) e within))
    by false true b16 e small more = both _ _ v (unsigned-more t.bits 8 v (leb-true t.bits 8 small) (subst (IsBetween t.bits v) e within))
    by false false true e large small =
        both _ _ v (unsigned-more t.bits 16 v (leb-true t.bits 16 small) (subst (IsBetween t.bits v) e within))
    by false false false e large more = both _ _ v (unsigned-more t.bits 32 v bits_fit (subst (IsBetween t.bits v) e within))

-- 0 and 1 are numbers of each type
pub bit-fits : (t : CType) (v : ℤ) → (v ≡ pos 0) ⊎ (v ≡ pos 1) → is_in_type t v ≡ true
bit-fits t v (inl none) = subst (λ x. is_in_type t x ≡ true) (sym none) (by t)
  where
    by : (t : CType) → is_in_type t (pos 0) ≡ true
    by I8 = refl
    by U8 = refl
    by I16 = refl
    by U16 = refl
    by I32 = refl
    by U32 = refl
    by I64 = refl
bit-fits t v (inr one) = subst (λ x. is_in_type t x ≡ true) (sym one) (by t)
  where
    by : (t : CType) → is_in_type t (pos 1) ≡ true
    by I8 = refl
    by U8 = refl
    by I16 = refl
    by U16 = refl
    by I32 = refl
    by U32 = refl
    by I64 = refl

-- and so are the places of an array
pub place-fits : (k : ℕ) → k < 2 ^ 16 → is_in_type I32 (pos k) ≡ true
place-fits k short = both (least_of I32) (greatest_of I32) (pos k) (omega (arith, ints), omega (arith, ints, short))
