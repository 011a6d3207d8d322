-- The types with a name.
use Rattle.std.specs.Prelude.{true, false}
use Rattle.std.proofs.Common.{lit≤}
use Rattle.base_fixed_point.specs.declared.types.FixType.{FixType}

-- 8 bits with a sign
abbrev pub int8 : FixType
int8 = record { signed = true; bits = 8; frac = 0; in_profile = (lit≤ tt, lit≤ tt, lit≤ tt) }

-- 16 bits with a sign
abbrev pub int16 : FixType
int16 = record { signed = true; bits = 16; frac = 0; in_profile = (lit≤ tt, lit≤ tt, lit≤ tt) }

-- 32 bits with a sign
abbrev pub int32 : FixType
int32 = record { signed = true; bits = 32; frac = 0; in_profile = (lit≤ tt, lit≤ tt, lit≤ tt) }

-- 8 bits without a sign
abbrev pub uint8 : FixType
uint8 = record { signed = false; bits = 8; frac = 0; in_profile = (lit≤ tt, lit≤ tt, lit≤ tt) }

-- 16 bits without a sign
abbrev pub uint16 : FixType
uint16 = record { signed = false; bits = 16; frac = 0; in_profile = (lit≤ tt, lit≤ tt, lit≤ tt) }

-- 32 bits without a sign
abbrev pub uint32 : FixType
uint32 = record { signed = false; bits = 32; frac = 0; in_profile = (lit≤ tt, lit≤ tt, lit≤ tt) }

-- one bit without a sign
abbrev pub boolean : FixType
boolean = record { signed = false; bits = 1; frac = 0; in_profile = (lit≤ tt, lit≤ tt, lit≤ tt) }
