-- Worked texts of types.
use Rattle.std.specs.Prelude.{◌≡◌, refl, true, false, Ok, Err, codes}
use Rattle.base_fixed_point.specs.declared.types.TypeFault.TheVariants.{Form, Float, Range}
use Rattle.mdl_type_texts.specs.TypeTexts.{type_meaning, Inherit, Logical, Back, Fixed}

meaning-plain : type_meaning (codes "int16")
    ≡ Ok (Fixed (record { signed = true; bits = 16; frac = 0 }))
meaning-plain = refl

meaning-boolean : type_meaning (codes "boolean")
    ≡ Ok (Fixed (record { signed = false; bits = 1; frac = 0 }))
meaning-boolean = refl

meaning-written : type_meaning (codes "fixdt(1,16,4)")
    ≡ Ok (Fixed (record { signed = true; bits = 16; frac = 4 }))
meaning-written = refl

meaning-blanks : type_meaning (codes " fixdt( true , 08,0 )")
    ≡ Ok (Fixed (record { signed = true; bits = 8; frac = 0 }))
meaning-blanks = refl

meaning-float : type_meaning (codes "half") ≡ Err Float
meaning-float = refl

meaning-wide : type_meaning (codes "fixdt(0,33,0)") ≡ Err Range
meaning-wide = refl

meaning-one_signed : type_meaning (codes "fixdt(1,1,0)") ≡ Err Range
meaning-one_signed = refl

meaning-minus : type_meaning (codes "fixdt(1,16,-4)") ≡ Err Form
meaning-minus = refl

meaning-two_parts : type_meaning (codes "fixdt(1,16)") ≡ Err Form
meaning-two_parts = refl

meaning-back : type_meaning (codes "Inherit: Inherit via back propagation") ≡ Ok Back
meaning-back = refl

meaning-logical : type_meaning
    (codes "Inherit: Logical (see Configuration Parameters: Optimization)") ≡ Ok Logical
meaning-logical = refl

meaning-rule : type_meaning (codes "Inherit: auto") ≡ Ok Inherit
meaning-rule = refl

meaning-other : type_meaning (codes "int64") ≡ Err Form
meaning-other = refl
