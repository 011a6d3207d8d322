-- Worked texts of numbers.
use Rattle.std.specs.Prelude.{◌≡◌, refl, Ok, Err, pos, negsuc, codes}
use Rattle.base_core.specs.declared.base.NumFault.TheVariants.{Form, Range}
use Rattle.base_numerals.specs.Literals.{number_value, frac_parts}

value-tenth : number_value (codes "0.1") ≡ Ok (record { num = pos 1; den = 10 })
value-tenth = refl

value-fifth : number_value (codes "1/50") ≡ Ok (record { num = pos 1; den = 50 })
value-fifth = refl

value-gain : number_value (codes "2.5") ≡ Ok (record { num = pos 5; den = 2 })
value-gain = refl

value-minus : number_value (codes "-7") ≡ Ok (record { num = negsuc 6; den = 1 })
value-minus = refl

value-plus_power : number_value (codes "+1.5e2") ≡ Ok (record { num = pos 150; den = 1 })
value-plus_power = refl

value-point_last : number_value (codes "5.") ≡ Ok (record { num = pos 5; den = 1 })
value-point_last = refl

value-point_first : number_value (codes " .5 ") ≡ Ok (record { num = pos 1; den = 2 })
value-point_first = refl

value-bracketed : number_value (codes "[ 5]") ≡ Err Form
value-bracketed = refl

value-bracket : number_value (codes "[5e-3]") ≡ Ok (record { num = pos 1; den = 200 })
value-bracket = refl

value-truth : number_value (codes "true") ≡ Ok (record { num = pos 1; den = 1 })
value-truth = refl

value-bracket_false : number_value (codes "[false]") ≡ Ok (record { num = pos 0; den = 1 })
value-bracket_false = refl

value-nothing : number_value (codes "") ≡ Err Form
value-nothing = refl

value-point : number_value (codes ".") ≡ Err Form
value-point = refl

value-no_exponent : number_value (codes "1e") ≡ Err Form
value-no_exponent = refl

value-over_zero : number_value (codes "1/0") ≡ Err Form
value-over_zero = refl

value-nested : number_value (codes "[[5]]") ≡ Err Form
value-nested = refl

value-digits_18 : number_value (codes "000999999999999999999")
    ≡ Ok (record { num = pos 999999999999999999; den = 1 })
value-digits_18 = refl

value-digits_19 : number_value (codes "1000000000000000000") ≡ Err Range
value-digits_19 = refl

value-power_19 : number_value (codes "1e19") ≡ Err Range
value-power_19 = refl

value-power_low : number_value (codes "0.0000000000000000001") ≡ Err Range
value-power_low = refl

value-power_back : number_value (codes "0.0000000000000000001e1")
    ≡ Ok (record { num = pos 1; den = 1000000000000000000 })
value-power_back = refl

value-zero_power : number_value (codes "0e999999999999999999")
    ≡ Ok (record { num = pos 0; den = 1 })
value-zero_power = refl

value-zero_power_long : number_value (codes "0e0000000000000000000") ≡ Err Range
value-zero_power_long = refl

value-seconds : number_value (codes "1.000003") ≡ Ok (record { num = pos 1000003; den = 1000000 })
value-seconds = refl

value-third : number_value (codes "-4/6") ≡ Ok (record { num = negsuc 1; den = 3 })
value-third = refl

value-none_of_five : number_value (codes "0/5") ≡ Ok (record { num = pos 0; den = 1 })
value-none_of_five = refl

frac-half : frac_parts (pos 1) 2 ≡ Ok (1, 2)
frac-half = refl

frac-most : frac_parts (pos 1000000000) 1 ≡ Ok (1000000000, 1)
frac-most = refl

frac-beyond : frac_parts (pos 1) 1000000001 ≡ Err Range
frac-beyond = refl

frac-negative : frac_parts (negsuc 0) 2 ≡ Err Range
frac-negative = refl
