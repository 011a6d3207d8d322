use Rattle.std.proofs.Common.{◌≡◌, drop}
use Rattle.std.specs.Str.Parse.{digits_value_after, AllDigits}
use Rattle.base_numerals.proofs.digits.append_digits.Given as goal

-- the digits that are left, after the number so far, write the whole
abbrev pub invariant-loop-digit : goal.invariant-loop-digit
invariant-loop-digit l = record {
  digits : AllDigits 10 (drop l.digit-index l.digits);
  value : digits_value_after 10 l.number (drop l.digit-index l.digits) ≡ digits_value_after 10 l.fn.front l.digits;
}
