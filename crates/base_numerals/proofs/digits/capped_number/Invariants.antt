use Rattle.std.proofs.Common.{◌≡◌, min, take}
use Rattle.std.specs.Str.Parse.{digits_value}
use Rattle.base_numerals.proofs.digits.capped_number.Given as goal

-- the number of the digits so far, capped
abbrev pub invariant-loop-digit : goal.invariant-loop-digit
invariant-loop-digit l = l.number ≡ min (digits_value 10 (take l.digit-index l.digits)) l.most
