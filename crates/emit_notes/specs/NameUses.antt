-- What the names in code stand for.
use Rattle.std.specs.Prelude.{ℕ, ◌==◌, if◌then◌else◌, min, List, [], ◌∷◌, codes, bytes_eq}
use Rattle.std.specs.Str.Parse.{digits_value}
use Rattle.base_numerals.specs.Literals.{is_numeral}
use Rattle.emit_notes.specs.declared.name_uses.NameUse.{NameUse}
use Rattle.emit_notes.specs.declared.name_uses.NameUse.TheVariants.{Value, Memory, OldestPlace, SampleCount, System, Group, Output, Input, Trigger, Top, Tick, Other}

-- a letter with a number
abbrev pub numbered_use : (letter number : ℕ) → NameUse
numbered_use letter n =
    if letter == 118 then Value n
    else (if letter == 109 then Memory n
    else (if letter == 112 then OldestPlace n
    else (if letter == 110 then SampleCount n
    else (if letter == 115 then System n
    else (if letter == 107 then Group n
    else (if letter == 121 then Output n
    else (if letter == 117 then Input n
    else Other)))))))

-- the number that digits write; one that doesn't fit 64 bits counts as the greatest that does
abbrev pub number_of : List ℕ → ℕ
number_of digits = min (digits_value 10 digits) 18446744073709551615

-- a letter with these bytes after it
abbrev pub use_after : (letter : ℕ) → List ℕ → NameUse
use_after letter digits =
    if is_numeral digits then numbered_use letter (number_of digits) else Other

-- a name that is no word
abbrev pub use_by_letter : List ℕ → NameUse
use_by_letter [] = Other
use_by_letter (letter ∷ digits) = use_after letter digits

abbrev pub use_of : List ℕ → NameUse
use_of name =
    if bytes_eq name (codes "w") then Trigger
    else (if bytes_eq name (codes "top") then Top
    else (if bytes_eq name (codes "now") then Tick
    else use_by_letter name))
