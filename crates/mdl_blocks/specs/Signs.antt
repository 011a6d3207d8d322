-- How many inputs a text gives, and which of them are subtracted.
use Rattle.std.specs.Prelude.{ℕ, ◌+◌, ◌*◌, ◌==◌, Bool, false, not, ◌&&◌, ◌||◌, nat_le, if◌then◌else◌, List, [], ◌∷◌, map, filter, length, replicate, Option, Some, None, option_map}
use Rattle.std.specs.List.{list_all}
use Rattle.std.specs.Option.{option_or}
use Rattle.diagram_blocks.specs.declared.Logic.{Logic}
use Rattle.diagram_blocks.specs.declared.Logic.TheVariants.{Not}
use Rattle.mdl_blocks.specs.declared.signs.SignMask.{SignMask}
use Rattle.mdl_blocks.specs.Words.{number_up_to}

-- the list, where it has 1 to 16 items
abbrev pub up_to_16 : {A : Type 0} → List A → Option (List A)
up_to_16 items = if nat_le 1 (length items) && nat_le (length items) 16 then Some items else None

-- the signs of a text, whose bars don't count: true for a minus
abbrev pub signs_of : List ℕ → List Bool
signs_of text = map (λ c. c == 45) (filter (λ c. not (c == 124)) text)

-- whether a text has only signs and bars
abbrev pub are_signs : List ℕ → Bool
are_signs text = list_all (λ c. c == 43 || c == 45 || c == 124) text

-- the signs of a text that has only 1 to 16 signs, and bars
abbrev pub written_signs : List ℕ → Option (List Bool)
written_signs text = if are_signs text then up_to_16 (signs_of text) else None

-- so many pluses
abbrev pub pluses : ℕ → List Bool
pluses n = replicate n false

-- the signs of a sum's inputs: as many pluses as a number says, or those of a text
abbrev pub signs_in : List ℕ → Option (List Bool)
signs_in text = option_or (option_map pluses (number_up_to 16 text)) (written_signs text)

-- the signs as a number: bit i is set where sign i + 1 is a minus
abbrev pub minus_mask : List Bool → ℕ
minus_mask [] = 0
minus_mask (minus ∷ signs) = (if minus then 1 else 0) + 2 * minus_mask signs

-- the mask of some signs, with one more in front where the byte is no bar
abbrev pub mask_with : (byte mask : ℕ) → ℕ
mask_with byte mask = if byte == 124 then mask else (if byte == 45 then 1 else 0) + 2 * mask

-- how many signs there are, and which are minuses
abbrev pub mask_of : List Bool → SignMask
mask_of signs = record { count = length signs; minus = minus_mask signs }

-- the signs of a sum's inputs, as a mask
abbrev pub sum_signs : List ℕ → Option SignMask
sum_signs text = option_map mask_of (signs_in text)

-- whether a text has only stars
abbrev pub are_stars : List ℕ → Bool
are_stars text = list_all (λ c. c == 42) text

-- how many stars a text has that is made of 1 to 16 stars
abbrev pub star_count : List ℕ → Option ℕ
star_count text = if are_stars text then option_map length (up_to_16 text) else None

-- how many inputs a product's text gives: a number, or as many as there are stars
abbrev pub product_count : List ℕ → Option ℕ
product_count text = option_or (number_up_to 16 text) (star_count text)

-- how many inputs a logical operator has: one for the negation, whatever is written
abbrev pub logic_count : Logic → List ℕ → Option ℕ
logic_count Not text = Some 1
logic_count _ text = number_up_to 16 text
