-- Comments that may hold any text.
use Rattle.std.specs.Prelude.{ℕ, ◌==◌, nat_le, Bool, ◌&&◌, ◌||◌, not, if◌then◌else◌, List, [], ◌∷◌, ◌++◌, take, length, slice_index, codes}
use Rattle.std.specs.Str.{is_utf8}
use Rattle.c_grammar.specs.Tokens.{is_white_space}
use Rattle.c_rules.specs.AlikeTexts.{is_quiet}

-- the most bytes of a text in a comment
abbrev pub note_limit : ℕ
note_limit = 60

-- A byte as a comment shows it: as it is, where no end of a comment, joined line or trigraph can be
-- made of it, and it is ASCII or the text is UTF-8; a tab or a line end as a blank; each other as a
-- dot.
abbrev pub shown_byte : (in_utf8 : Bool) → ℕ → ℕ
shown_byte in_utf8 b =
    if is_quiet b && (nat_le b 127 || in_utf8) then b else (if is_white_space b then 32 else 46)

-- a byte after a shown one: of two `/` in a row the second is a dot
abbrev pub byte_after : (in_utf8 : Bool) → (last b : ℕ) → ℕ
byte_after in_utf8 last b = if (b == 47) && (last == 47) then 46 else shown_byte in_utf8 b

-- a byte that is shown as it is, after whatever byte of whatever text
abbrev pub is_plain : ℕ → Bool
is_plain b = is_quiet b && nat_le b 127 && not (b == 47)

abbrev pub shown_after : (in_utf8 : Bool) → (last : ℕ) → List ℕ → List ℕ
shown_after in_utf8 last [] = []
shown_after in_utf8 last (b ∷ bs) =
    byte_after in_utf8 last b ∷ shown_after in_utf8 (byte_after in_utf8 last b) bs

-- a byte inside a character of UTF-8, which has begun before it
abbrev pub is_inside : ℕ → Bool
is_inside b = nat_le 128 b && nat_le b 191

-- where a text that is too long is cut: before the character of its byte 57, which has at most four
abbrev pub cut_place : (in_utf8 : Bool) → List ℕ → ℕ
cut_place in_utf8 text =
    if not (in_utf8 && is_inside (slice_index text 57)) then 57
    else (if not (is_inside (slice_index text 56)) then 56
    else (if not (is_inside (slice_index text 55)) then 55 else 54))

-- a text, cut where it is longer than the limit
unfoldable pub comment_text : List ℕ → List ℕ
comment_text text =
    if nat_le (length text) note_limit then shown_after (is_utf8 text) 32 text
    else shown_after (is_utf8 text) 32 (take (cut_place (is_utf8 text) text) text) ++ codes "..."

-- the comment with a text, and what is between its signs
abbrev pub comment_inside : List ℕ → List ℕ
comment_inside text = codes " " ++ comment_text text ++ codes " "

abbrev pub comment_bytes : List ℕ → List ℕ
comment_bytes text = codes "/*" ++ comment_inside text ++ codes "*/"
