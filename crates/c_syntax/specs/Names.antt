-- The names that a program may use.
use Rattle.std.specs.Prelude.{ℕ, Bool, false, not, ◌&&◌, ◌||◌, ◌==◌, nat_eq, nat_le, List, [], ◌∷◌, reverse, slice_index_or, codes, bytes_eq}
use Rattle.std.specs.List.{list_all, list_any, starts_with}
use Rattle.std.specs.Char.{is_ascii_digit}

-- a lower-case letter
abbrev pub is_lower : ℕ → Bool
is_lower b = nat_le 97 b && nat_le b 122

-- a letter or `_`
abbrev pub is_word_start : ℕ → Bool
is_word_start b = is_lower b || (nat_le 65 b && nat_le b 90) || (b == 95)

-- a letter, a digit or `_`
abbrev pub is_word_byte : ℕ → Bool
is_word_byte b = is_word_start b || is_ascii_digit b

-- the keywords of C99 that begin with a lower-case letter
abbrev pub keywords : List (List ℕ)
keywords =
    codes "auto" ∷ codes "break" ∷ codes "case" ∷ codes "char" ∷ codes "const" ∷ codes "continue"
    ∷ codes "default" ∷ codes "do" ∷ codes "double" ∷ codes "else" ∷ codes "enum"
    ∷ codes "extern" ∷ codes "float" ∷ codes "for" ∷ codes "goto" ∷ codes "if" ∷ codes "inline"
    ∷ codes "int" ∷ codes "long" ∷ codes "register" ∷ codes "restrict" ∷ codes "return"
    ∷ codes "short" ∷ codes "signed" ∷ codes "sizeof" ∷ codes "static" ∷ codes "struct"
    ∷ codes "switch" ∷ codes "typedef" ∷ codes "union" ∷ codes "unsigned" ∷ codes "void"
    ∷ codes "volatile" ∷ codes "while" ∷ []

-- a text begins with a lower-case letter
abbrev pub starts_lower : List ℕ → Bool
starts_lower [] = false
starts_lower (b ∷ bs) = is_lower b

-- a text ends with another
abbrev pub ends_with : List ℕ → List ℕ → Bool
ends_with text end = starts_with nat_eq (reverse text) (reverse end)

-- a name: a lower-case letter, then letters, digits and `_`; it doesn't end with `_t`, and is no
-- keyword and not `s`
abbrev pub is_name : List ℕ → Bool
is_name text =
    starts_lower text && list_all is_word_byte text && not (ends_with text (codes "_t"))
    && not (list_any (bytes_eq text) keywords) && not (bytes_eq text (codes "s"))

-- the name at a position, and none past the end
abbrev pub name_at : List (List ℕ) → ℕ → List ℕ
name_at names k = slice_index_or names k []
