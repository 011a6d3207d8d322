-- Texts whose tokens C99 reads as this reader does, by the first three phases of its translation
-- (C99, 5.1.1.2): there is no trigraph, no joined line and no comment up to a line's end, no two
-- signs that C99 takes for another token, and each comment is apart and holds nothing that
-- could end it earlier. In the grammar no word follows a number, so numbers are read alike.
use Rattle.std.specs.Prelude.{ℕ, zero, suc, ◌+◌, ◌-◌, Bool, true, false, not, ◌&&◌, ◌==◌, nat_le, if◌then◌else◌, List, [], ◌∷◌, take, drop, Option, Some, None, codes}
use Rattle.std.specs.List.{list_all, list_any}
use Rattle.c_grammar.specs.Tokens.{is_white_space, is_double_sign, comment_end}

-- ---- Neighbours

-- a byte of which C99 makes tokens together with a neighbour
abbrev pub is_joining : ℕ → Bool
is_joining b = list_any (λ sign. sign == b) (codes "!#%&*+-/:<=>?^|")

-- two neighbours that are no token of two signs here and may be one of C99: `++`, `//`, `<<`, `??`
abbrev pub joins : ℕ → ℕ → Bool
joins b c = is_joining c && (is_joining b && not (is_double_sign b c))

-- what joins a line to the next one, where it is last
abbrev pub is_splice : ℕ → Bool
is_splice b = b == 92

-- ---- Comments

-- neither a control byte nor one of which ends of comments, joined lines and trigraphs are made
abbrev pub is_quiet : ℕ → Bool
is_quiet b = nat_le 32 b && not (b == 127) && not (b == 42) && not (is_splice b) && not (b == 63)

-- no `/` is next to another, or last, where the comment's end would follow it
abbrev pub slashes_apart : List ℕ → Bool
slashes_apart [] = true
slashes_apart (b ∷ []) = not (b == 47)
slashes_apart (b ∷ c ∷ cs) = not ((b == 47) && (c == 47)) && slashes_apart (c ∷ cs)

-- the text ends, or goes on with a blank or a line end
abbrev pub is_apart : List ℕ → Bool
is_apart [] = true
is_apart (b ∷ bs) = is_white_space b

-- from after the `/*` of a comment on, whose end is so many bytes away
abbrev pub is_quiet_comment : Option ℕ → List ℕ → Bool
is_quiet_comment None bs = false
is_quiet_comment (Some n) bs =
    list_all is_quiet (take (n - 2) bs) && slashes_apart (take (n - 2) bs) && is_apart (drop n bs)

-- whether a comment begins with a byte and those after it, and how many of these it has
abbrev pub begins_comment : ℕ → List ℕ → Bool
begins_comment b [] = false
begins_comment b (c ∷ cs) = (b == 47) && (c == 42)

abbrev pub after_star : Option ℕ → ℕ
after_star None = 0
after_star (Some n) = 1 + n

abbrev pub comment_rest : ℕ → List ℕ → ℕ
comment_rest b bs = if begins_comment b bs then after_star (comment_end (drop 1 bs)) else 0

-- ---- The whole

-- a byte between these: a comment that is apart begins there, or nothing that C99 reads
-- otherwise
abbrev pub is_alike_at : (before b : ℕ) → List ℕ → Bool
is_alike_at before b [] = not (is_splice b)
is_alike_at before b (c ∷ cs) =
    if begins_comment b (c ∷ cs)
    then is_white_space before && is_quiet_comment (comment_end cs) cs
    else not (is_splice b) && not (joins b c)

-- after a byte, of a text whose first `skip` bytes belong to a comment
abbrev pub is_alike_from : (skip before : ℕ) → List ℕ → Bool
is_alike_from skip before [] = true
is_alike_from zero before (b ∷ bs) =
    is_alike_at before b bs && is_alike_from (comment_rest b bs) b bs
is_alike_from (suc skip) before (b ∷ bs) = is_alike_from skip b bs

-- the text is read alike
abbrev pub is_alike : List ℕ → Bool
is_alike bytes = is_alike_from 0 10 bytes
