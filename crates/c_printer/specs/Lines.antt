-- Lines of the text, with the notes on them.
use Rattle.std.specs.Prelude.{ℕ, ◌+◌, nat_le, if◌then◌else◌, List, [], ◌∷◌, ◌++◌, length, replicate}
use Rattle.c_printer.specs.Comments.{comment_bytes}

-- the blanks that a line begins with
abbrev pub margin_bytes : ℕ → List ℕ
margin_bytes margin = replicate margin 32

-- a text and the end of its line
abbrev pub ended : List ℕ → List ℕ
ended text = text ++ 10 ∷ []

-- a note on a line of its own, if there is one
abbrev pub note_line : ℕ → List ℕ → List ℕ
note_line margin [] = []
note_line margin (b ∷ bs) = ended (margin_bytes margin ++ comment_bytes (b ∷ bs))

-- the most bytes of a line with code and a comment
abbrev pub column_limit : ℕ
column_limit = 100

-- a line of code with a comment: after it where both go on one line, else above it
abbrev pub commented_line : ℕ → List ℕ → List ℕ → List ℕ
commented_line margin comment code =
    if nat_le (margin + length code + 1 + length comment) column_limit
    then ended (margin_bytes margin ++ code ++ 32 ∷ comment)
    else ended (margin_bytes margin ++ comment) ++ ended (margin_bytes margin ++ code)

-- a line of code with its note
abbrev pub noted_line : ℕ → List ℕ → List ℕ → List ℕ
noted_line margin [] code = ended (margin_bytes margin ++ code)
noted_line margin (b ∷ bs) code = commented_line margin (comment_bytes (b ∷ bs)) code
