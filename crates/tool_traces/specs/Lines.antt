-- The lines of a trace or a script.
use Rattle.std.specs.Prelude.{ℕ, suc, ◌+◌, ◌-◌, Bool, true, false, ◌&&◌, ◌||◌, List, [], ◌∷◌, length, drop, slice_index, nat_lt, nat_le, ◌==◌, if◌then◌else◌}
use Rattle.std.specs.List.{position_or_len, slice_split}
use Rattle.std.specs.Str.Lines.{strip_carriage_return}
use Rattle.tool_traces.specs.declared.lines.Next.{Next}
use Rattle.tool_traces.specs.declared.lines.Next.TheVariants.{Line, More, Long, End}

-- the greatest length of a line without its end
abbrev pub longest : ℕ
longest = 4096

-- how many of the bytes before a byte 10 belong to the line: all but a byte 13 directly before it
abbrev pub kept_len : List ℕ → ℕ → ℕ
kept_len text len = if nat_lt 0 len && slice_index text (len - 1) == 13 then len - 1 else len

-- the line from a place on, with the text there, which has so many bytes before its first byte 10
abbrev pub ended_line : ℕ → List ℕ → ℕ → Next
ended_line from text len =
    if nat_le (kept_len text len) longest then Line from (from + kept_len text len) (from + len + 1)
    else Long

-- the same where the text there has no byte 10, and the whole text is at its end or not
abbrev pub unended_line : ℕ → List ℕ → Bool → Next
unended_line from text true =
    if length text == 0 then End
    else if nat_le (length text) longest then Line from (from + length text) (from + length text)
    else Long
unended_line from text false =
    if nat_le (length text) longest
    || (length text == suc longest && slice_index text longest == 13) then More else Long

-- the line from a place on, with the text there
abbrev pub line_at : ℕ → List ℕ → Bool → Next
line_at from text ended =
    let len = position_or_len (λ c. c == 10) text in
    if len == length text then unended_line from text ended else ended_line from text len

-- the next line from a place on, in bytes that are the whole text or its beginning
abbrev pub next_line_of : List ℕ → ℕ → Bool → Next
next_line_of bytes from ended = line_at from (drop from bytes) ended

-- the parts between bytes 10 as lines: all but the last, without a byte 13 directly before the end
abbrev pub ended_parts : List (List ℕ) → List (List ℕ)
ended_parts [] = []
ended_parts (x ∷ []) = []
ended_parts (x ∷ y ∷ more) = strip_carriage_return x ∷ ended_parts (y ∷ more)

-- the whole lines of a text: those that have their end
abbrev pub whole_lines : List ℕ → List (List ℕ)
whole_lines text = ended_parts (slice_split (λ c. c == 10) text)
