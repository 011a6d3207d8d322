-- The call that a line of a script asks for.
use Rattle.std.specs.Prelude.{◌≡◌, ◌<◌, ◌≤◌, ℕ, zero, suc, ◌==◌, ◌&&◌, nat_lt, nat_le, if◌then◌else◌, List, [], ◌∷◌, length, take, slice_index_or, Option, None, Some, Result, Ok, Err, ℤ, pos, negsuc, bytes_eq, codes}
use Rattle.tool_traces.specs.Lines.{longest}
use Rattle.tool_traces.specs.Fields.{fields}
use Rattle.right_claim.specs.Scripts.{Call, out_with, update_with}
use Rattle.tool_scripts.specs.declared.calls.ScriptWhy.{ScriptWhy}
use Rattle.tool_scripts.specs.declared.calls.ScriptWhy.TheVariants.{Long, Form, NoFunction, Count}
use Rattle.tool_scripts.specs.declared.calls.ScriptLine.{ScriptLine}
use Rattle.tool_scripts.specs.declared.calls.ScriptLine.TheVariants.{Out, Update}
use Rattle.tool_scripts.specs.declared.calls.ReadCall.{ReadCall}
use Rattle.tool_scripts.specs.Numbers.{numbers_of}

-- the function of a number, among so many
abbrev pub function_numbered : ℕ → ℤ → Option ℕ
function_numbered count (pos j) = if nat_lt 0 j && nat_le j count then Some j else None
function_numbered count (negsuc n) = None

-- how many values function j takes, by the counts from function 1 on
abbrev pub count_of : List ℕ → ℕ → ℕ
count_of counts zero = 0
count_of counts (suc k) = slice_index_or counts k 0

-- a call with these values, if they are so many
abbrev pub counted : ℕ → List ℤ → Call → Result Call ScriptWhy
counted count values call = if length values == count then Ok call else Err (Count (length values))

-- the call of a function, which a number named
abbrev pub call_of_function : List ℕ → ℤ → List ℤ → Option ℕ → Result Call ScriptWhy
call_of_function counts number values None = Err (NoFunction number)
call_of_function counts number values (Some j) =
    counted (count_of counts j) values (out_with j values)

-- the call of the numbers after the word `out`: a function's, and values
abbrev pub out_of_numbers : List ℕ → Option (List ℤ) → Result Call ScriptWhy
out_of_numbers counts None = Err Form
out_of_numbers counts (Some []) = Err Form
out_of_numbers counts (Some (number ∷ values)) =
    call_of_function counts number values (function_numbered (length counts) number)

-- the call of the numbers after the word `update`, of which there have to be so many
abbrev pub update_of_numbers : ℕ → Option (List ℤ) → Result Call ScriptWhy
update_of_numbers all None = Err Form
update_of_numbers all (Some values) = counted all values (update_with values)

-- the call of a line's fields
abbrev pub call_of_fields : List ℕ → ℕ → List (List ℕ) → Result Call ScriptWhy
call_of_fields counts all [] = Err Form
call_of_fields counts all (word ∷ behind) =
    if bytes_eq word (codes "out") then out_of_numbers counts (numbers_of behind)
    else if bytes_eq word (codes "update") then update_of_numbers all (numbers_of behind)
    else Err Form

-- The call that a line writes, or why it writes none, by the counts of the values that each
-- function takes, and that of all inputs.
abbrev pub call_of_line : (counts : List ℕ) (all : ℕ) → List ℕ → Result Call ScriptWhy
call_of_line counts all text =
    if nat_le (length text) longest then call_of_fields counts all (fields text) else Err Long

-- a call of a function that there is, or of the update, with as many values as it takes
abbrev pub HasItsValues : (counts : List ℕ) (all : ℕ) → Call → Type 0
HasItsValues counts all (out_with j values) =
    (0 < j) × (j ≤ length counts) × (length values ≡ count_of counts j)
HasItsValues counts all (update_with values) = length values ≡ all

-- the call that a line asks for, with these values
abbrev pub call_with : ScriptLine → List ℤ → Call
call_with (Out function) values = out_with function values
call_with Update values = update_with values

-- the call of a line that was read, with its values in the first items
abbrev pub read_as : ReadCall → List ℤ → Call
read_as read into = call_with read.line (take read.count into)
