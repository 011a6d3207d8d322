-- The words of a command line, and what they ask for.
use Rattle.std.specs.Prelude.{ℕ, ◌<◌, ◌≤◌, Bool, false, not, ◌&&◌, ◌==◌, nat_le, if◌then◌else◌, List, [], ◌∷◌, map, Option, Some, None, String, string_bytes, bytes_eq, codes, ⊤}
use Rattle.std.specs.List.{list_all}
use Rattle.std.specs.Str.Parse.{digits_value}
use Rattle.std.specs.declared.alloc.Global.{Global}
use Rattle.base_numerals.specs.Literals.{is_numeral}
use Rattle.tool_words.specs.declared.commands.Command.{Command}
use Rattle.tool_words.specs.declared.commands.Command.TheVariants as command

-- the bytes of each word
abbrev pub word_bytes : List (String Global) → List (List ℕ)
word_bytes words = map string_bytes words

-- a word has a first byte, which is no `-`
abbrev pub is_word : List ℕ → Bool
is_word [] = false
is_word (b ∷ bs) = not (b == 45)

-- what is asked for, with the names of the files and the numbers
pub data Asked : Type 0 where
  Compile : (model code : List ℕ) → Asked
  Run : (model code trace : List ℕ) → Asked
  Exec : (code trace : List ℕ) → Asked
  Profile : (model : List ℕ) → Asked
  Drive : (model code subsystem script : List ℕ) → Asked
  Gen : (start size : ℕ) (model code : List ℕ) → Asked
  Lustre : (model file : List ℕ) → Asked
  Flow : (file trace : List ℕ) → Asked

-- ---- Numbers

-- digits, of which the first is no 0
abbrev pub is_plain_number : List ℕ → Bool
is_plain_number [] = false
is_plain_number (b ∷ bs) = is_numeral (b ∷ bs) && not (b == 48)

-- the number from 1 to the greatest that a word writes
abbrev pub number_up_to : ℕ → List ℕ → Option ℕ
number_up_to greatest word =
    if is_plain_number word && nat_le (digits_value 10 word) greatest
    then Some (digits_value 10 word) else None

-- the greatest START, which has ten digits, and the greatest SIZE, which has four
abbrev pub greatest_start : ℕ
greatest_start = 2_147_483_646

abbrev pub greatest_size : ℕ
greatest_size = 2_499

-- ---- Commands

abbrev pub differ : List ℕ → List ℕ → Bool
differ a b = not (bytes_eq a b)

-- what a model of this START and SIZE asks for, if both are numbers in their ranges
abbrev pub gen_by : (start size : Option ℕ) → (model code : List ℕ) → Option Asked
gen_by (Some start) (Some size) model code = Some (Gen start size model code)
gen_by None _ model code = None
gen_by (Some start) None model code = None

-- what a command asks for by its number of further words; the file that is written is no other one
-- that is named, and a file of Lustre is no trace of its own
abbrev pub with_one : List ℕ → (model : List ℕ) → Option Asked
with_one command model = if bytes_eq command (codes "profile") then Some (Profile model) else None

abbrev pub with_two : List ℕ → (first second : List ℕ) → Option Asked
with_two command first second =
    if bytes_eq command (codes "compile") && differ second first then Some (Compile first second)
    else if bytes_eq command (codes "exec") then Some (Exec first second)
    else if bytes_eq command (codes "lustre") && differ second first
    then Some (Lustre first second)
    else if bytes_eq command (codes "flow") && differ second first then Some (Flow first second)
    else None

abbrev pub with_three : List ℕ → (model code trace : List ℕ) → Option Asked
with_three command model code trace =
    if bytes_eq command (codes "run") && differ code model && differ code trace
    then Some (Run model code trace) else None

abbrev pub with_four : List ℕ → (first second third fourth : List ℕ) → Option Asked
with_four command first second third fourth =
    if bytes_eq command (codes "drive") && differ second first && differ second fourth
    then Some (Drive first second third fourth)
    else if bytes_eq command (codes "gen") && differ fourth third
    then gen_by (number_up_to greatest_start first) (number_up_to greatest_size second) third fourth
    else None

-- what a command asks for with its further words
abbrev pub command_with : List ℕ → List (List ℕ) → Option Asked
command_with command [] = None
command_with command (first ∷ []) = with_one command first
command_with command (first ∷ second ∷ []) = with_two command first second
command_with command (first ∷ second ∷ third ∷ []) = with_three command first second third
command_with command (first ∷ second ∷ third ∷ fourth ∷ []) =
    with_four command first second third fourth
command_with command (first ∷ second ∷ third ∷ fourth ∷ fifth ∷ more) = None

-- what the words ask for, if they are lawful
abbrev pub asked_by : List (List ℕ) → Option Asked
asked_by [] = None
asked_by (command ∷ words) =
    if list_all is_word (command ∷ words) then command_with command words else None

-- a command of the program, without where its words lie
abbrev pub asked : Command → Asked
asked (command.Compile model code) = Compile model.now code.now
asked (command.Run model code trace) = Run model.now code.now trace.now
asked (command.Exec code trace) = Exec code.now trace.now
asked (command.Profile model) = Profile model.now
asked (command.Drive model code subsystem script) =
    Drive model.now code.now subsystem.now script.now
asked (command.Gen start size model code) = Gen start size model.now code.now
asked (command.Lustre model file) = Lustre model.now file.now
asked (command.Flow file trace) = Flow file.now trace.now

-- the numbers of a command are in their ranges
abbrev pub HasBounds : Command → Type 0
HasBounds (command.Gen start size model code) =
    (0 < start) × (start ≤ greatest_start) × (0 < size) × (size ≤ greatest_size)
HasBounds _ = ⊤
