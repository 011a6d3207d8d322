-- The lines of generated models, and what they say.
use Rattle.std.proofs.Common.{◌≡◌, refl, ℕ, ◌%◌, Bool, true, false, cond, List, ◌++◌, codes, decimal, ◌==◌}
use Rattle.std.specs.List.{list_all}
use Rattle.std.specs.Fmt.{digits}
use Rattle.tool_generator.specs.Draws.{signs_of}
use Rattle.tool_generator.specs.Models.{group_name}
use Rattle.tool_generator.specs.Texts.{quoted}
use Rattle.right_generated.proofs.DigitTexts.{decimal_digits}
use Rattle.right_generated.proofs.LineForms.{Says, Heads, is_quotable, quoted_says, digits_quotable}

-- ---- Sections

pub block_head : Heads (codes "Block {") (codes "Block")
block_head = record { one = record { inside = refl; kept = refl }; form = λ line. refl }

pub line_head : Heads (codes "Line {") (codes "Line")
line_head = record { one = record { inside = refl; kept = refl }; form = λ line. refl }

pub system_head : Heads (codes "System {") (codes "System")
system_head = record { one = record { inside = refl; kept = refl }; form = λ line. refl }

pub model_head : Heads (codes "Model {") (codes "Model")
model_head = record { one = record { inside = refl; kept = refl }; form = λ line. refl }

-- ---- Types of blocks

-- the text is the line of this BlockType
abbrev pub SaysType : List ℕ → Type 0
SaysType type = Says (codes "BlockType " ++ type) (codes "BlockType") type false

pub inport_says : SaysType (codes "Inport")
inport_says = record { one = record { inside = refl; kept = refl }; form = λ line. refl }

pub outport_says : SaysType (codes "Outport")
outport_says = record { one = record { inside = refl; kept = refl }; form = λ line. refl }

pub subsystem_says : SaysType (codes "SubSystem")
subsystem_says = record { one = record { inside = refl; kept = refl }; form = λ line. refl }

pub gain_type_says : SaysType (codes "Gain")
gain_type_says = record { one = record { inside = refl; kept = refl }; form = λ line. refl }

pub sum_says : SaysType (codes "Sum")
sum_says = record { one = record { inside = refl; kept = refl }; form = λ line. refl }

pub unit_delay_says : SaysType (codes "UnitDelay")
unit_delay_says = record { one = record { inside = refl; kept = refl }; form = λ line. refl }

-- ---- Quoted values

-- the text is the line of a parameter with this quoted value
abbrev pub SaysQuoted : (name value : List ℕ) → Type 0
SaysQuoted name value = Says (quoted name value) name value true

-- a value stands for itself in quotes
abbrev pub IsQuotable : List ℕ → Type 0
IsQuotable value = list_all is_quotable value ≡ true

pub name_says : (value : List ℕ) → IsQuotable value → SaysQuoted (codes "Name") value
name_says value fine = quoted_says 78 (codes "ame") value refl refl (λ line rest. refl) fine

pub port_says : (value : List ℕ) → IsQuotable value → SaysQuoted (codes "Port") value
port_says value fine = quoted_says 80 (codes "ort") value refl refl (λ line rest. refl) fine

pub type_text_says : (value : List ℕ) → IsQuotable value → SaysQuoted (codes "OutDataTypeStr") value
type_text_says value fine = quoted_says 79 (codes "utDataTypeStr") value refl refl (λ line rest. refl) fine

pub gain_says : (value : List ℕ) → IsQuotable value → SaysQuoted (codes "Gain") value
gain_says value fine = quoted_says 71 (codes "ain") value refl refl (λ line rest. refl) fine

pub initial_says : (value : List ℕ) → IsQuotable value → SaysQuoted (codes "InitialCondition") value
initial_says value fine = quoted_says 73 (codes "nitialCondition") value refl refl (λ line rest. refl) fine

pub inputs_says : (value : List ℕ) → IsQuotable value → SaysQuoted (codes "Inputs") value
inputs_says value fine = quoted_says 73 (codes "nputs") value refl refl (λ line rest. refl) fine

pub source_says : (value : List ℕ) → IsQuotable value → SaysQuoted (codes "SrcBlock") value
source_says value fine = quoted_says 83 (codes "rcBlock") value refl refl (λ line rest. refl) fine

pub target_says : (value : List ℕ) → IsQuotable value → SaysQuoted (codes "DstBlock") value
target_says value fine = quoted_says 68 (codes "stBlock") value refl refl (λ line rest. refl) fine

pub decimal_quotable : (n : ℕ) → IsQuotable (decimal n)
decimal_quotable n = digits_quotable (decimal n) (decimal_digits n)

pub group_quotable : (k : ℕ) → IsQuotable (group_name k)
group_quotable k = decimal_quotable k

pub signs_quotable : (drawn : ℕ) → IsQuotable (signs_of drawn)
signs_quotable drawn = by (drawn % 2 == 0)
  where
    by : (t : Bool) → IsQuotable (cond t (codes "++") (codes "+-"))
    by true = refl
    by false = refl

-- ---- Ports of lines

abbrev pub SaysSource : ℕ → Type 0
SaysSource port = Says (codes "SrcPort " ++ decimal port) (codes "SrcPort") (decimal port) false

abbrev pub SaysTarget : ℕ → Type 0
SaysTarget port = Says (codes "DstPort " ++ decimal port) (codes "DstPort") (decimal port) false

pub source_one : SaysSource 1
unfolding digits
source_one = record { one = record { inside = refl; kept = refl }; form = λ line. refl }

pub source_two : SaysSource 2
unfolding digits
source_two = record { one = record { inside = refl; kept = refl }; form = λ line. refl }

pub target_one : SaysTarget 1
unfolding digits
target_one = record { one = record { inside = refl; kept = refl }; form = λ line. refl }

pub target_two : SaysTarget 2
unfolding digits
target_two = record { one = record { inside = refl; kept = refl }; form = λ line. refl }
