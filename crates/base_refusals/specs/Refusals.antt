-- Why a model is refused, and the line that says so.
use Rattle.std.specs.Prelude.{ℕ, List, [], ◌∷◌, map, codes}
use Rattle.std.specs.Fmt.{decimal}
use Rattle.std.specs.List.{join_with_byte}
use Rattle.base_core.specs.declared.base.Place.{Place}
use Rattle.base_core.specs.declared.base.Port.{Port}
use Rattle.base_core.specs.declared.base.ParamName.{ParamName}
use Rattle.base_refusals.specs.declared.refusal.SyntaxKind.{SyntaxKind}
use Rattle.base_refusals.specs.declared.refusal.SyntaxKind.TheVariants.{BadName, OpenString, AfterString, OpenBracket, StrayString, Brace, DeepSections}
use Rattle.base_refusals.specs.declared.refusal.ModelKind.{ModelKind}
use Rattle.base_refusals.specs.declared.refusal.ModelKind.TheVariants.{Library, Second}
use Rattle.base_refusals.specs.declared.refusal.Many.{Many}
use Rattle.base_refusals.specs.declared.refusal.Many.TheVariants.{Blocks, Inports, Outports}
use Rattle.base_refusals.specs.declared.refusal.CycleWhat.{CycleWhat}
use Rattle.base_refusals.specs.declared.refusal.CycleWhat.TheVariants.{Denominator, Period, Hyper}
use Rattle.base_refusals.specs.declared.refusal.TypeWhy.{TypeWhy}
use Rattle.base_refusals.specs.declared.refusal.TypeWhy.TheVariants.{Missing, Unlike}
use Rattle.base_refusals.specs.declared.refusal.Refusal.{Refusal}
use Rattle.base_refusals.specs.declared.refusal.Refusal.TheVariants as held
use Rattle.base_core.specs.Bytes.{line_of_words}
use Rattle.base_core.specs.Words.{port_word, param_word, at_line}

-- A refusal, with its rows as a list.
pub data PlainRefusal : Type 0 where
  TooLong : PlainRefusal
  Syntax : (line : ℕ) (kind : SyntaxKind) → PlainRefusal
  NoModel : (line : ℕ) → PlainRefusal
  TwoModels : (line : ℕ) (kind : ModelKind) → PlainRefusal
  TooDeep : (line : ℕ) → PlainRefusal
  TooMany : (line : ℕ) (what : Many) (count : ℕ) → PlainRefusal
  Unsupported : (line : ℕ) → PlainRefusal
  Parameter : (line : ℕ) (name : ParamName) → PlainRefusal
  DoubleName : (line : ℕ) → PlainRefusal
  NoBlock : (line : ℕ) → PlainRefusal
  NoPort : (line : ℕ) → PlainRefusal
  TwoSources : (line : ℕ) → PlainRefusal
  Unconnected : (line : ℕ) (port : Port) → PlainRefusal
  TwoControls : (line : ℕ) → PlainRefusal
  Continuous : (line : ℕ) → PlainRefusal
  FloatType : (line : ℕ) → PlainRefusal
  NoType : (line : ℕ) (why : TypeWhy) → PlainRefusal
  TriggerSigned : (line : ℕ) → PlainRefusal
  TooWide : (line : ℕ) (bits : ℕ) → PlainRefusal
  TimeInside : (line : ℕ) → PlainRefusal
  LongCycle : (line : ℕ) (what : CycleWhat) (h : ℕ) → PlainRefusal
  RateRatio : (line : ℕ) (inside : ℕ) (outside : ℕ) → PlainRefusal
  Loop : (rows : List Place) → PlainRefusal
  LongDelays : (line : ℕ) (total : ℕ) → PlainRefusal

-- the refusal in memory as a plain one
abbrev pub plain_refusal : Refusal → PlainRefusal
plain_refusal held.TooLong = TooLong
plain_refusal (held.Syntax line kind) = Syntax line kind
plain_refusal (held.NoModel line) = NoModel line
plain_refusal (held.TwoModels line kind) = TwoModels line kind
plain_refusal (held.TooDeep line) = TooDeep line
plain_refusal (held.TooMany line what count) = TooMany line what count
plain_refusal (held.Unsupported line) = Unsupported line
plain_refusal (held.Parameter line name) = Parameter line name
plain_refusal (held.DoubleName line) = DoubleName line
plain_refusal (held.NoBlock line) = NoBlock line
plain_refusal (held.NoPort line) = NoPort line
plain_refusal (held.TwoSources line) = TwoSources line
plain_refusal (held.Unconnected line port) = Unconnected line port
plain_refusal (held.TwoControls line) = TwoControls line
plain_refusal (held.Continuous line) = Continuous line
plain_refusal (held.FloatType line) = FloatType line
plain_refusal (held.NoType line why) = NoType line why
plain_refusal (held.TriggerSigned line) = TriggerSigned line
plain_refusal (held.TooWide line bits) = TooWide line bits
plain_refusal (held.TimeInside line) = TimeInside line
plain_refusal (held.LongCycle line what h) = LongCycle line what h
plain_refusal (held.RateRatio line inside outside) = RateRatio line inside outside
plain_refusal (held.Loop rows) = Loop rows.items
plain_refusal (held.LongDelays line total) = LongDelays line total

-- the word that says what is wrong with a line
abbrev pub syntax_word : SyntaxKind → List ℕ
syntax_word BadName = codes "BadName"
syntax_word OpenString = codes "OpenString"
syntax_word AfterString = codes "AfterString"
syntax_word OpenBracket = codes "OpenBracket"
syntax_word StrayString = codes "StrayString"
syntax_word Brace = codes "Brace"
syntax_word DeepSections = codes "DeepSections"

-- which section there shouldn't be
abbrev pub model_word : ModelKind → List ℕ
model_word Library = codes "Library"
model_word Second = codes "Second"

-- what there is too much of
abbrev pub many_word : Many → List ℕ
many_word Blocks = codes "Blocks"
many_word Inports = codes "Inports"
many_word Outports = codes "Outports"

-- which quantity is beyond its bound
abbrev pub cycle_word : CycleWhat → List ℕ
cycle_word Denominator = codes "Denominator"
cycle_word Period = codes "Period"
cycle_word Hyper = codes "Hyper"

-- why a row has no type
abbrev pub why_word : TypeWhy → List ℕ
why_word Missing = codes "Missing"
why_word Unlike = codes "Unlike"

-- the line at which a block is
abbrev pub line_word : Place → List ℕ
line_word place = decimal place.line

-- the words after `refused`
abbrev pub refusal_words : PlainRefusal → List (List ℕ)
refusal_words TooLong = codes "F1" ∷ codes "TooLong" ∷ []
refusal_words (Syntax line kind) =
    codes "F2" ∷ codes "Syntax" ∷ at_line line (syntax_word kind ∷ [])
refusal_words (NoModel line) = codes "F3" ∷ codes "NoModel" ∷ at_line line []
refusal_words (TwoModels line kind) =
    codes "F4" ∷ codes "TwoModels" ∷ at_line line (model_word kind ∷ [])
refusal_words (TooDeep line) = codes "F5" ∷ codes "TooDeep" ∷ at_line line []
refusal_words (TooMany line what count) =
    codes "F6" ∷ codes "TooMany" ∷ at_line line (many_word what ∷ decimal count ∷ [])
refusal_words (Unsupported line) = codes "F7" ∷ codes "Unsupported" ∷ at_line line []
refusal_words (Parameter line name) =
    codes "F8" ∷ codes "Parameter" ∷ at_line line (param_word name ∷ [])
refusal_words (DoubleName line) = codes "F9" ∷ codes "DoubleName" ∷ at_line line []
refusal_words (NoBlock line) = codes "F10" ∷ codes "NoBlock" ∷ at_line line []
refusal_words (NoPort line) = codes "F11" ∷ codes "NoPort" ∷ at_line line []
refusal_words (TwoSources line) = codes "F12" ∷ codes "TwoSources" ∷ at_line line []
refusal_words (Unconnected line p) =
    codes "F13" ∷ codes "Unconnected" ∷ at_line line (codes "port" ∷ port_word p ∷ [])
refusal_words (TwoControls line) = codes "F14" ∷ codes "TwoControls" ∷ at_line line []
refusal_words (Continuous line) = codes "F15" ∷ codes "Continuous" ∷ at_line line []
refusal_words (FloatType line) = codes "F16" ∷ codes "FloatType" ∷ at_line line []
refusal_words (NoType line why) = codes "F17" ∷ codes "NoType" ∷ at_line line (why_word why ∷ [])
refusal_words (TriggerSigned line) = codes "F18" ∷ codes "TriggerSigned" ∷ at_line line []
refusal_words (TooWide line bits) =
    codes "F19" ∷ codes "TooWide" ∷ at_line line (codes "bits" ∷ decimal bits ∷ [])
refusal_words (TimeInside line) = codes "F20" ∷ codes "TimeInside" ∷ at_line line []
refusal_words (LongCycle line what h) =
    codes "F21" ∷ codes "LongCycle" ∷ at_line line (cycle_word what ∷ decimal h ∷ [])
refusal_words (RateRatio line inside outside) =
    codes "F22" ∷ codes "RateRatio"
    ∷ at_line line (codes "in" ∷ decimal inside ∷ codes "out" ∷ decimal outside ∷ [])
refusal_words (Loop rows) = codes "F23" ∷ codes "Loop" ∷ map line_word rows
refusal_words (LongDelays line total) =
    codes "F24" ∷ codes "LongDelays" ∷ at_line line (codes "total" ∷ decimal total ∷ [])

-- what a refusal says: its words with one space between each two
abbrev pub refusal_phrase : PlainRefusal → List ℕ
refusal_phrase refusal = join_with_byte 32 (refusal_words refusal)

-- the line that reports the refusal, with its end
abbrev pub refusal_line : PlainRefusal → List ℕ
refusal_line refusal = line_of_words (codes "refused" ∷ refusal_words refusal)
