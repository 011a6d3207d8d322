-- Which of several refusals counts.
use Rattle.std.specs.Prelude.{ℕ, Bool, nat_lt, if◌then◌else◌, List, [], ◌∷◌, Option, Some, None, option_map}
use Rattle.std.specs.Option.{option_or}
use Rattle.base_refusals.specs.declared.refusal.Refusal.{Refusal}
use Rattle.base_refusals.specs.Refusals.{PlainRefusal, plain_refusal, TooLong, Syntax, NoModel, TwoModels, TooDeep, TooMany, Unsupported, Parameter, DoubleName, NoBlock, NoPort, TwoSources, Unconnected, TwoControls, Continuous, FloatType, NoType, TriggerSigned, TooWide, TimeInside, LongCycle, RateRatio, Loop, LongDelays}

-- the line of a refusal, 0 for one that has none
abbrev pub line_of_refusal : PlainRefusal → ℕ
line_of_refusal TooLong = 0
line_of_refusal (Syntax line kind) = line
line_of_refusal (NoModel line) = line
line_of_refusal (TwoModels line kind) = line
line_of_refusal (TooDeep line) = line
line_of_refusal (TooMany line what count) = line
line_of_refusal (Unsupported line) = line
line_of_refusal (Parameter line parameter) = line
line_of_refusal (DoubleName line) = line
line_of_refusal (NoBlock line) = line
line_of_refusal (NoPort line) = line
line_of_refusal (TwoSources line) = line
line_of_refusal (Unconnected line port) = line
line_of_refusal (TwoControls line) = line
line_of_refusal (Continuous line) = line
line_of_refusal (FloatType line) = line
line_of_refusal (NoType line why) = line
line_of_refusal (TriggerSigned line) = line
line_of_refusal (TooWide line bits) = line
line_of_refusal (TimeInside line) = line
line_of_refusal (LongCycle line what h) = line
line_of_refusal (RateRatio line inside outside) = line
line_of_refusal (Loop rows) = 0
line_of_refusal (LongDelays line total) = line

-- the first refusal, or the second where its line is less
abbrev pub earlier : PlainRefusal → Option PlainRefusal → PlainRefusal
earlier refusal None = refusal
earlier refusal (Some other) =
    if nat_lt (line_of_refusal other) (line_of_refusal refusal) then other else refusal

-- the refusal with the least line, and of those at one line the first
abbrev pub least_line : List PlainRefusal → Option PlainRefusal
least_line [] = None
least_line (refusal ∷ rest) = Some (earlier refusal (least_line rest))

-- the first that is there
abbrev pub first_there : List (Option PlainRefusal) → Option PlainRefusal
first_there [] = None
first_there (found ∷ rest) = option_or found (first_there rest)

-- ---- Passes, which look at one item after another

-- a refusal in memory that may be there, as a plain one
abbrev pub as_plain : Option Refusal → Option PlainRefusal
as_plain refusal = option_map plain_refusal refusal

-- of two refusals that may be there, that with the lesser line, and of those at one line the first
abbrev pub earlier_of : Option PlainRefusal → Option PlainRefusal → Option PlainRefusal
earlier_of None other = other
earlier_of (Some refusal) other = Some (earlier refusal other)

-- the refusal with the least line that a pass finds in some items, and of those at one line the
-- first
abbrev pub least_in : {A : Type 0} → (A → Option PlainRefusal) → List A → Option PlainRefusal
least_in found [] = None
least_in found (a ∷ rest) = earlier_of (found a) (least_in found rest)

-- the refusal of an item that passes a test
abbrev pub found_where : {A : Type 0} → (A → Bool) → (A → PlainRefusal) → A → Option PlainRefusal
found_where test refusal a = if test a then Some (refusal a) else None
