-- The order of refusals.
use Rattle.std.specs.Prelude.{ℕ, Bool, ◌||◌, ◌&&◌, ◌==◌, nat_lt, if◌then◌else◌, Option, Some, None}
use Rattle.base_refusals.specs.Refusals.{PlainRefusal, TooLong, Syntax, NoModel, TwoModels, TooDeep, TooMany, Unsupported, Parameter, DoubleName, NoBlock, NoPort, TwoSources, Unconnected, TwoControls, Continuous, FloatType, NoType, TriggerSigned, TooWide, TimeInside, LongCycle, RateRatio, Loop, LongDelays}
use Rattle.base_refusals.specs.FirstRefusal.{line_of_refusal}

-- the number of a refusal
abbrev pub number_of : PlainRefusal → ℕ
number_of TooLong = 1
number_of (Syntax line kind) = 2
number_of (NoModel line) = 3
number_of (TwoModels line kind) = 4
number_of (TooDeep line) = 5
number_of (TooMany line what count) = 6
number_of (Unsupported line) = 7
number_of (Parameter line parameter) = 8
number_of (DoubleName line) = 9
number_of (NoBlock line) = 10
number_of (NoPort line) = 11
number_of (TwoSources line) = 12
number_of (Unconnected line port) = 13
number_of (TwoControls line) = 14
number_of (Continuous line) = 15
number_of (FloatType line) = 16
number_of (NoType line why) = 17
number_of (TriggerSigned line) = 18
number_of (TooWide line bits) = 19
number_of (TimeInside line) = 20
number_of (LongCycle line what h) = 21
number_of (RateRatio line inside outside) = 22
number_of (Loop rows) = 23
number_of (LongDelays line total) = 24

-- whether a refusal counts before another: its number is less, or its line with the same number
abbrev pub is_before : PlainRefusal → PlainRefusal → Bool
is_before refusal other =
    nat_lt (number_of refusal) (number_of other)
    || (number_of refusal == number_of other
    && nat_lt (line_of_refusal refusal) (line_of_refusal other))

-- the first of two refusals that may be there
abbrev pub first_of : Option PlainRefusal → Option PlainRefusal → Option PlainRefusal
first_of None other = other
first_of (Some refusal) None = Some refusal
first_of (Some refusal) (Some other) = if is_before other refusal then Some other else Some refusal
