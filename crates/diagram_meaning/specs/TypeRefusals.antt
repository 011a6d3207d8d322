-- What is wrong with the types of a table: a row without a type or unlike its input, a signed
-- trigger, a row that needs more than 62 bits.
use Rattle.std.specs.Prelude.{ℕ, Bool, false, not, ◌&&◌, ◌||◌, ◌==◌, nat_lt, if◌then◌else◌, List, [], ◌∷◌, map, filter, flat_map, length, slice_get, Option, Some, None, is_some, unwrap_or, option_and_then}
use Rattle.std.specs.Option.{option_map_or}
use Rattle.std.specs.Bool.{beq}
use Rattle.base_refusals.specs.declared.TypeWhy.TheVariants.{Missing, Unlike}
use Rattle.base_refusals.specs.Refusals.{PlainRefusal, NoType, TriggerSigned, TooWide}
use Rattle.base_fixed_point.specs.declared.FixType.{FixType}
use Rattle.base_fixed_point.specs.Types.{boolean}
use Rattle.diagram_blocks.specs.Width.{wide_bits}
use Rattle.diagram_meaning.specs.declared.table.Row.{Row}
use Rattle.diagram_meaning.specs.Rows.{row_at, by_row, row_numbers, trigger_wire}
use Rattle.diagram_blocks.specs.Kinds.{is_inport, is_outport}
use Rattle.diagram_meaning.specs.Types.{TypeRule, Known, NoRule, SameAs, rule_of, type_within, is_boolean_by_kind, type_at}
use Rattle.base_refusals.specs.FirstRefusal.{least_line, first_there}

-- the line of row b
abbrev pub line_at : List Row → ℕ → ℕ
line_at rows b = (row_at rows b).place.line

-- the explicit type that is met first from row b, where rules lead to one: following as many as
-- there are rows is enough
abbrev pub followed_type : List Row → ℕ → Option FixType
followed_type rows b = type_within rows (length rows) b

-- the type of row b, if it has one
abbrev pub type_of_row : List Row → ℕ → Option FixType
type_of_row rows b =
    if is_boolean_by_kind (row_at rows b).kind then Some boolean else followed_type rows b

-- the types of all rows; where each has one they are these
abbrev pub types_of_rows : List Row → List FixType
types_of_rows rows = by_row rows (λ b. unwrap_or (type_of_row rows b) boolean)

-- the type that a rule gives by itself
abbrev pub known_type : TypeRule → Option FixType
known_type (Known type) = Some type
known_type (SameAs c) = None
known_type NoRule = None

-- the type that row b writes, if it writes one
abbrev pub written_type : List Row → ℕ → Option FixType
written_type rows b = known_type (rule_of (row_at rows b).type_text NoRule)

-- whether two types are one
abbrev pub same_type : FixType → FixType → Bool
same_type t u = beq t.signed u.signed && (t.bits == u.bits && t.frac == u.frac)

-- whether both are there and differ
abbrev pub are_unlike : Option FixType → Option FixType → Bool
are_unlike (Some t) (Some u) = not (same_type t u)
are_unlike (Some t) None = false
are_unlike None other = false

-- whether row b is an Inport or Outport that writes another type than that of its one input; an
-- input without a type, and a ground, is like any
abbrev pub is_unlike : List Row → ℕ → Bool
is_unlike rows b =
    (is_inport (row_at rows b).kind || is_outport (row_at rows b).kind)
    && are_unlike (written_type rows b)
    (option_and_then (followed_type rows) (slice_get (row_at rows b).inputs 0))

-- what is wrong with the type of row b
abbrev pub type_faults : List Row → ℕ → List PlainRefusal
type_faults rows b =
    if is_some (type_of_row rows b)
    then (if is_unlike rows b then NoType (line_at rows b) Unlike ∷ [] else [])
    else NoType (line_at rows b) Missing ∷ []

-- the rows without a type, or with one unlike their input's
abbrev pub bad_types : List Row → List PlainRefusal
bad_types rows = flat_map (type_faults rows) (row_numbers rows)

-- whether row e is a subsystem with a trigger whose wire has a signed type
abbrev pub has_signed_trigger : List Row → ℕ → Bool
has_signed_trigger rows e =
    option_map_or (λ (t : FixType). t.signed)
    (option_and_then (type_of_row rows) (trigger_wire rows e)) false

-- the subsystems with a trigger whose wire has a signed type
abbrev pub signed_triggers : List Row → List PlainRefusal
signed_triggers rows =
    map (λ e. TriggerSigned (line_at rows e)) (filter (has_signed_trigger rows) (row_numbers rows))

-- the bits that row b needs, given the types of all rows
abbrev pub bits_of_row : List Row → List FixType → ℕ → ℕ
bits_of_row rows types b =
    wide_bits (row_at rows b).kind (map (type_at types) (row_at rows b).inputs) (type_at types b)

-- the rows that need more than 62 bits
abbrev pub wide_rows : List Row → List PlainRefusal
wide_rows rows =
    let types = types_of_rows rows in
    map (λ b. TooWide (line_at rows b) (bits_of_row rows types b))
    (filter (λ b. nat_lt 62 (bits_of_row rows types b)) (row_numbers rows))

-- the first refusal of a table for its types
abbrev pub type_refusal : List Row → Option PlainRefusal
type_refusal rows =
    first_there (least_line (bad_types rows) ∷ least_line (signed_triggers rows)
    ∷ least_line (wide_rows rows) ∷ [])
