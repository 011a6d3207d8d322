-- The type of a row, found by following rules.
use Rattle.std.specs.Prelude.{◌≡◌, ℕ, zero, suc, Bool, true, false, List, [], ◌∷◌, slice_index_or, Option, Some, None, MatchBool}
use Rattle.base_fixed_point.specs.declared.FixType.{FixType}
use Rattle.base_fixed_point.specs.declared.TypeText.{TypeText}
use Rattle.base_fixed_point.specs.declared.TypeText.TheVariants.{Inherit, Logical, Back, Fixed}
use Rattle.diagram_blocks.specs.declared.Kind.{Kind}
use Rattle.diagram_blocks.specs.declared.Kind.TheVariants.{SubSystem, Constant, Ground, Terminator, Relational, Logic, EnablePort, TriggerPort}
use Rattle.base_fixed_point.specs.Types.{boolean}
use Rattle.diagram_meaning.specs.declared.table.Row.{Row}
use Rattle.diagram_meaning.specs.Rows.{row_at}

-- what a row's rule says: a type, the type of another row, or none
pub data TypeRule : Type 0 where
  Known : FixType → TypeRule
  SameAs : ℕ → TypeRule
  NoRule : TypeRule

-- the type of the first input
abbrev pub first_input : List ℕ → TypeRule
first_input [] = NoRule
first_input (c ∷ cs) = SameAs c

-- the rule of a kind where the type is inherited
abbrev pub inherited_rule : Kind → List ℕ → TypeRule
inherited_rule (SubSystem control) inputs = NoRule
inherited_rule (Constant value) inputs = Known boolean
inherited_rule Ground inputs = NoRule
inherited_rule Terminator inputs = NoRule
inherited_rule (Relational compare) inputs = Known boolean
inherited_rule (Logic op count) inputs = Known boolean
inherited_rule EnablePort inputs = NoRule
inherited_rule TriggerPort inputs = NoRule
inherited_rule _ inputs = first_input inputs

-- the rule of a type text
abbrev pub rule_of : TypeText → TypeRule → TypeRule
rule_of Inherit inherited = inherited
rule_of Logical inherited = Known boolean
rule_of Back inherited = NoRule
rule_of (Fixed type) inherited = Known type

-- the rule of row b
abbrev pub type_rule : List Row → ℕ → TypeRule
type_rule rows b =
    rule_of (row_at rows b).type_text (inherited_rule (row_at rows b).kind (row_at rows b).inputs)

-- what a rule gives, where other rows have the types that next says
abbrev pub type_by : TypeRule → (ℕ → Option FixType) → Option FixType
type_by (Known type) next = Some type
type_by (SameAs c) next = next c
type_by NoRule next = None

-- the explicit type that is met first from row b by following at most n rules
abbrev pub type_within : List Row → ℕ → ℕ → Option FixType
type_within rows zero b = None
type_within rows (suc n) b = type_by (type_rule rows b) (type_within rows n)

-- from row b an explicit type is met, and it is this one first
abbrev pub MeetsType : List Row → ℕ → FixType → Type 0
MeetsType rows b type = (n : ℕ) × (type_within rows n b ≡ Some type)

-- from row b none is ever met
abbrev pub MeetsNoType : List Row → ℕ → Type 0
MeetsNoType rows b = (n : ℕ) → type_within rows n b ≡ None

-- whether a row is boolean by its kind alone: a ground, whose value is 0, and a row without a value
abbrev pub is_boolean_by_kind : Kind → Bool
is_boolean_by_kind (SubSystem control) = true
is_boolean_by_kind Ground = true
is_boolean_by_kind Terminator = true
is_boolean_by_kind EnablePort = true
is_boolean_by_kind TriggerPort = true
is_boolean_by_kind _ = false

-- the type of row b
abbrev pub HasType : List Row → ℕ → FixType → Type 0
HasType rows b type =
    MatchBool (is_boolean_by_kind (row_at rows b).kind) (type ≡ boolean) (MeetsType rows b type)

-- row b has no type
abbrev pub HasNoType : List Row → ℕ → Type 0
HasNoType rows b = MatchBool (is_boolean_by_kind (row_at rows b).kind) ⊥ (MeetsNoType rows b)

-- the type of row b; one past the end, which no wire of a lawful table names, counts as boolean
abbrev pub type_at : List FixType → ℕ → FixType
type_at types b = slice_index_or types b boolean
