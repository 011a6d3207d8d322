-- Sets of the ports that blocks give their system on one side.
use Rattle.std.specs.Prelude.{◌≡◌, ℕ, Bool, false, ◌||◌, ◌==◌, nat_eq, List, Option, Some, None, if◌then◌else◌}
use Rattle.std.specs.Option.{option_map_or}
use Rattle.std.specs.List.{list_any}
use Rattle.indexmap.specs.IndexSet.{IndexSet, contains}
use Rattle.base_refusals.specs.Refusals.{PlainRefusal, DoubleName}
use Rattle.mdl_wiring.specs.declared.doubles.Side.{Side}
use Rattle.mdl_wiring.specs.Members.{Member}
use Rattle.mdl_wiring.specs.Refusals.{has_port, same_port, double_among}

-- whether a port is there and this one
abbrev pub is_port : Option ℕ → ℕ → Bool
is_port port wanted = option_map_or (λ own. wanted == own) port false

-- a set has the ports of these blocks on one side
abbrev pub ArePortsOf : {S : Type 0} → Side → List Member → IndexSet ℕ S → Type 0
ArePortsOf side ms ports =
    (port : ℕ) → contains nat_eq ports port ≡ list_any (has_port side port) ms

-- whether a port is there and in a set
abbrev pub is_taken : {S : Type 0} → IndexSet ℕ S → Option ℕ → Bool
is_taken ports port = option_map_or (contains nat_eq ports) port false

-- a set has the ports of another one, and this one
abbrev pub Takes : {S : Type 0} → IndexSet ℕ S → IndexSet ℕ S → Option ℕ → Type 0
Takes ports wider port =
    (other : ℕ) → contains nat_eq wider other ≡ (contains nat_eq ports other || is_port port other)

-- what is reported of a block's port, where a set has the ports of those before it
abbrev pub IsToldOf : {S : Type 0} → Side → IndexSet ℕ S → Member → Option PlainRefusal → Type 0
IsToldOf side ports m found = (before : List Member) → ArePortsOf side before ports →
    found ≡ double_among (same_port side) before m

-- the refusal of a block that may be like an earlier one
abbrev pub double_found : Member → (is_double : Bool) → Option PlainRefusal
double_found m is_double = if is_double then Some (DoubleName m.line) else None
