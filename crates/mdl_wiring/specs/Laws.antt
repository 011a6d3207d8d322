-- What holds of a system in which nothing is refused.
use Rattle.std.specs.Prelude.{◌≡◌, ◌≤◌, ℕ, List, filter, length, None, Some, slice_get, Bool}
use Rattle.mdl_tree.specs.Spelling.{Items}
use Rattle.mdl_wiring.specs.declared.ports.Input.{Input}
use Rattle.mdl_wiring.specs.Members.{Member, port_count}
use Rattle.mdl_wiring.specs.Lines.{LineEnd, ends_in}
use Rattle.mdl_wiring.specs.Ports.{leads_to}
use Rattle.mdl_wiring.specs.Refusals.{wiring_refusal}
use Rattle.mdl_wiring.specs.Wiring.{sources_of}

-- how many line ends lead to an input
abbrev pub ends_into : List LineEnd → Input → ℕ
ends_into ends input = length (filter (leads_to input) ends)

-- exactly one line end leads to each input of each block of a system in which nothing is refused
abbrev pub EachInputHasOneLine : Type 0
EachInputHasOneLine =
    (is_root : Bool) (ms : List Member) (items : Items) → wiring_refusal is_root ms items ≡ None →
    (at : ℕ) (m : Member) (number : ℕ) → slice_get ms at ≡ Some m → 1 ≤ number →
    number ≤ port_count m.shape →
    ends_into (ends_in ms items) (record { member = at; number = number }) ≡ 1

-- each input of each block of such a system has a source
abbrev pub EachInputHasOneSource : Type 0
EachInputHasOneSource =
    (is_root : Bool) (ms : List Member) (items : Items) → wiring_refusal is_root ms items ≡ None →
    (at : ℕ) (m : Member) → slice_get ms at ≡ Some m →
    length (sources_of (ends_in ms items) at m) ≡ port_count m.shape
