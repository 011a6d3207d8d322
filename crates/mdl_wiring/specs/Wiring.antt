-- Where the inputs of the blocks of a system read from.
use Rattle.std.specs.Prelude.{◌≡◌, ℕ, ◌+◌, ⊤, List, [], ◌∷◌, map, filter_map, find, Bool, Option, Some, None, option_and_then}
use Rattle.base_refusals.specs.Refusals.{PlainRefusal, plain_refusal}
use Rattle.mdl_tree.specs.Spelling.{Items}
use Rattle.mdl_wiring.specs.declared.ports.Source.{Source}
use Rattle.mdl_wiring.specs.declared.ports.Input.{Input}
use Rattle.mdl_wiring.specs.declared.wiring.Wiring.{Wiring}
use Rattle.mdl_wiring.specs.declared.fault.WiringFault.{WiringFault}
use Rattle.mdl_wiring.specs.declared.fault.WiringFault.TheVariants.{Refused, Memory}
use Rattle.mdl_wiring.specs.Members.{Member}
use Rattle.mdl_wiring.specs.Lines.{LineEnd, ends_in}
use Rattle.mdl_wiring.specs.Ports.{leads_to, output_at}
use Rattle.mdl_wiring.specs.declared.lines.LinePlaces.{LinePlaces}
use Rattle.mdl_wiring.specs.Held.{places_seen, ends_seen}
use Rattle.mdl_wiring.specs.Refusals.{numbers_of, lines_refusal, wiring_refusal}

-- the output from which the first line end leads to an input
abbrev pub source_into : List LineEnd → Input → Option Source
source_into ends input =
    option_and_then (λ (e : LineEnd). output_at e.source) (find (leads_to input) ends)

-- the outputs that the inputs of the block at a place read: its data inputs by port, then its
-- enable, then its trigger
abbrev pub sources_of : List LineEnd → (at : ℕ) → Member → List Source
sources_of ends at m =
    filter_map (λ number. source_into ends (record { member = at; number = number })) (numbers_of m)

-- the same of all blocks, from this place on
abbrev pub sources_from : List LineEnd → (at : ℕ) → List Member → List (List Source)
sources_from ends at [] = []
sources_from ends at (m ∷ ms) = sources_of ends at m ∷ sources_from ends (at + 1) ms

-- the sources of each block in memory
abbrev pub wiring_seen : Wiring → List (List Source)
wiring_seen wiring = map (λ sources. sources.items) wiring.rows.items

-- the first refusal of a system for how the lines with these places in memory lead
abbrev pub named_refusal : (is_root : Bool) → List Member → LinePlaces → Option PlainRefusal
named_refusal is_root ms named =
    lines_refusal is_root ms (places_seen named.sources.items) (ends_seen named.ends.items)

-- the outputs that the inputs of all blocks read by these places
abbrev pub named_sources : List Member → LinePlaces → List (List Source)
named_sources ms named = sources_from (ends_seen named.ends.items) 0 ms

-- how the lines of a system lead in which nothing is refused
pub record IsWiringOf (is_root : Bool) (ms : List Member) (items : Items)
    (wiring : Wiring) : Type 0 where
  pub lawful : wiring_refusal is_root ms items ≡ None
  pub sources : wiring_seen wiring ≡ sources_from (ends_in ms items) 0 ms

-- the error of what has this first refusal: that one, or out of memory
abbrev pub IsFaultBy : Option PlainRefusal → WiringFault → Type 0
IsFaultBy found (Refused refusal) = found ≡ Some (plain_refusal refusal)
IsFaultBy found Memory = ⊤
