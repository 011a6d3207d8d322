-- Worked systems: two Inports and a Sum that adds them, an Outport, and subsystems.
use Rattle.std.specs.Prelude.{◌≡◌, refl, ℕ, true, false, List, [], ◌∷◌, ◌++◌, Some, None, codes}
use Rattle.base_core.specs.declared.Port.TheVariants.{Number, Enable, Trigger}
use Rattle.base_refusals.specs.Refusals.{DoubleName, NoBlock, NoPort, TwoSources, Unconnected, TwoControls, Unsupported}
use Rattle.mdl_tree.specs.Spelling.{Items, End, Param, Section}
use Rattle.mdl_wiring.specs.declared.member.Shape.{Shape}
use Rattle.mdl_wiring.specs.declared.member.Shape.TheVariants.{Inport, Outport, SubSystem, EnablePort, TriggerPort, Plain}
use Rattle.mdl_wiring.specs.declared.ports.Source.{Source}
use Rattle.mdl_wiring.specs.Members.{Member}
use Rattle.mdl_wiring.specs.Lines.{ends_in}
use Rattle.mdl_wiring.specs.Refusals.{wiring_refusal, newer_lines}
use Rattle.mdl_wiring.specs.Wiring.{sources_from}

-- ---- Texts

-- a block
abbrev block : (name : List ℕ) (line : ℕ) → Shape → Member
block name line shape = record { name = name; line = line; shape = shape }

-- an output of a block
abbrev from : (member output : ℕ) → Source
from member output = record { member = member; output = output }

-- a parameter in front of others
abbrev says : (name value : List ℕ) → Items → Items
says name value rest = Param name value 0 rest

-- the parameters of a source, in front of others
abbrev leaves : (block port : List ℕ) → Items → Items
leaves block port rest = says (codes "SrcBlock") block (says (codes "SrcPort") port rest)

-- the parameters of a target, in front of others
abbrev enters : (block port : List ℕ) → Items → Items
enters block port rest = says (codes "DstBlock") block (says (codes "DstPort") port rest)

-- a line at this line of the file, in front of others
abbrev a_line : (line : ℕ) (inside : Items) → Items → Items
a_line line inside rest = Section (codes "Line") line inside rest

-- a branch, in front of others
abbrev branch : (line : ℕ) (inside : Items) → Items → Items
branch line inside rest = Section (codes "Branch") line inside rest

-- ---- A sum of two Inports

-- the shape of a block with this many inputs and an output
abbrev with_inputs : ℕ → Shape
with_inputs inputs = Plain inputs true

-- A and B are added, and the sum leaves by Y
abbrev adds : List Member
adds =
    block (codes "A") 10 (Inport 1) ∷ block (codes "B") 20 (Inport 2)
    ∷ block (codes "plus") 30 (with_inputs 2) ∷ block (codes "Y") 40 (Outport 1) ∷ []

-- a line from the only output of a block to an input of another
abbrev wire : (line : ℕ) (source target port : List ℕ) → Items → Items
wire line source target port rest =
    a_line line (leaves source (codes "1") (enters target port End)) rest

-- the lines from A and B to the sum, and from the sum to Y
abbrev adding : Items → Items
adding rest =
    wire 50 (codes "A") (codes "plus") (codes "1")
    (wire 60 (codes "B") (codes "plus") (codes "2")
    (wire 70 (codes "plus") (codes "Y") (codes "1") rest))

sum-lawful : wiring_refusal true adds (adding End) ≡ None
sum-lawful = refl

sum-sources : sources_from (ends_in adds (adding End)) 0 adds
    ≡ [] ∷ [] ∷ (from 0 1 ∷ from 1 1 ∷ []) ∷ (from 2 1 ∷ []) ∷ []
sum-sources = refl

-- ---- Names and ports of blocks

-- the later of two blocks of one name, whatever their types
name-double : wiring_refusal true (adds ++ block (codes "A") 80 (with_inputs 1) ∷ []) (adding End)
    ≡ Some (DoubleName 80)
name-double = refl

-- the later of two Inports of one port; an Outport of that port isn't one
port-double : wiring_refusal true (adds ++ block (codes "C") 80 (Inport 2) ∷ []) (adding End)
    ≡ Some (DoubleName 80)
port-double = refl

-- of two doubles that with the least line counts, in whatever order they are
least-double : wiring_refusal true (adds ++ block (codes "A") 90 (with_inputs 1)
    ∷ block (codes "Z") 80 (Outport 1) ∷ []) (adding End)
    ≡ Some (DoubleName 80)
least-double = refl

-- ---- Blocks and ports that lines name

-- a line from a block that isn't there
no-source : wiring_refusal true adds (adding (wire 80 (codes "X") (codes "Y") (codes "1") End))
    ≡ Some (NoBlock 80)
no-source = refl

-- a branch to a block that isn't there is at its own line
no-branch : wiring_refusal true adds
    (adding (a_line 80
    (leaves (codes "A") (codes "1") (branch 81 (enters (codes "X") (codes "1") End) End)) End))
    ≡ Some (NoBlock 81)
no-branch = refl

-- a line to nowhere is looked at too; one without a source is passed over
no-end : wiring_refusal true adds (adding (a_line 80 (leaves (codes "X") (codes "1") End) End))
    ≡ Some (NoBlock 80)
no-end = refl

passed-over : wiring_refusal true adds (adding (a_line 80 (enters (codes "X") (codes "1") End) End))
    ≡ None
passed-over = refl

-- a block that isn't there comes before a port that isn't, though its line is greater
block-first : wiring_refusal true adds
    (adding (wire 80 (codes "A") (codes "plus") (codes "3")
    (wire 90 (codes "X") (codes "Y") (codes "1") End)))
    ≡ Some (NoBlock 90)
block-first = refl

-- one port more than a block has, and port 0
no-port : wiring_refusal true adds (adding (wire 80 (codes "A") (codes "plus") (codes "3") End))
    ≡ Some (NoPort 80)
no-port = refl

no-port_0 : wiring_refusal true adds (adding (wire 80 (codes "A") (codes "plus") (codes "0") End))
    ≡ Some (NoPort 80)
no-port_0 = refl

-- an Inport has no input, an Outport no output, and a sum no enable
no-input : wiring_refusal true adds (adding (wire 80 (codes "B") (codes "A") (codes "1") End))
    ≡ Some (NoPort 80)
no-input = refl

no-output : wiring_refusal true adds (adding (wire 80 (codes "Y") (codes "plus") (codes "1") End))
    ≡ Some (NoPort 80)
no-output = refl

no-enable : wiring_refusal true adds
    (adding (wire 80 (codes "B") (codes "plus") (codes "enable") End))
    ≡ Some (NoPort 80)
no-enable = refl

-- a source without a port
no-text : wiring_refusal true adds
    (adding (a_line 80 (says (codes "SrcBlock") (codes "A") End) End)) ≡ Some (NoPort 80)
no-text = refl

-- ---- Inputs

-- the later of two line ends at one input
two-sources : wiring_refusal true adds (adding (wire 80 (codes "A") (codes "plus") (codes "2") End))
    ≡ Some (TwoSources 80)
two-sources = refl

-- the first input without a line
loose : wiring_refusal true adds (wire 60 (codes "B") (codes "plus") (codes "2") End)
    ≡ Some (Unconnected 30 (Number 1))
loose = refl

-- a second line to an input comes before an input without a line
two-first : wiring_refusal true adds
    (wire 60 (codes "B") (codes "plus") (codes "2")
    (wire 70 (codes "A") (codes "plus") (codes "2") End))
    ≡ Some (TwoSources 70)
two-first = refl

-- ---- Controls

-- a system whose Inport leads to both controls of a subsystem, by a line with branches
abbrev controlled : List Member
controlled = block (codes "A") 10 (Inport 1) ∷ block (codes "S") 20 (SubSystem 1 2 true true)
    ∷ block (codes "Y") 40 (Outport 1) ∷ []

-- a line from A to the input of S, with branches to its controls of these names, and a line from
-- its second output
abbrev branches : (first second : List ℕ) → Items
branches first second =
    a_line 50 (leaves (codes "A") (codes "1") (enters (codes "S") (codes "1")
    (branch 51 (enters (codes "S") first End) (branch 52 (enters (codes "S") second End) End))))
    (a_line 60 (leaves (codes "S") (codes "2") (enters (codes "Y") (codes "1") End)) End)

both-lawful : wiring_refusal true controlled (branches (codes "trigger") (codes "enable")) ≡ None
both-lawful = refl

-- first the input, then the enable, then the trigger
both-sources : sources_from (ends_in controlled (branches (codes "trigger") (codes "enable"))) 0
    controlled
    ≡ [] ∷ (from 0 1 ∷ from 0 1 ∷ from 0 1 ∷ []) ∷ (from 1 2 ∷ []) ∷ []
both-sources = refl

two-enables : wiring_refusal true controlled (branches (codes "enable") (codes "enable"))
    ≡ Some (TwoSources 52)
two-enables = refl

-- the enable comes before the trigger
loose-enable : wiring_refusal true controlled
    (wire 50 (codes "A") (codes "S") (codes "1")
    (a_line 60 (leaves (codes "S") (codes "2") (enters (codes "Y") (codes "1") End)) End))
    ≡ Some (Unconnected 20 Enable)
loose-enable = refl

loose-trigger : wiring_refusal true controlled
    (wire 50 (codes "A") (codes "S") (codes "1")
    (wire 55 (codes "A") (codes "S") (codes "enable") End))
    ≡ Some (Unconnected 20 Trigger)
loose-trigger = refl

-- one control port of each kind is lawful inside a subsystem, and none in the root
one-each : wiring_refusal false (block (codes "E") 10 EnablePort ∷ block (codes "T") 20 TriggerPort
    ∷ []) End ≡ None
one-each = refl

in-root : wiring_refusal true (block (codes "G") 10 (Plain 0 true)
    ∷ block (codes "T") 20 TriggerPort ∷ []) End
    ≡ Some (TwoControls 20)
in-root = refl

-- the second of a kind
second-trigger : wiring_refusal false (block (codes "T") 10 TriggerPort
    ∷ block (codes "E") 20 EnablePort ∷ block (codes "U") 30 TriggerPort ∷ []) End
    ≡ Some (TwoControls 30)
second-trigger = refl

-- ---- The newer form

-- a branch in a line that names its end in the newer form
newer-branch : newer_lines
    (adding (a_line 80 (branch 81 (says (codes "Dst") (codes "1#in:1") End) End) End))
    ≡ Some (Unsupported 81)
newer-branch = refl

newer-none : newer_lines (adding End) ≡ None
newer-none = refl
