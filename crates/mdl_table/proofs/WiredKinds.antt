-- What the ports and the row of a block are, by its kind.
use Rattle.std.proofs.Common.{◌≡◌, refl, sym, ◌∙◌, ap, subst, ℕ, ◌+◌, ◌<◌, ◌≤◌, Bool, true, List, length, Option, None, Some, is_some, arith}
use Rattle.std.specs.List.{AllByRecursion}
use Rattle.base_core.specs.declared.Control.{Control}
use Rattle.base_core.specs.declared.Edge.{Edge}
use Rattle.diagram_blocks.specs.declared.Kind.{Kind}
use Rattle.diagram_blocks.specs.declared.Kind.TheVariants as row
use Rattle.diagram_meaning.specs.declared.table.Row.{Row}
use Rattle.diagram_meaning.specs.WellFormed.{has_output, IsWireIn, wires_wanted, reading_system}
use Rattle.mdl_tree.specs.Walks.{SectionTree}
use Rattle.mdl_blocks.specs.Blocks.{KindText, inport, outport, subsystem, constant, ground, terminator, gain, sum, product, unit_delay, delay, zero_order_hold, switch, relational, logic, convert, rate_transition, enable_port, trigger_port}
use Rattle.mdl_wiring.specs.declared.shape.Inside.{Inside}
use Rattle.mdl_wiring.specs.Members.{one_if, output_count, port_count}
use Rattle.mdl_wiring.specs.Shapes.{shape_of}
use Rattle.mdl_rows.specs.Models.{Block, Model, system_in}
use Rattle.mdl_rows.specs.Interiors.{control_by}
use Rattle.mdl_rows.specs.Wires.{wires_of, entering, controlling, wires_by}
use Rattle.mdl_rows.specs.RowTexts.{IsKind}

-- ---- Outputs

-- a block with these port blocks inside where it is a subsystem, which has this row and, if it is one, this System: of a
-- subsystem the Outports inside are its outputs, and the Inports inside are among its inputs; the row of any other block
-- with an output has one
abbrev pub HasOutputs : Inside → KindText → Kind → Option SectionTree → Type 0
HasOutputs inside text k None = 0 < output_count (shape_of inside text) → has_output k ≡ true
HasOutputs inside text k (Some system) =
    (output_count (shape_of inside text) ≡ inside.outports) × (inside.inports ≤ port_count (shape_of inside text))

pub outputs-of : (inside : Inside) (text : KindText) (c : Control) (k : Kind) → IsKind text c k → HasOutputs inside text k (system_in text)
outputs-of inside (outport port reset initial) c k is = λ h. absurd (omega (arith, h))
outputs-of inside (subsystem system) c k is = (refl, omega arith)
outputs-of inside (constant said) c k is = λ h. ap has_output is.2
outputs-of inside terminator c k is = λ h. absurd (omega (arith, h))
outputs-of inside (gain factor factor_type how) c k is = λ h. ap has_output is.4
outputs-of inside (unit_delay initial) c k is = λ h. ap has_output is.2
outputs-of inside (delay length initial) c k is = λ h. ap has_output is.2
outputs-of inside (switch criterion threshold how) c k is = λ h. ap has_output is.2
outputs-of inside (rate_transition initial out) c k is = λ h. ap has_output is.4
outputs-of inside (enable_port reset) c k is = λ h. absurd (omega (arith, h))
outputs-of inside (trigger_port edge) c k is = λ h. absurd (omega (arith, h))
outputs-of inside _ c k is = λ h. ap has_output is

-- ---- Inputs

-- these are the wires of a row of this kind in this system
abbrev pub HasWires : List Row → Kind → Option ℕ → List ℕ → Type 0
HasWires rs k o wires = (length wires ≡ wires_wanted k o) × AllByRecursion (IsWireIn rs (reading_system rs k o)) wires

-- as many as a block has controls
pub control-count : (a : Option Bool) (b : Option Edge) (o : Option ℕ) →
    one_if (is_some a) + one_if (is_some b) ≡ wires_wanted (row.SubSystem (control_by a b)) o
control-count None None o = refl
control-count (Some reset) None o = refl
control-count None (Some edge) o = refl
control-count (Some reset) (Some edge) o = refl

bare : (n : ℕ) → n + 0 + 0 ≡ n
bare n = omega arith

-- the wires of a block, by those of an Inport, those of a subsystem, and those of all inputs
pub wires-by-kind : (rs : List Row) (m : Model) (b : Block) (inside : Inside) (text : KindText) (c : Control) (k : Kind) → IsKind text c k →
    ((port : ℕ) → text ≡ inport port → HasWires rs (row.Inport port) b.owner (entering m port b.owner)) →
    ((system : SectionTree) → text ≡ subsystem system → HasWires rs (row.SubSystem c) b.owner (controlling m b)) →
    length (wires_of m b) ≡ port_count (shape_of inside text) → AllByRecursion (IsWireIn rs b.owner) (wires_of m b) →
    HasWires rs k b.owner (wires_by text m b)
wires-by-kind rs m b inside (inport port) c k is enters controls count all =
    subst (λ k. HasWires rs k b.owner (entering m port b.owner)) (sym is) (enters port refl)
wires-by-kind rs m b inside (outport port reset initial) c k is enters controls many all =
    subst (λ k. HasWires rs k b.owner (wires_of m b)) (sym is.2) (many, all)
wires-by-kind rs m b inside (subsystem system) c k is enters controls count all =
    subst (λ k. HasWires rs k b.owner (controlling m b)) (sym is) (controls system refl)
wires-by-kind rs m b inside (constant said) c k is enters controls many all =
    subst (λ k. HasWires rs k b.owner (wires_of m b)) (sym is.2) (many, all)
wires-by-kind rs m b inside ground c k is enters controls many all =
    subst (λ k. HasWires rs k b.owner (wires_of m b)) (sym is) (many, all)
wires-by-kind rs m b inside terminator c k is enters controls many all =
    subst (λ k. HasWires rs k b.owner (wires_of m b)) (sym is) (many, all)
wires-by-kind rs m b inside (gain factor factor_type how) c k is enters controls many all =
    subst (λ k. HasWires rs k b.owner (wires_of m b)) (sym is.4) (many, all)
wires-by-kind rs m b inside (sum count minus how) c k is enters controls many all =
    subst (λ k. HasWires rs k b.owner (wires_of m b)) (sym is) (many ∙ bare count, all)
wires-by-kind rs m b inside (product count how) c k is enters controls many all =
    subst (λ k. HasWires rs k b.owner (wires_of m b)) (sym is) (many ∙ bare count, all)
wires-by-kind rs m b inside (unit_delay initial) c k is enters controls many all =
    subst (λ k. HasWires rs k b.owner (wires_of m b)) (sym is.2) (many, all)
wires-by-kind rs m b inside (delay length initial) c k is enters controls many all =
    subst (λ k. HasWires rs k b.owner (wires_of m b)) (sym is.2) (many, all)
wires-by-kind rs m b inside zero_order_hold c k is enters controls many all =
    subst (λ k. HasWires rs k b.owner (wires_of m b)) (sym is) (many, all)
wires-by-kind rs m b inside (switch criterion threshold how) c k is enters controls many all =
    subst (λ k. HasWires rs k b.owner (wires_of m b)) (sym is.2) (many, all)
wires-by-kind rs m b inside (relational comparison) c k is enters controls many all =
    subst (λ k. HasWires rs k b.owner (wires_of m b)) (sym is) (many, all)
wires-by-kind rs m b inside (logic op count) c k is enters controls many all =
    subst (λ k. HasWires rs k b.owner (wires_of m b)) (sym is) (many ∙ bare count, all)
wires-by-kind rs m b inside (convert how) c k is enters controls many all =
    subst (λ k. HasWires rs k b.owner (wires_of m b)) (sym is) (many, all)
wires-by-kind rs m b inside (rate_transition initial out) c k is enters controls many all =
    subst (λ k. HasWires rs k b.owner (wires_of m b)) (sym is.4) (many, all)
wires-by-kind rs m b inside (enable_port reset) c k is enters controls many all =
    subst (λ k. HasWires rs k b.owner (wires_of m b)) (sym is) (many, all)
wires-by-kind rs m b inside (trigger_port edge) c k is enters controls many all =
    subst (λ k. HasWires rs k b.owner (wires_of m b)) (sym is) (many, all)
