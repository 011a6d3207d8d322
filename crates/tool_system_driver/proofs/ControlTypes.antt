-- The controls of a subsystem with the types of their wires.
use Rattle.std.specs.Prelude.{◌≡◌, refl, ℕ, ◌<◌, true, List, [], ◌∷◌, length, map, Option, Some, All, unwrap_or}
use Rattle.std.specs.List.{AllByRecursion}
use Rattle.std.proofs.Common.{sym, ◌∙◌, ap, ap₂, true≢false}
use Rattle.std.proofs.lemmas.List.Elements.{All-from_recursion}
use Rattle.base_core.specs.declared.Control.{Control}
use Rattle.base_core.specs.declared.Control.TheVariants.{Plain, Enabled, Triggered, Both}
use Rattle.base_core.specs.declared.Port.{Port}
use Rattle.base_core.specs.declared.Port.TheVariants.{Enable, Trigger}
use Rattle.base_fixed_point.specs.declared.FixType.{FixType}
use Rattle.diagram_blocks.specs.declared.Kind.{Kind}
use Rattle.diagram_blocks.specs.declared.Kind.TheVariants.{SubSystem}
use Rattle.diagram_meaning.specs.declared.table.Row.{Row}
use Rattle.diagram_meaning.specs.Diagram.{Diagram}
use Rattle.base_core.specs.Ports.{control_ports}
use Rattle.diagram_meaning.specs.Rows.{row_at, control_at, enable_wire, trigger_wire}
use Rattle.diagram_blocks.specs.Kinds.{control_of, is_subsystem}
use Rattle.diagram_meaning.specs.Types.{type_at}
use Rattle.diagram_meaning.specs.WellFormed.{IsWired, IsWireIn, wires_wanted}
use Rattle.tool_system_driver.specs.Controls.{typed_control, typed_control_of}

subsystem-kind : (kind : Kind) → is_subsystem kind ≡ true → kind ≡ SubSystem (control_of kind)
subsystem-kind (SubSystem control) h = refl
subsystem-kind _ h = absurd (true≢false (sym h))

ports-wanted : (control : Control) (o : Option ℕ) → wires_wanted (SubSystem control) o ≡ length (control_ports control)
ports-wanted Plain o = refl
ports-wanted (Enabled reset) o = refl
ports-wanted (Triggered edge) o = refl
ports-wanted (Both reset edge) o = refl

wires-below : (rows : List Row) (o : Option ℕ) (wires : List ℕ) → AllByRecursion (IsWireIn rows o) wires →
    AllByRecursion (λ c. c < length rows) wires
wires-below rows o [] all = tt
wires-below rows o (c ∷ wires) all = (all.0.0, wires-below rows o wires all.1)

module _ (rows : List Row) (wired : IsWired rows) (e : ℕ) (below : e < length rows) where
  -- a subsystem has a wire for each control
  pub one-each : is_subsystem (row_at rows e).kind ≡ true → length (row_at rows e).inputs ≡ length (control_ports (control_at rows e))
  one-each subsystem =
      wired.counts e below ∙ ap (λ k. wires_wanted k (row_at rows e).owner) (subsystem-kind (row_at rows e).kind subsystem)
      ∙ ports-wanted (control_at rows e) (row_at rows e).owner

  -- its wires are rows
  pub wires-inside : All (λ c. c < length rows) (row_at rows e).inputs
  wires-inside =
      All-from_recursion (λ c. c < length rows) (row_at rows e).inputs (wires-below rows _ (row_at rows e).inputs (wired.wires e below))

map-controls : (f g : Port → Port × FixType) → f Enable ≡ g Enable → f Trigger ≡ g Trigger → (control : Control) →
    map f (control_ports control) ≡ map g (control_ports control)
map-controls f g enable trigger Plain = refl
map-controls f g enable trigger (Enabled reset) = ap (λ p. p ∷ []) enable
map-controls f g enable trigger (Triggered edge) = ap (λ p. p ∷ []) trigger
map-controls f g enable trigger (Both reset edge) = ap₂ (λ p q. p ∷ q ∷ []) enable trigger

-- with the types of its wires its controls are those of the diagram
pub typed : (d : Diagram) (e : ℕ) → length d.types ≡ length d.rows →
    map (typed_control d.types (control_at d.rows e) (row_at d.rows e).inputs) (control_ports (control_at d.rows e))
    ≡ map (typed_control_of d (Some e)) (control_ports (control_at d.rows e))
typed d e each =
    map-controls (typed_control d.types (control_at d.rows e) (row_at d.rows e).inputs) (typed_control_of d (Some e))
    (ap (λ n. (Enable, type_at d.types (unwrap_or (enable_wire d.rows e) n))) each)
    (ap (λ n. (Trigger, type_at d.types (unwrap_or (trigger_wire d.rows e) n))) each)
    (control_at d.rows e)
