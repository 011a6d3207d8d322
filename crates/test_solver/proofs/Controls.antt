-- What the control wires of a subsystem carry, by its row and its control as they were read.
use Rattle.std.specs.Prelude.{◌≡◌, ℕ, List, None, slice_get, ℤ}
use Rattle.std.proofs.Common.{◌∙◌, ap}
use Rattle.base_core.specs.declared.Control.{Control}
use Rattle.diagram_activity.specs.declared.TrigMem.{TrigMem}
use Rattle.diagram_meaning.specs.declared.table.Row.{Row}
use Rattle.diagram_meaning.specs.Rows.{row_at, enable_among, trigger_among}
use Rattle.diagram_blocks.specs.Kinds.{control_of}
use Rattle.diagram_meaning.specs.Diagram.{Diagram}
use Rattle.diagram_meaning.specs.Run.{wire_value, enable_value, trigger_value}

module _ (d : Diagram) (e : ℕ) (subsystem : Row) (control : Control) (wires : List ℕ) (read : subsystem ≡ row_at d.rows e)
    (controlled : control ≡ control_of subsystem.kind) (wired : wires ≡ subsystem.inputs) (x v : List ℤ) (g : List TrigMem)
    (place : ℕ) where
  pub enable-at : slice_get wires place ≡ enable_among control wires →
      wire_value d None x v g (slice_get wires place) ≡ enable_value d None x v g e
  enable-at at =
      ap (wire_value d None x v g) at
      ∙ (λ i. wire_value d None x v g
      (enable_among ((controlled ∙ ap (λ (row : Row). control_of row.kind) read) i) ((wired ∙ ap (λ (row : Row). row.inputs) read) i)))

  pub trigger-at : slice_get wires place ≡ trigger_among control wires →
      wire_value d None x v g (slice_get wires place) ≡ trigger_value d None x v g e
  trigger-at at =
      ap (wire_value d None x v g) at
      ∙ (λ i. wire_value d None x v g
      (trigger_among ((controlled ∙ ap (λ (row : Row). control_of row.kind) read) i) ((wired ∙ ap (λ (row : Row). row.inputs) read) i)))
