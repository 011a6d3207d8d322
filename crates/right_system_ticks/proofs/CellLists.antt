-- Fields made slot by slot, of which one changes.
use Rattle.std.specs.Prelude.{◌≡◌, ℕ, zero, suc, List, [], ◌∷◌, map, slice_get, Some, refl}
use Rattle.std.proofs.Common.{ap, ◌∙◌}
use Rattle.std.proofs.lemmas.Option.{same_Some, none-some}
use Rattle.c_syntax.specs.Tree.{kind_type, field_types, type_at}
use Rattle.c_semantics.specs.Cells.{Cell, more_cells, set_cell, cell_at}
use Rattle.emit_shape.specs.Slots.{Slot, slot_field}
use Rattle.right_relation.specs.Standing.{cells_of}

pub cell-stands : (P : Slot → Cell) (xs : List Slot) (f : ℕ) (x : Slot) → slice_get xs f ≡ Some x → cell_at (cells_of (map P xs)) f ≡ P x
cell-stands P [] f x at = absurd (none-some x at)
cell-stands P (y ∷ ys) zero x at = ap P (same_Some y x at)
cell-stands P (y ∷ ys) (suc f) x at = cell-stands P ys f x at

pub cells-same : (P Q : Slot → Cell) (xs : List Slot) → ((i : ℕ) (x : Slot) → slice_get xs i ≡ Some x → Q x ≡ P x) →
    cells_of (map Q xs) ≡ cells_of (map P xs)
cells-same P Q [] same = refl
cells-same P Q (y ∷ ys) same =
    ap (λ c. more_cells c (cells_of (map Q ys))) (same 0 y refl) ∙ ap (more_cells (P y)) (cells-same P Q ys (λ i x at. same (suc i) x at))

pub cells-set : (P Q : Slot → Cell) (xs : List Slot) (f : ℕ) (s : Slot) → slice_get xs f ≡ Some s →
    ((i : ℕ) (x : Slot) → slice_get xs i ≡ Some x → (i ≡ f → ⊥) → Q x ≡ P x) →
    cells_of (map Q xs) ≡ set_cell (cells_of (map P xs)) f (Q s)
cells-set P Q [] f s at same = absurd (none-some s at)
cells-set P Q (y ∷ ys) zero s at same =
    ap (λ c. more_cells c (cells_of (map Q ys))) (ap Q (same_Some y s at))
    ∙ ap (more_cells (Q s)) (cells-same P Q ys (λ i x there. same (suc i) x there (λ e. let wrong : ⊥ = cc e in wrong)))
cells-set P Q (y ∷ ys) (suc f) s at same =
    ap (λ c. more_cells c (cells_of (map Q ys))) (same 0 y refl (λ e. let wrong : ⊥ = cc e in wrong))
    ∙ ap (more_cells (P y)) (cells-set P Q ys f s at (λ i x there apart. same (suc i) x there (λ e. apart (let p : i ≡ f = cc e in p))))

-- the type of a field
pub slot-type : (xs : List Slot) (f : ℕ) (x : Slot) → slice_get xs f ≡ Some x →
    type_at (field_types (map slot_field xs)) f ≡ kind_type (slot_field x).kind
slot-type [] f x at = absurd (none-some x at)
slot-type (y ∷ ys) zero x at = ap (λ (z : Slot). kind_type (slot_field z).kind) (same_Some y x at)
slot-type (y ∷ ys) (suc f) x at = slot-type ys f x at
