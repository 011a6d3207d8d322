-- A field of an instance with its forms holds what its form says, and an instance in it has one more field on its path.
use Rattle.std.specs.Prelude.{◌≡◌, ℕ, zero, suc, ◌<◌, List, [], ◌∷◌, ◌++◌, slice_get, Some, refl}
use Rattle.std.proofs.Common.{subst, arith}
use Rattle.c_semantics.specs.Cells.{Cell, number, items, object, Cells, no_cells, more_cells, cell_at, cell_fields, fields_at, cells_at}
use Rattle.c_semantics.specs.CellLaws.{cells_count}
use Rattle.right_relation.specs.Forms.{Form, Forms, holds_instance, HasForm, HasForms, forms_of}
use Rattle.right_linking.specs.Root.{HasPath}

pub field-there : (forms : List Form) (cells : Cells) (f : ℕ) (form : Form) → HasForms (forms_of forms) cells →
    slice_get forms f ≡ Some form → (f < cells_count cells) × HasForm form (cell_at cells f)
field-there [] cells f form has at = absurd (let wrong : ⊥ = cc at in wrong)
field-there (x ∷ forms) no_cells f form has at = absurd has
field-there (x ∷ forms) (more_cells c cells) zero form has at =
    let same : x ≡ form = cc at in (omega arith, subst (λ z. HasForm z c) same has.0)
field-there (x ∷ forms) (more_cells c cells) (suc f) form has at =
    let later = field-there forms cells f form has.1 at in (let below = later.0 in omega (arith, below), later.1)

pub inner-fields : (fields : Forms) (c : Cell) → HasForm (holds_instance fields) c → HasForms fields (cell_fields c)
inner-fields fields (number value) has = absurd has
inner-fields fields (items values) has = absurd has
inner-fields fields (object cells) has = has

pub path-more : (path : List ℕ) (f : ℕ) (cells : Cells) → HasPath path cells → f < cells_count (cells_at path cells) →
    HasPath (path ++ f ∷ []) cells
path-more [] f cells has below = (below, tt)
path-more (g ∷ path) f cells has below = (has.0, path-more path f (fields_at cells g) has.1 below)

pub cells-more : (path : List ℕ) (f : ℕ) (cells : Cells) → cells_at (path ++ f ∷ []) cells ≡ fields_at (cells_at path cells) f
cells-more [] f cells = refl
cells-more (g ∷ path) f cells = cells-more path f (fields_at cells g)
