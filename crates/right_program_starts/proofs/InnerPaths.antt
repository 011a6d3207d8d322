-- The path to a subsystem inside a system goes by the subsystem around it.
use Rattle.std.specs.Prelude.{◌≡◌, ℕ, ◌<◌, true, List, [], ◌∷◌, ◌++◌, map, reverse, length, Option, Some, refl}
use Rattle.std.proofs.Common.{ap, ◌∙◌}
use Rattle.std.proofs.lemmas.List.{map-append, reverse-append}
use Rattle.diagram_meaning.specs.declared.table.Row.{Row}
use Rattle.diagram_meaning.specs.Rows.{row_at, around_inside, is_inside}
use Rattle.diagram_meaning.specs.WellFormed.{IsNested}
use Rattle.c_syntax.specs.Tree.{ProgramTree}
use Rattle.c_semantics.specs.Cells.{Cells, fields_at, cells_at}
use Rattle.emit_shape.specs.Names.{child_name}
use Rattle.right_claim.specs.Paths.{place_in, path_inside}
use Rattle.right_program_starts.proofs.NestedRows.{around-child, around-deeper}

-- the last step of a path
pub cells-last : (path : List ℕ) (f : ℕ) (cells : Cells) → cells_at (path ++ f ∷ []) cells ≡ fields_at (cells_at path cells) f
cells-last [] f cells = refl
cells-last (g ∷ path) f cells = cells-last path f (fields_at cells g)

module _ (p : ProgramTree) (rows : List Row) (nested : IsNested rows) where
  abbrev field : ℕ → ℕ
  field e = place_in p (row_at rows e).owner (child_name e)

  pub path-child : (s : Option ℕ) (e : ℕ) → e < length rows →
      (row_at rows e).owner ≡ s → path_inside p rows s e ≡ place_in p s (child_name e) ∷ []
  path-child s e below own =
      ap (λ es. map field (reverse (e ∷ es))) (around-child rows nested s e below own) ∙ ap (λ o. place_in p o (child_name e) ∷ []) own

  pub path-deeper : (s : Option ℕ) (e g : ℕ) → e < length rows →
      (row_at rows e).owner ≡ Some g → is_inside rows s e ≡ true → is_inside rows s g ≡ true →
      path_inside p rows s e ≡ path_inside p rows s g ++ place_in p (Some g) (child_name e) ∷ []
  path-deeper s e g below own inside inner =
      ap (λ es. map field (reverse (e ∷ es))) (around-deeper rows nested s e g below own inside inner)
      ∙ ap (map field) (reverse-append (e ∷ []) (g ∷ around_inside rows s g))
      ∙ map-append field (reverse (g ∷ around_inside rows s g)) (e ∷ [])
      ∙ ap (λ o. path_inside p rows s g ++ place_in p o (child_name e) ∷ []) own
