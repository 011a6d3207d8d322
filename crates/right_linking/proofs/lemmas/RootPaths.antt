-- The paths from the root: `top` is directly in it, and what is inside goes by `top`.
use Rattle.std.specs.Prelude.{◌≡◌, ℕ, zero, suc, ◌<◌, not, List, [], ◌∷◌, map, filter, reverse, length, Some, None}
use Rattle.std.proofs.Common.{refl, sym, ap, ◌∙◌}
use Rattle.diagram_meaning.specs.declared.table.Row.{Row}
use Rattle.diagram_meaning.specs.Rows.{row_at, is_system, outward, around}
use Rattle.diagram_meaning.specs.WellFormed.{IsNested}
use Rattle.diagram_meaning.proofs.lemmas.Enclosing.{enclosing-step}
use Rattle.c_syntax.specs.Tree.{ProgramTree}
use Rattle.emit_shape.specs.Names.{child_name}
use Rattle.right_claim.specs.Paths.{place_in, path_to, path_inside}
use Rattle.right_linking.specs.Root.{top_place}

module _ (p : ProgramTree) (rows : List Row) where
  abbrev by : List ℕ → List ℕ
  by es = top_place p ∷ map (λ e. place_in p (row_at rows e).owner (child_name e)) (reverse es)

  pub path-to-top : path_to p rows None ≡ top_place p ∷ []
  path-to-top = ap by (none (length rows))
    where
      none : (n : ℕ) → outward rows None n None ≡ []
      none zero = refl
      none (suc n) = refl

  pub path-to-inside : (e : ℕ) → IsNested rows → e < length rows → path_to p rows (Some e) ≡ top_place p ∷ path_inside p rows None e
  path-to-inside e nested below =
      ap by (enclosing-step rows None nested e below ∙ ap (λ es. e ∷ es) (sym (all (around rows None e))))
    where
      all : (es : List ℕ) → filter (λ f. not (is_system None f)) es ≡ es
      all [] = refl
      all (f ∷ es) = ap (λ rest. f ∷ rest) (all es)
