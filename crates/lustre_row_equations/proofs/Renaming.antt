-- Parts of a row's value over places.
use Rattle.std.proofs.Common.{◌≡◌, ℕ, List, Option, Some, None, refl, ap}
use Rattle.std.specs.Option.{option_map}
use Rattle.diagram_meaning.specs.Diagram.{Diagram}
use Rattle.diagram_meaning.specs.Run.{start_of}
use Rattle.lustre_syntax.specs.declared.LusOp.TheVariants.{And}
use Rattle.lustre_syntax.specs.Named.{NamedExpr, renamed}
use Rattle.lustre_syntax.specs.Tree.{ExprTree, name, two, choice}
use Rattle.lustre_system.specs.Names.{around_active}
use Rattle.lustre_system.specs.RowEquations.{also, signed_number, value_or_kept, or_reset}
use Rattle.lustre_row_equations.specs.Also.{also_tree}

-- a test and a further one
pub also_placed : (place : List ℕ → ℕ) (first : NamedExpr) (t : Option NamedExpr) →
    also_tree (renamed place first) (option_map (renamed place) t) ≡ renamed place (also first t)
also_placed place first None = refl
also_placed place first (Some second) = refl

-- an output that isn't reset, and one that is
module _ (d : Diagram) (s : Option ℕ) (b : ℕ) (place : List ℕ → ℕ) where
  pub not_reset : (t : Option NamedExpr) → None ≡ option_map (renamed place) t →
      renamed place (value_or_kept d s b) ≡ renamed place (or_reset d s b t)
  not_reset None is = refl
  not_reset (Some test) is = absurd (cc is)

  pub reset_when : (t : Option NamedExpr) (x : ExprTree) → Some x ≡ option_map (renamed place) t →
      choice (two And (name (place around_active)) x) (renamed place (signed_number (start_of d b)))
      (renamed place (value_or_kept d s b)) ≡ renamed place (or_reset d s b t)
  reset_when None x is = absurd (cc is)
  reset_when (Some test) x is = by is
    where
      by : Some x ≡ Some (renamed place test) →
          choice (two And (name (place around_active)) x) (renamed place (signed_number (start_of d b)))
          (renamed place (value_or_kept d s b)) ≡ renamed place (or_reset d s b (Some test))
      by same =
          let one : x ≡ renamed place test = cc same in
          ap (λ e. choice (two And (name (place around_active)) e) (renamed place (signed_number (start_of d b)))
          (renamed place (value_or_kept d s b))) one
