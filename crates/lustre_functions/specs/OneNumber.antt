-- An expression of C gives one number, from whatever count of steps.
use Rattle.std.specs.Prelude.{◌≡◌, ℕ, List, [], ℤ}
use Rattle.c_syntax.specs.Tree.{ExprTree, PureTree}
use Rattle.c_semantics.specs.Values.{Reads, gives, functions_of, eval}

abbrev pub ExpressionsGiveOne : Type 0
ExpressionsGiveOne =
    (ps : List PureTree) (reads : Reads) (line : ℕ) (e : ExprTree) (steps end other last : ℕ)
    (v w : ℤ) →
    eval (functions_of [] ps) reads line e steps ≡ gives v end →
    eval (functions_of [] ps) reads line e other ≡ gives w last → v ≡ w
