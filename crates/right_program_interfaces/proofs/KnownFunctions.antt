-- The pure functions of an assembled program are the eight.
use Rattle.std.specs.Prelude.{◌≡◌, List, [], ◌∷◌, Contains, refl}
use Rattle.std.specs.List.{AllByRecursion}
use Rattle.std.proofs.Common.{sym, subst}
use Rattle.modules_profile.proofs.lemmas.Members.{in-first, in-rest}
use Rattle.c_syntax.specs.Lawful.{pure_without_lines}
use Rattle.c_syntax.specs.Tree.{PureTree}
use Rattle.emit_prelude.specs.Bodies.{function_trees}
use Rattle.emit_shape.specs.ProgramShape.{AreOfPrelude}
use Rattle.right_program_interfaces.specs.Shapes.{FunctionsAreKnown}

-- functions on line 0, each of which is among some
on-no-line : (all fs : List PureTree) → AllByRecursion (λ f. pure_without_lines f ≡ f) fs → ((f : PureTree) → Contains fs f → Contains all f) →
    AllByRecursion (λ f. Contains all (pure_without_lines f)) fs
on-no-line all [] lines among = tt
on-no-line all (f ∷ fs) lines among = (
  subst (Contains all) (sym lines.0) (among f (in-first f fs)),
  on-no-line all fs lines.1 (λ g has. among g (in-rest f g fs has)),
)

the-eight : AreOfPrelude function_trees
the-eight = on-no-line function_trees function_trees (refl, (refl, (refl, (refl, (refl, (refl, (refl, (refl, tt)))))))) (λ f has. has)

pub functions_are_known : FunctionsAreKnown
functions_are_known a = subst AreOfPrelude (sym a.known) the-eight
