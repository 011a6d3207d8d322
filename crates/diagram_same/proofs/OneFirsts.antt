-- A diagram has one list of firsts.
use Rattle.std.specs.Prelude.{◌≡◌, ℕ, List, [], ◌∷◌}
use Rattle.std.specs.List.{AllZip}
use Rattle.std.proofs.Common.{refl, ◌∙◌, ap, arith}
use Rattle.diagram_meaning.specs.Diagram.{Diagram}
use Rattle.diagram_same.specs.Same.{IsFirstOf, subsystem_rows}
use Rattle.diagram_same.specs.Laws.{FirstsAreOne}

first-is-one : (d : Diagram) (e r s : ℕ) → IsFirstOf d e r → IsFirstOf d e s → r ≡ s
first-is-one d e r s one two =
    let before = one.first s two.is_row two.same in
    let after = two.first r one.is_row one.same in
    omega (arith, before, after)

each-is-one : (d : Diagram) (es rs ss : List ℕ) → AllZip (IsFirstOf d) es rs → AllZip (IsFirstOf d) es ss → rs ≡ ss
each-is-one d [] [] [] one two = refl
each-is-one d [] [] (s ∷ ss) one two = absurd two
each-is-one d [] (r ∷ rs) ss one two = absurd one
each-is-one d (e ∷ es) [] ss one two = absurd one
each-is-one d (e ∷ es) (r ∷ rs) [] one two = absurd two
each-is-one d (e ∷ es) (r ∷ rs) (s ∷ ss) one two =
    ap (λ n. n ∷ rs) (first-is-one d e r s one.0 two.0) ∙ ap (λ ns. s ∷ ns) (each-is-one d es rs ss one.1 two.1)

pub firsts_are_one : FirstsAreOne
firsts_are_one d firsts others one two = each-is-one d (subsystem_rows d.rows) firsts others one two
