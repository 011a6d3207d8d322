-- The equations for the samples of a delay agree in types.
use Rattle.std.proofs.Common.{◌≡◌, ℕ, true, List, [], ◌∷◌, Option, arith}
use Rattle.std.specs.List.{AllByRecursion}
use Rattle.diagram_blocks.specs.Kinds.{is_delay}
use Rattle.diagram_meaning.specs.Diagram.{Diagram, op_at}
use Rattle.diagram_meaning.specs.ResolvedTree.{ResolvedTree, IsResolvedTree, diagram_of}
use Rattle.diagram_meaning.specs.SystemRuns.{IsRowOf}
use Rattle.lustre_syntax.specs.Tree.{int, bool, NodeTree, choice, previous}
use Rattle.lustre_syntax.specs.Named.{NamedExpr, NamedEquation}
use Rattle.lustre_syntax.specs.Lawful.{AreDistinct}
use Rattle.lustre_system.specs.Names.{reset_name, takes_name}
use Rattle.lustre_system.specs.RowEquations.{runs, samples, delayed_name, sample_value, sample_equations, memory_equations}
use Rattle.lustre_rows.proofs.lemmas.Lists.{all-members}
use Rattle.lustre_right.specs.Systems.{system_texts, place_in}
use Rattle.lustre_typed.proofs.LawsOfRows.{Laws}
use Rattle.lustre_typed.proofs.Leaves.{delayed-holds}
use Rattle.lustre_typed.proofs.Names.{types, Holds, Fits, reset-holds, takes-holds, sample-holds}
use Rattle.lustre_typed.proofs.RowParts.{start, start-typed, runs-typed}
use Rattle.lustre_typed.proofs.Sound.{IsSound}
use Rattle.lustre_typed.proofs.Typed.{deeper, previous-typed, choice-typed, arrow-typed}

module _ (laws : Laws) (r : ResolvedTree) (resolved : IsResolvedTree r) (s : Option ℕ)
    (distinct : AreDistinct (system_texts (diagram_of r) s)) (callee : List ℕ → ℕ) (earlier : List NodeTree) where
  abbrev d : Diagram
  d = diagram_of r

  abbrev place : List ℕ → ℕ
  place = place_in d s

  abbrev Sound : NamedEquation → Type 0
  Sound = IsSound (types d s) place callee earlier

  module _ (b : ℕ) (row : IsRowOf d.rows s b) where
    abbrev begins : NamedExpr
    begins = start laws r resolved s distinct b row

    module _ (delays : is_delay (op_at d b) ≡ true) where
      sample-typed : (m n : List ℕ) → Holds d s m int → Holds d s n int → Fits d s (sample_value d s b m n) int 5
      sample-typed m n here next =
          let t = types d s in
          let inner = choice (previous (takes_name b)) (previous n) (previous m) in
          let inner_typed = choice-typed t place (previous (takes_name b)) (previous n) (previous m) int 1
          (previous-typed t place (takes_name b) bool (takes-holds d s distinct b row delays))
          (previous-typed t place n int next) (previous-typed t place m int here) in
          let later_typed = choice-typed t place (previous reset_name) begins inner int 2
          (deeper t place (previous reset_name) bool 1 2 (omega arith) (previous-typed t place reset_name bool (reset-holds d s distinct)))
          (start-typed laws r resolved s distinct b row) inner_typed in
          deeper t place (sample_value d s b m n) int 4 5 (omega arith)
          (arrow-typed t place begins (choice (previous reset_name) begins inner) int 3
          (deeper t place begins int 2 3 (omega arith) (start-typed laws r resolved s distinct b row)) later_typed)

      samples-sound : (ms : List (List ℕ)) → AllByRecursion (λ text. Holds d s text int) ms →
          AllByRecursion Sound (sample_equations d s b ms)
      samples-sound [] all = tt
      samples-sound (m ∷ []) all =
          let e = sample_value d s b m (delayed_name d s b) in (
            (
              int,
              all.0,
              deeper (types d s) place e int 5 100 (omega arith)
                  (sample-typed m (delayed_name d s b) all.0 (delayed-holds r resolved s distinct b row delays)),
            ),
            tt,
          )
      samples-sound (m ∷ n ∷ ms) all = (
        (
          int,
          all.0,
          deeper (types d s) place (sample_value d s b m n) int 5 100 (omega arith) (sample-typed m n all.0 all.1.0),
        ),
        samples-sound (n ∷ ms) all.1,
      )

      pub memory-sound : AllByRecursion Sound (memory_equations d s b)
      memory-sound = (
        (
          bool,
          takes-holds d s distinct b row delays,
          deeper (types d s) place (runs d s b) bool 11 100 (omega arith) (runs-typed laws r resolved s distinct b row),
        ),
        samples-sound (samples d s b)
            (all-members (λ text. Holds d s text int) (samples d s b) (λ text here. sample-holds d s distinct b row delays text here)),
      )
