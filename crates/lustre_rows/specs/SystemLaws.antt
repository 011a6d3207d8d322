-- All equations of the node of a system hold of the run of the diagram.
use Rattle.std.specs.Prelude.{ℕ, List, Option, None, Some, ℤ, ◌⊎◌}
use Rattle.std.specs.List.{AllByRecursion}
use Rattle.diagram_meaning.specs.Diagram.{Diagram}
use Rattle.diagram_meaning.specs.ResolvedTree.{ResolvedTree, diagram_of}
use Rattle.diagram_meaning.specs.Laws.{Run}
use Rattle.diagram_meaning.specs.SystemRuns.{SystemTick, IsRowOf, system_tick}
use Rattle.lustre_syntax.specs.Named.{NamedEquation}
use Rattle.lustre_system.specs.SystemNodes.{system_equations}
use Rattle.lustre_rows.specs.NamesOfTick.{NamesHave, IsAfter}
use Rattle.lustre_rows.specs.EquationLaws.{GivesItsName}
use Rattle.lustre_rows.specs.ChildLaws.{CallsChild}
use Rattle.lustre_rows.specs.RunLaws.{IsRunTick}

-- an equation holds, where each child of the system has such a tick
abbrev pub HoldsInTick : Diagram → ℕ → Option ℕ → Option (List (Option ℤ)) → List (Option ℤ) →
    (List ℕ → ℕ) → (ℕ → SystemTick) → NamedEquation → Type 0
HoldsInTick d hyper s before values place inner equation =
    GivesItsName before values place equation
    ⊎ ((e : ℕ) × IsRowOf d.rows s e × CallsChild d hyper before values place e (inner e) equation)

-- where the names of the node of a system have what the run has, at a tick and at the one before,
-- each equation of the node holds
abbrev pub SystemEquationsHold : Type 0
SystemEquationsHold =
    (r : ResolvedTree) (xs : List (List ℤ)) (run : Run) (n : Option ℕ) (t : ℕ)
    (before : Option (List (Option ℤ))) (values : List (Option ℤ)) (place : List ℕ → ℕ) →
    IsRunTick r xs run n t →
    NamesHave (diagram_of r) r.times.hyper n (system_tick (diagram_of r) None xs run n t) values
    place →
    IsAfter (diagram_of r) r.times.hyper n (system_tick (diagram_of r) None xs run n t) place
    before →
    AllByRecursion
    (HoldsInTick (diagram_of r) r.times.hyper n before values place
    (λ e. system_tick (diagram_of r) None xs run (Some e) t)) (system_equations (diagram_of r) n)
