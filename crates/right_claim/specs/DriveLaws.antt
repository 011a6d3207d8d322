-- What a driver of one system rests on: scripts grow by one call, and some trace fits each of them,
-- over which there is one run.
use Rattle.std.specs.Prelude.{◌↔◌, ℕ, List, [], ◌∷◌, ◌++◌, Option, ℤ}
use Rattle.diagram_meaning.specs.Diagram.{Diagram}
use Rattle.diagram_meaning.specs.Needs.{needs_of, HasNoLoop}
use Rattle.diagram_meaning.specs.Laws.{HasOneRun}
use Rattle.modules_profile.specs.declared.Function.{Function}
use Rattle.diagram_meaning.specs.Traces.{IsTrace}
use Rattle.right_claim.specs.Scripts.{Call, TickSoFar, nothing_yet, CanFollow, tick_after, IsLawfulScript, Fits}

-- the tick so far after a script
abbrev pub tick_behind : Diagram → Option ℕ → List Function → TickSoFar → List Call → TickSoFar
tick_behind d s functions tick [] = tick
tick_behind d s functions tick (c ∷ cs) =
    tick_behind d s functions (tick_after d s functions tick c) cs

-- a script with one more call is lawful where it was, and the call may follow
abbrev pub ScriptsGrow : Type 0
ScriptsGrow =
    (d : Diagram) (s : Option ℕ) (functions : List Function) (script : List Call) (c : Call) →
    IsLawfulScript d s functions (script ++ c ∷ [])
    ↔ (IsLawfulScript d s functions script
    × CanFollow d s functions (tick_behind d s functions nothing_yet script) c)

-- some trace fits each lawful script
abbrev pub LawfulScriptsFit : Type 0
LawfulScriptsFit =
    (d : Diagram) (s : Option ℕ) (functions : List Function) (script : List Call) →
    IsLawfulScript d s functions script →
    (xs : List (List ℤ)) × IsTrace d s xs × Fits d s functions xs script

-- and where the diagram has no loop, the system has one run over it
abbrev pub LawfulScriptsRun : Type 0
LawfulScriptsRun =
    (d : Diagram) (s : Option ℕ) (functions : List Function) (script : List Call) →
    HasNoLoop (needs_of d) →
    IsLawfulScript d s functions script →
    (xs : List (List ℤ)) × IsTrace d s xs × Fits d s functions xs script × HasOneRun d s xs
