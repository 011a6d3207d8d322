-- A script with one more call is lawful where it was, and the call may follow; and over a trace that fits it there is one run.
use Rattle.std.specs.Prelude.{ℕ, List, [], ◌∷◌, ◌++◌, Option}
use Rattle.diagram_meaning.specs.Diagram.{Diagram}
use Rattle.diagram_meaning.specs.Laws.{LoopFreeHasOneRun}
use Rattle.modules_profile.specs.declared.Function.{Function}
use Rattle.right_claim.specs.Scripts.{Call, TickSoFar, nothing_yet, CanFollow, tick_after, IsLawfulFrom}
use Rattle.right_claim.specs.DriveLaws.{tick_behind, ScriptsGrow, LawfulScriptsFit, LawfulScriptsRun}

module _ (d : Diagram) (s : Option ℕ) (functions : List Function) (c : Call) where
  longer : (script : List Call) (tick : TickSoFar) → IsLawfulFrom d s functions tick (script ++ c ∷ []) →
      IsLawfulFrom d s functions tick script × CanFollow d s functions (tick_behind d s functions tick script) c
  longer [] tick h = (tt, h.0)
  longer (b ∷ script) tick h =
      let rest = longer script (tick_after d s functions tick b) h.1 in
      ((h.0, rest.0), rest.1)

  with_one : (script : List Call) (tick : TickSoFar) → IsLawfulFrom d s functions tick script →
      CanFollow d s functions (tick_behind d s functions tick script) c →
      IsLawfulFrom d s functions tick (script ++ c ∷ [])
  with_one [] tick h follows = (follows, tt)
  with_one (b ∷ script) tick h follows = (h.0, with_one script (tick_after d s functions tick b) h.1 follows)

pub scripts_grow : ScriptsGrow
scripts_grow d s functions script c =
    (λ h. longer d s functions c script nothing_yet h, λ h. with_one d s functions c script nothing_yet h.0 h.1)

pub lawful_scripts_run : LawfulScriptsFit → LoopFreeHasOneRun → LawfulScriptsRun
lawful_scripts_run fit runs d s functions script no_loop lawful =
    let found = fit d s functions script lawful in
    (found.0, found.1, found.2, runs d s found.0 no_loop)
