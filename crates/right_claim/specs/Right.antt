-- When C bytes are right for a table of rows.
use Rattle.std.specs.Prelude.{◌≡◌, ℕ, ◌≤◌, Bool, true, List, map, sum, Option, None, ℤ}
use Rattle.std.specs.List.{AllByRecursion, AllZip}
use Rattle.diagram_meaning.specs.ResolvedTable.{ResolvedTable, diagram_of_table}
use Rattle.diagram_meaning.specs.Diagram.{Diagram}
use Rattle.diagram_meaning.specs.Needs.{AreTrueNeeds}
use Rattle.diagram_meaning.specs.Run.{outs}
use Rattle.diagram_meaning.specs.Laws.{HasOneRun}
use Rattle.modules_clusters.specs.Classes.{class_count}
use Rattle.c_syntax.specs.Tree.{ProgramTree}
use Rattle.c_semantics.specs.Rows.{c_rows, start_run}
use Rattle.c_rules.specs.AlikeTexts.{is_alike}
use Rattle.c_rules.specs.Reading.{CText}
use Rattle.modules_profile.specs.Systems.{systems}
use Rattle.diagram_meaning.specs.Traces.{IsTrace}
use Rattle.emit_shape.specs.ProgramShape.{HasShape}
use Rattle.emit_shape.specs.Faces.{HasLeastInterface}
use Rattle.right_relation.specs.Instances.{OnDone}
use Rattle.right_relation.specs.Budgets.{step_bound}
use Rattle.right_claim.specs.Paths.{path_to}
use Rattle.right_claim.specs.Driving.{TakesTraces, AnswersScripts}
use Rattle.right_claim.specs.Anew.{RenewsAll, Restarts}

-- ---- Outputs and steps

-- over the trace there is one run of the root, and the program gives its outputs at every tick
pub record GivesOutputs (p : ProgramTree) (d : Diagram) (xs : List (List ℤ)) : Type 0 where
  pub one_run : HasOneRun d None xs
  pub outputs : map (λ row. row.outputs) (c_rows p xs).ticks ≡ map (outs d None) one_run.run.values

-- over the trace the program is never stuck, and no tick takes more steps than the bound
pub record StaysInBound (p : ProgramTree) (d : Diagram) (xs : List (List ℤ)) : Type 0 where
  pub not_stuck : (c_rows p xs).stuck_place ≡ None
  pub steps : AllByRecursion (λ row. row.steps ≤ step_bound d.rows) (c_rows p xs).ticks

-- ---- Calls of one system from outside

-- from the fields as `root_start` left them, every lawful script of the system s is answered by its
-- run over any trace that fits the script
abbrev pub AnswersAnyOrder : ProgramTree → Diagram → ℕ → Option ℕ → Type 0
AnswersAnyOrder p d hyper s =
    OnDone (start_run p)
    (λ started. AnswersScripts p d hyper (path_to p d.rows s) s started.cells)

-- ---- The whole

-- what a program gives over traces
pub record RunsRight (p : ProgramTree) (d : Diagram) : Type 0 where
  -- driven by any trace it gives the outputs of the one run
  pub outputs : (xs : List (List ℤ)) → IsTrace d None xs → GivesOutputs p d xs
  -- it is never stuck, and each tick stays within the bound on steps
  pub bounded : (xs : List (List ℤ)) → IsTrace d None xs → StaysInBound p d xs
  -- in each tick each function of an active system is called once, and then its update; and after
  -- it each field inside holds what the run has
  pub ticks : OnDone (start_run p) (λ started. TakesTraces p d started.cells)

-- a program is code for a diagram whose hits repeat after `hyper` ticks, of whose rows `delays`
-- says which delay between rates
pub record IsCodeFor (p : ProgramTree) (d : Diagram) (delays : List Bool) (hyper : ℕ) : Type 0 where
  -- driven by any trace it is right
  pub runs : RunsRight p d
  -- each system's functions take exactly what its outputs need, and no interface that does so has
  -- fewer
  pub least : AllByRecursion (HasLeastInterface p d) (systems d.rows)
  -- each system has a struct and procedures of its own
  pub shape : HasShape p d delays hyper
  -- each system answers its calls in any lawful order
  pub any_order : AllByRecursion (AnswersAnyOrder p d hyper) (systems d.rows)
  -- and each can be started anew and reset, whatever its fields hold
  pub renewed : AllByRecursion (RenewsAll p d hyper) (systems d.rows)
  pub restarted : Restarts p d hyper

-- the bytes have one reading, C99 reads the same tokens, and it is code for the diagram of a
-- resolved table
pub record IsRightFor (bytes : List ℕ) (r : ResolvedTable) : Type 0 where
  pub program : ProgramTree
  pub reads : CText bytes program
  pub only : (other : ProgramTree) → CText bytes other → other ≡ program
  pub alike : is_alike bytes ≡ true
  pub code : IsCodeFor program (diagram_of_table r) r.times.delays r.times.hyper

-- so many output functions all systems have together: for each system one for each different set of
-- its inputs that an output of it needs
pub record IsFunctionCount (d : Diagram) (functions : ℕ) : Type 0 where
  -- the needs of the outputs of each system
  pub needs : List (List ℕ)
  pub are_needs : AllZip (AreTrueNeeds d) (systems d.rows) needs
  pub count : functions ≡ sum (map class_count needs)
