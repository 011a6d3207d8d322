-- What a whole program is that codes come to, and what follows from what.
use Rattle.std.specs.Prelude.{◌≡◌, ℕ, List, Contains, Option, None}
use Rattle.std.specs.List.{AllByRecursion}
use Rattle.diagram_meaning.specs.ResolvedTree.{ResolvedTree, diagram_of}
use Rattle.c_syntax.specs.Tree.{ProgramTree}
use Rattle.c_syntax.specs.Lawful.{IsLawful}
use Rattle.c_semantics.specs.Cells.{Cells, cells_at}
use Rattle.emit_shape.specs.ProgramShape.{HasShape}
use Rattle.emit_shape.specs.Faces.{HasLeastInterface}
use Rattle.right_relation.specs.Forms.{HasForms}
use Rattle.right_claim.specs.Driving.{TakesTraces, AnswersScripts}
use Rattle.right_claim.specs.Anew.{RenewsAll, Restarts}
use Rattle.right_claim.specs.Right.{IsCodeFor, RunsRight, AnswersAnyOrder}
use Rattle.right_linking.specs.Parts.{Parts, program_of, diagram, all_systems, Views}
use Rattle.right_linking.specs.Places.{ZerosHaveForms, FormsAreOfSlots}
use Rattle.right_linking.specs.Starts.{Renewed}
use Rattle.right_linking.specs.Lives.{EachInstanceLives}
use Rattle.right_linking.specs.Root.{IsRootAt, HasPath, InstancesHavePaths, RootStarts, RootTakesTicks}

-- each system of the program is started and reset as it should be, from any fields of its struct
abbrev pub AssembledRenews : Parts → Type 0
AssembledRenews a = AllByRecursion (RenewsAll (program_of a) (diagram a) a.hyper) (all_systems a)

-- and so is the whole program
abbrev pub AssembledRestarts : Parts → Type 0
AssembledRestarts a = Restarts (program_of a) (diagram a) a.hyper

-- each system answers its calls in any order
abbrev pub AssembledAnswers : Parts → Type 0
AssembledAnswers a =
    AllByRecursion (AnswersAnyOrder (program_of a) (diagram a) a.hyper) (all_systems a)

-- the root's rows are those of the run, within the bound, with the calls and stores of each tick
abbrev pub AssembledRunsRight : Parts → Type 0
AssembledRunsRight a = RunsRight (program_of a) (diagram a)

-- the shape is that of a program of its systems
abbrev pub AssembledHasShape : Parts → Type 0
AssembledHasShape a = HasShape (program_of a) (diagram a) a.model.times.delays a.hyper

-- each system's functions take exactly what its outputs need, and are as few as can be
abbrev pub AssembledIsLeast : Parts → Type 0
AssembledIsLeast a = AllByRecursion (HasLeastInterface (program_of a) (diagram a)) (all_systems a)

-- the program keeps the rules and limits of C
abbrev pub AssembledIsLawful : Parts → Type 0
AssembledIsLawful a = IsLawful (program_of a)

-- a program is lawful, and code for the diagram of a model
pub record IsAssembled (r : ResolvedTree) (hyper : ℕ) (p : ProgramTree) : Type 0 where
  pub lawful : IsLawful p
  pub code : IsCodeFor p (diagram_of r) r.times.delays hyper

-- so it is with the program that codes come to
abbrev pub AssembledIsCode : Parts → Type 0
AssembledIsCode a = IsAssembled a.model a.hyper (program_of a)

-- ---- Instances that were started

-- An instance of a system, at a path below some fields, that is as its start left it answers
-- each lawful script.
abbrev pub StartedAnswer : (a : Parts) (v : Views a) → Renewed a v → Type 0
StartedAnswer a v renewed =
    (s : Option ℕ) → Contains (all_systems a) s → (path : List ℕ) (before cells : Cells) →
    HasForms (renewed.started s).forms before → HasPath path cells →
    cells_at path cells ≡ (renewed.started s).renewed before →
    AnswersScripts (program_of a) (diagram a) a.hyper path s cells

-- fields of the root whose instance of `top` is as its start left it answer each trace
abbrev pub StartedTakeTraces : (a : Parts) (v : Views a) → Renewed a v → Type 0
StartedTakeTraces a v renewed =
    (before cells : Cells) → HasForms (renewed.started None).forms before →
    IsRootAt (program_of a) a.hyper 0 ((renewed.started None).renewed before) cells →
    TakesTraces (program_of a) (diagram a) cells

-- Given that each instance lives through runs.
abbrev pub AnswersFollow : Type 0
AnswersFollow = (a : Parts) (v : Views a) (renewed : Renewed a v) → EachInstanceLives a v renewed →
    StartedAnswer a v renewed

-- Given that too, and the single ticks of the root.
abbrev pub TracesFollow : Type 0
TracesFollow = (a : Parts) (v : Views a) (renewed : Renewed a v) → EachInstanceLives a v renewed →
    RootTakesTicks a v renewed → StartedTakeTraces a v renewed

-- Given what the fields of systems hold, and what started instances answer: each system is started
-- and reset with all inside it.
abbrev pub RenewalsGoInside : Type 0
RenewalsGoInside = FormsAreOfSlots → (a : Parts) (v : Views a) (renewed : Renewed a v) →
    StartedAnswer a v renewed → AssembledRenews a

-- Given that the root starts, and what started instances answer.
abbrev pub RestartsFollow : Type 0
RestartsFollow = (a : Parts) (v : Views a) (renewed : Renewed a v) → InstancesHavePaths a →
    RootStarts a v renewed → StartedAnswer a v renewed → StartedTakeTraces a v renewed →
    AssembledRestarts a

-- A program that is started from any fields is started from zeros.
abbrev pub RunsFollow : Type 0
RunsFollow = (a : Parts) → ZerosHaveForms a → AssembledRestarts a →
    AssembledRunsRight a × AssembledAnswers a

-- Given that the program is lawful, and each part of right code.
abbrev pub CodeFollows : Type 0
CodeFollows = (a : Parts) →
    AssembledRunsRight a → AssembledAnswers a → AssembledRenews a → AssembledRestarts a →
    AssembledHasShape a → AssembledIsLeast a → AssembledIsLawful a → AssembledIsCode a
