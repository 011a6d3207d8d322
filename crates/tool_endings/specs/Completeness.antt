-- What can be done, and which files a host is sure of.
use Rattle.std.specs.Prelude.{◌≡◌, ◌⊎◌, ℕ, ◌≤◌, Bool, true, false, List, length, Option, Some, None, IfSome, IsSomeAnd, ⊤}
use Rattle.base_fixed_point.specs.declared.types.FixType.{FixType}
use Rattle.base_host.specs.Files.{File, lookup}
use Rattle.diagram_meaning.specs.Diagram.{Diagram}
use Rattle.diagram_meaning.specs.ResolvedTable.{ResolvedTable, diagram_of_table}
use Rattle.c_syntax.specs.Tree.{ProgramTree}
use Rattle.c_rules.specs.Reading.{CText}
use Rattle.diagram_verdict.specs.Verdict.{HasVerdict, Accepted}
use Rattle.lustre_syntax.specs.Tree.{FileTree}
use Rattle.lustre_flows.specs.Flows.{flows}
use Rattle.lustre_right.specs.LongDelays.{long_delay}
use Rattle.tool_compiled.specs.Compilation.{root_types}
use Rattle.tool_endings.specs.declared.ending.Ending.{Ending}
use Rattle.tool_endings.specs.declared.ending.Ending.TheVariants.{ReadFault}
use Rattle.tool_generator.specs.Models.{model_text}
use Rattle.tool_driver.specs.Shapes.{Shape}
use Rattle.tool_system_driver.specs.SystemShapes.{IsShapeOf}
use Rattle.tool_system_driver.specs.Words.{system_named}
use Rattle.tool_script_runner.specs.ScriptEnds.{Whole, script_end}
use Rattle.tool_flow_runner.specs.FlowTraces.{flow_rows, flow_bad_line}
use Rattle.tool_words.specs.Words.{Asked, Compile, Run, Exec, Profile, Drive, Gen, Lustre, Flow}
use Rattle.tool_endings.specs.Told.{HostTold, SinkTold}
use Rattle.tool_endings.specs.Runs.{HasStepTypes, rows_over, bad_line}
use Rattle.tool_endings.specs.EndingsOfRuns.{code_limit}
use Rattle.tool_endings.specs.EndingsOfFlows.{ReadsLustre}
use Rattle.tool_endings.specs.Statuses.{Comes, OnTold, IsDone}
use Rattle.tool_endings.specs.Headline.{Calm}

-- ---- What can be done

-- the model of these bytes is accepted, and P holds of its diagram
abbrev pub OnAccepted : List ℕ → (Diagram → Type 0) → Type 0
OnAccepted model P = (r : ResolvedTable) × HasVerdict model (Accepted r) × P (diagram_of_table r)

-- no line of the trace is bad, and no tick over it stuck
pub record RunsFreely (p : ProgramTree) (types : List FixType) (trace : List ℕ) : Type 0 where
  pub good : bad_line types trace ≡ None
  pub free : (rows_over p types trace).stuck_place ≡ None

-- the code is not too long and has a reading, which runs freely over the trace
pub record CanExecute (code : List ℕ) (trace : Option (List ℕ)) : Type 0 where
  pub fits : length code ≤ code_limit
  pub program : ProgramTree
  pub reading : CText code program
  pub types : List FixType
  pub inputs : HasStepTypes program types
  pub runs : IsSomeAnd trace (λ lines. RunsFreely program types lines)

-- a system of the model is named, and each line of the script is a call that it allows
abbrev pub CanDrive : ResolvedTable → Option (Option ℕ) → Option (List ℕ) → Type 0
CanDrive r None script = ⊥
CanDrive r (Some system) script =
    (shape : Shape) × IsShapeOf r system shape
    × IsSomeAnd script (λ lines. script_end shape lines ≡ Whole)

-- no line of the trace is bad for the file, and no tick over it stuck
pub record FlowsFreely (f : FileTree) (trace : List ℕ) : Type 0 where
  pub good : flow_bad_line f trace ≡ None
  pub free : (flows f (flow_rows f trace)).stuck_place ≡ None

-- the file is not too long and has a reading, which flows freely over the trace
pub record CanFlow (bytes : List ℕ) (trace : Option (List ℕ)) : Type 0 where
  pub file : ReadsLustre bytes
  pub runs : IsSomeAnd trace (λ lines. FlowsFreely file.tree lines)

-- with these files what is asked for can be done: the model is accepted, also one that is made, and
-- has no delay that is too long for a file of Lustre, the code or the file of Lustre runs, no line
-- of the trace is bad, and the system is there and its script lawful
abbrev pub CanDo : Asked → List File → Type 0
CanDo (Compile model code) fs = IsSomeAnd (lookup model fs) (λ bytes. OnAccepted bytes (λ d. ⊤))
CanDo (Run model code trace) fs =
    IsSomeAnd (lookup model fs)
    (λ bytes.
    OnAccepted bytes (λ d. IsSomeAnd (lookup trace fs) (λ lines. bad_line (root_types d) lines
    ≡ None)))
CanDo (Exec code trace) fs =
    IsSomeAnd (lookup code fs) (λ bytes. CanExecute bytes (lookup trace fs))
CanDo (Profile model) fs = IsSomeAnd (lookup model fs) (λ bytes. OnAccepted bytes (λ d. ⊤))
CanDo (Drive model code word script) fs =
    IsSomeAnd (lookup model fs) (λ bytes.
    (r : ResolvedTable) × HasVerdict bytes (Accepted r)
    × CanDrive r (system_named r.table.rows word) (lookup script fs))
CanDo (Gen start size model code) fs = OnAccepted (model_text start size) (λ d. ⊤)
CanDo (Lustre model file) fs =
    IsSomeAnd (lookup model fs) (λ bytes. OnAccepted bytes (λ d. long_delay d ≡ None))
CanDo (Flow file trace) fs = IsSomeAnd (lookup file fs) (λ bytes. CanFlow bytes (lookup trace fs))

-- What can be done is done, unless memory runs out, where no count of errors rises or is at its
-- greatest value.
abbrev pub IsComplete : ℕ → Option Asked → (h h' : HostTold) (b b' : SinkTold) → Type 0
IsComplete s a h h' b b' = Calm h h' b b' → OnTold a h (λ a fs. CanDo a fs → IsDone s)

-- ---- Files that a host is sure of

-- the file that is read first, if one is, and the one that is read after it
abbrev pub first_file : Asked → Option (List ℕ)
first_file (Compile model code) = Some model
first_file (Run model code trace) = Some model
first_file (Exec code trace) = Some code
first_file (Profile model) = Some model
first_file (Drive model code word script) = Some model
first_file (Gen start size model code) = None
first_file (Lustre model file) = Some model
first_file (Flow file trace) = Some file

abbrev pub second_file : Asked → Option (List ℕ)
second_file (Compile model code) = None
second_file (Run model code trace) = Some trace
second_file (Exec code trace) = Some trace
second_file (Profile model) = None
second_file (Drive model code word script) = Some script
second_file (Gen start size model code) = None
second_file (Lustre model file) = None
second_file (Flow file trace) = Some trace

-- the host is sure of the first file, and whatever it becomes with the files that it reports, of the
-- second
pub record IsSureOf {H : Type 0} (files : H → Option (List File)) (sure : H → List ℕ → Bool) (h : H)
    (a : Asked) : Type 0 where
  pub first : IfSome (first_file a) (λ name. sure h name ≡ true)
  pub second : IfSome (second_file a) (λ name. (later : H) → files later ≡ files h →
      sure later name ≡ true)

-- as it may become with the files that it reports, the host is not sure of the file of this name
pub record BecomesUnsureOf {H : Type 0} (files : H → Option (List File)) (sure : H → List ℕ → Bool)
    (h : H) (name : List ℕ) : Type 0 where
  pub later : H
  pub same : files later ≡ files h
  pub unsure : sure later name ≡ false

-- the host is not sure of the first file, or may come to be not sure of the second
abbrev pub IsUnsureOf : {H : Type 0} (files : H → Option (List File)) (sure : H → List ℕ → Bool) →
    H → Asked → Type 0
IsUnsureOf files sure h a =
    IsSomeAnd (first_file a) (λ name. sure h name ≡ false)
    ⊎ IsSomeAnd (second_file a) (BecomesUnsureOf files sure h)

-- a file of this name is asked for, and is not among these
abbrev pub IsMissing : Option (List ℕ) → List File → Type 0
IsMissing name fs = IsSomeAnd name (λ name. lookup name fs ≡ None)

-- a file that is read is not among these
abbrev pub LacksOne : Asked → List File → Type 0
LacksOne a fs = IsMissing (first_file a) fs ⊎ IsMissing (second_file a) fs

-- and it is needed: with these files what is asked for comes to no status
pub record LacksFile (a : Asked) (fs : List File) : Type 0 where
  pub one : LacksOne a fs
  pub needed : (n : ℕ) → Comes a fs n → ⊥

-- P holds where the ending is an error of reading
abbrev pub IfReadFault : Ending → Type 0 → Type 0
IfReadFault ReadFault P = P
IfReadFault _ P = ⊤
