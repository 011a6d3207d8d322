-- When each status comes.
use Rattle.std.specs.Prelude.{◌≡◌, ◌≢◌, ◌⊎◌, ℕ, ◌<◌, ◌≤◌, List, length, Option, Some, None, IsSomeAnd, IfSome, OnSome}
use Rattle.base_core.specs.declared.base.Place.{Place}
use Rattle.base_refusals.specs.Refusals.{PlainRefusal}
use Rattle.base_fixed_point.specs.declared.types.FixType.{FixType}
use Rattle.base_host.specs.Files.{File, lookup}
use Rattle.diagram_meaning.specs.Diagram.{Diagram}
use Rattle.diagram_meaning.specs.ResolvedTable.{ResolvedTable, diagram_of_table}
use Rattle.tool_traces.specs.declared.rows.BadLine.{BadLine}
use Rattle.c_syntax.specs.declared.fault.CFault.{CFault}
use Rattle.c_syntax.specs.declared.fault.Stuck.{Stuck}
use Rattle.c_syntax.specs.Tree.{ProgramTree}
use Rattle.c_semantics.specs.Machine.{Outcome, done, stuck}
use Rattle.c_semantics.specs.Rows.{start_run}
use Rattle.c_rules.specs.Reading.{CText, CFaultOf}
use Rattle.diagram_verdict.specs.Verdict.{HasVerdict, Accepted, Refused}
use Rattle.lustre_syntax.specs.Tree.{FileTree}
use Rattle.lustre_rules.specs.Reading.{LustreFaultOf}
use Rattle.lustre_flows.specs.declared.stuck.LusStuck.{LusStuck}
use Rattle.lustre_flows.specs.Flows.{flows}
use Rattle.lustre_right.specs.LongDelays.{long_delay}
use Rattle.tool_compiled.specs.Compilation.{root_types}
use Rattle.tool_generator.specs.Models.{model_text}
use Rattle.tool_driver.specs.Shapes.{Shape}
use Rattle.tool_system_driver.specs.SystemShapes.{IsShapeOf}
use Rattle.tool_system_driver.specs.Words.{system_named}
use Rattle.tool_script_runner.specs.ScriptEnds.{ScriptEnd, Whole, AtLine, AtCall, script_end}
use Rattle.tool_flow_runner.specs.FlowTraces.{flow_rows, flow_bad_line}
use Rattle.tool_words.specs.Words.{Asked, Compile, Run, Exec, Profile, Drive, Gen, Lustre, Flow}
use Rattle.tool_endings.specs.Told.{HostTold}
use Rattle.tool_endings.specs.Runs.{HasStepTypes, rows_over, bad_line}
use Rattle.tool_endings.specs.EndingsOfRuns.{code_limit}
use Rattle.tool_endings.specs.EndingsOfFlows.{ReadsLustre}

-- no status that an error or running out of memory gives
pub record IsPlain (s : ℕ) : Type 0 where
  pub no_read_fault : s ≢ 5
  pub no_write_fault : s ≢ 6
  pub no_put_fault : s ≢ 7
  pub no_want_of_memory : s ≢ 10

-- no status that an error gives
pub record TellsNoFault (s : ℕ) : Type 0 where
  pub no_read_fault : s ≢ 5
  pub no_write_fault : s ≢ 6
  pub no_put_fault : s ≢ 7

-- the status is n exactly where P, except for errors and running out of memory
pub record IsExactly (n s : ℕ) (P : Type 0) : Type 0 where
  pub only : s ≡ n → P
  pub wherever : P → IsPlain s → s ≡ n

-- ---- What is done with files, where nothing fails

-- a model that is refused gives status 3, and one that is accepted what P says of its diagram
abbrev pub ModelComes : List ℕ → ℕ → (Diagram → Type 0) → Type 0
ModelComes model n P =
    ((refusal : PlainRefusal) × HasVerdict model (Refused refusal) × (n ≡ 3))
    ⊎ ((r : ResolvedTable) × HasVerdict model (Accepted r) × P (diagram_of_table r))

-- the status of a run, by the place where it is stuck and by the first bad line of its trace
abbrev pub run_status : Option Stuck → Option BadLine → ℕ
run_status (Some at) bad = 9
run_status None (Some line) = 4
run_status None None = 0

-- the status of a run of a program over a trace with numbers of these types
abbrev pub status_over : ProgramTree → List FixType → List ℕ → ℕ
status_over p types trace = run_status (rows_over p types trace).stuck_place (bad_line types trace)

-- a program that is stuck in its start gives status 9, and else what its run over the trace gives
abbrev pub ProgramComes : ProgramTree → Outcome → Option (List ℕ) → ℕ → Type 0
ProgramComes p (stuck at cells) trace n = n ≡ 9
ProgramComes p (done after) trace n =
    (types : List FixType) × HasStepTypes p types
    × IsSomeAnd trace (λ bytes. n ≡ status_over p types bytes)

-- bytes that are too many or no text of a program give status 8
abbrev pub CodeComes : List ℕ → Option (List ℕ) → ℕ → Type 0
CodeComes code trace n =
    ((code_limit < length code) × (n ≡ 8))
    ⊎ ((length code ≤ code_limit) × ((fault : CFault) × CFaultOf code fault × (n ≡ 8)))
    ⊎ ((length code ≤ code_limit)
    × ((p : ProgramTree) × CText code p × ProgramComes p (start_run p) trace n))

-- the status of a script with this end
abbrev pub status_at : ScriptEnd → ℕ
status_at Whole = 0
status_at (AtLine bad) = 4
status_at (AtCall refused) = 4

-- a word that names no system gives status 4, and one that does what the script comes to on that
-- system
abbrev pub SystemComes : ResolvedTable → Option (Option ℕ) → Option (List ℕ) → ℕ → Type 0
SystemComes r None script n = n ≡ 4
SystemComes r (Some system) script n =
    (shape : Shape) × IsShapeOf r system shape
    × IsSomeAnd script (λ lines. n ≡ status_at (script_end shape lines))

-- a model that is refused gives status 3, and one that is accepted what the word and the script
-- come to
abbrev pub DriveComes : (model word : List ℕ) → Option (List ℕ) → ℕ → Type 0
DriveComes model word script n =
    ((refusal : PlainRefusal) × HasVerdict model (Refused refusal) × (n ≡ 3))
    ⊎ ((r : ResolvedTable) × HasVerdict model (Accepted r)
    × SystemComes r (system_named r.table.rows word) script n)

-- the status of writing a model as Lustre, by its first delay that is too long
abbrev pub lustre_status : Option Place → ℕ
lustre_status (Some place) = 11
lustre_status None = 0

-- the status of flows, by the place where they are stuck and by the first bad line of their trace
abbrev pub flow_status : Option LusStuck → Option BadLine → ℕ
flow_status (Some at) bad = 9
flow_status None (Some line) = 4
flow_status None None = 0

-- the status of the flows of a file over a trace
abbrev pub flow_status_over : FileTree → List ℕ → ℕ
flow_status_over f trace =
    flow_status (flows f (flow_rows f trace)).stuck_place (flow_bad_line f trace)

-- bytes that are too many or no text of a file of Lustre give status 11, and a file what its flows
-- over the trace give
abbrev pub FlowComes : List ℕ → Option (List ℕ) → ℕ → Type 0
FlowComes bytes trace n =
    ((code_limit < length bytes) × (n ≡ 11))
    ⊎ ((length bytes ≤ code_limit) × ((fault : CFault) × LustreFaultOf bytes fault × (n ≡ 11)))
    ⊎ ((file : ReadsLustre bytes)
    × IsSomeAnd trace (λ lines. n ≡ flow_status_over file.tree lines))

-- with these files, what is asked for comes to this status where nothing fails
abbrev pub Comes : Asked → List File → ℕ → Type 0
Comes (Compile model code) fs n =
    IsSomeAnd (lookup model fs) (λ bytes. ModelComes bytes n (λ d. n ≡ 0))
Comes (Run model code trace) fs n =
    IsSomeAnd (lookup model fs) (λ bytes. ModelComes bytes n (λ d.
    IsSomeAnd (lookup trace fs) (λ lines. n ≡ run_status None (bad_line (root_types d) lines))))
Comes (Exec code trace) fs n =
    IsSomeAnd (lookup code fs) (λ bytes. CodeComes bytes (lookup trace fs) n)
Comes (Profile model) fs n = IsSomeAnd (lookup model fs) (λ bytes. ModelComes bytes n (λ d. n ≡ 0))
Comes (Drive model code word script) fs n =
    IsSomeAnd (lookup model fs) (λ bytes. DriveComes bytes word (lookup script fs) n)
Comes (Gen start size model code) fs n = ModelComes (model_text start size) n (λ d. n ≡ 0)
Comes (Lustre model file) fs n =
    IsSomeAnd (lookup model fs) (λ bytes. ModelComes bytes n (λ d.
    n ≡ lustre_status (long_delay d)))
Comes (Flow file trace) fs n =
    IsSomeAnd (lookup file fs) (λ bytes. FlowComes bytes (lookup trace fs) n)

-- except for errors and running out of memory, the status is n exactly where what is asked for comes to n
pub record ComesExactly (s : ℕ) (a : Asked) (fs : List File) : Type 0 where
  pub only : IsPlain s → Comes a fs s
  pub wherever : (n : ℕ) → Comes a fs n → IsPlain s → s ≡ n

-- where something lawful is asked for and the host reports its files
abbrev pub OnTold : Option Asked → HostTold → (Asked → List File → Type 0) → Type 0
OnTold a h P = IfSome a (λ a. IfSome h.files (λ fs. OnSome h.rest (P a fs)))

-- ---- Files of a host

-- where the host reports its files: if a file of this name is there, P holds of the first one's bytes
abbrev pub IfFile : HostTold → List ℕ → (List ℕ → Type 0) → Type 0
IfFile h name P = IfSome h.files (λ fs. OnSome h.rest (IfSome (lookup name fs) P))

-- the work is done, unless memory ran out
abbrev pub IsDone : ℕ → Type 0
IsDone s = (s ≡ 0) ⊎ (s ≡ 10)
