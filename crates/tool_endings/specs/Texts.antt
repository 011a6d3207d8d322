-- The lines that the program prints.
use Rattle.std.specs.Prelude.{ℕ, List, [], ◌∷◌, ◌++◌, codes, decimal}
use Rattle.base_core.specs.Bytes.{line_of_words}
use Rattle.base_core.specs.Words.{at_line}
use Rattle.base_core.specs.declared.base.Place.{Place}
use Rattle.c_syntax.specs.declared.fault.CFault.{CFault}
use Rattle.c_syntax.specs.declared.fault.CKind.{CKind}
use Rattle.c_syntax.specs.declared.fault.CKind.TheVariants.{Syntax, Deep, Name, TypeRule}
use Rattle.c_syntax.specs.declared.fault.Stuck.{Stuck}
use Rattle.c_syntax.specs.declared.fault.Why.{Why}
use Rattle.c_syntax.specs.declared.fault.Why.TheVariants.{Overflow, ZeroDivisor, Range, Steps, Index}
use Rattle.lustre_flows.specs.declared.stuck.LusStuck.{LusStuck}
use Rattle.lustre_flows.specs.declared.stuck.LusWhy.{LusWhy}
use Rattle.lustre_flows.specs.declared.stuck.LusWhy.TheVariants as why
use Rattle.tool_traces.specs.declared.rows.BadLine.{BadLine}
use Rattle.tool_traces.specs.declared.rows.BadWhy.{BadWhy}
use Rattle.tool_traces.specs.declared.rows.BadWhy.TheVariants as bad
use Rattle.tool_script_runner.specs.FaultTexts.{bad_call_line, refused_call_line}
use Rattle.tool_endings.specs.declared.ending.ScriptStop.{ScriptStop}
use Rattle.tool_endings.specs.declared.ending.ScriptStop.TheVariants.{NoSubsystem, Line, Call}

-- `compiled rows R systems S functions F`
abbrev pub compiled_line : (rows systems functions : ℕ) → List ℕ
compiled_line rows systems functions =
    codes "compiled rows " ++ decimal rows ++ codes " systems " ++ decimal systems
    ++ codes " functions " ++ decimal functions ++ 10 ∷ []

-- `ticks T steps N calls C`
abbrev pub totals_line : (ticks steps calls : ℕ) → List ℕ
totals_line ticks steps calls =
    codes "ticks " ++ decimal ticks ++ codes " steps " ++ decimal steps ++ codes " calls "
    ++ decimal calls ++ 10 ∷ []

-- `lustre nodes N`
abbrev pub nodes_line : ℕ → List ℕ
nodes_line nodes = codes "lustre nodes " ++ decimal nodes ++ 10 ∷ []

-- `ticks T`
abbrev pub ticks_line : ℕ → List ℕ
ticks_line ticks = codes "ticks " ++ decimal ticks ++ 10 ∷ []

-- how each command is written
abbrev pub usage_line : List ℕ
usage_line =
    codes "usage: mdlc compile MODEL CODE | run MODEL CODE TRACE | exec CODE TRACE | profile MODEL | drive MODEL CODE SUBSYSTEM SCRIPT | gen START SIZE MODEL CODE | lustre MODEL FILE | flow FILE TRACE"
    ++ 10 ∷ []

-- why a line of a trace is no row, with the number of fields or that of the field
abbrev pub bad_words : BadWhy → List (List ℕ)
bad_words bad.Long = codes "Long" ∷ []
bad_words bad.Many = codes "Many" ∷ []
bad_words (bad.Count found) = codes "Count" ∷ decimal found ∷ []
bad_words (bad.Form field) = codes "Form" ∷ decimal field ∷ []
bad_words (bad.Range field) = codes "Range" ∷ decimal field ∷ []

-- a line of a trace that is no row
abbrev pub bad_line_line : BadLine → List ℕ
bad_line_line line = line_of_words (codes "trace" ∷ at_line line.line (bad_words line.why))

abbrev pub kind_word : CKind → List ℕ
kind_word Syntax = codes "Syntax"
kind_word Deep = codes "Deep"
kind_word Name = codes "Name"
kind_word TypeRule = codes "Type"

-- a text that is refused, by what it should be, with the line and the word of its error
abbrev pub refused_line : List ℕ → ℕ → List ℕ → List ℕ
refused_line kind line word = line_of_words (kind ∷ codes "refused" ∷ at_line line (word ∷ []))

-- bytes that are no program, and too many
abbrev pub code_refused_line : CFault → List ℕ
code_refused_line fault = refused_line (codes "code") fault.line (kind_word fault.kind)

abbrev pub long_code_line : List ℕ
long_code_line = codes "code refused TooLong" ++ 10 ∷ []

-- bytes that are no file of Lustre, and too many
abbrev pub lustre_refused_line : CFault → List ℕ
lustre_refused_line fault = refused_line (codes "lustre") fault.line (kind_word fault.kind)

abbrev pub long_lustre_line : List ℕ
long_lustre_line = codes "lustre refused TooLong" ++ 10 ∷ []

-- a delay that is too long for a file of Lustre
abbrev pub long_delay_line : Place → List ℕ
long_delay_line place = refused_line (codes "lustre") place.line (codes "LongDelay")

abbrev pub stuck_word : Why → List ℕ
stuck_word Overflow = codes "Overflow"
stuck_word ZeroDivisor = codes "ZeroDivisor"
stuck_word Range = codes "Range"
stuck_word Steps = codes "Steps"
stuck_word Index = codes "Index"

abbrev pub flow_word : LusWhy → List ℕ
flow_word why.Overflow = codes "Overflow"
flow_word why.ZeroDivisor = codes "ZeroDivisor"
flow_word why.Pre = codes "Pre"
flow_word why.Cycle = codes "Cycle"

-- a line where a run is stuck, with a word on why
abbrev pub stuck_at : ℕ → List ℕ → List ℕ
stuck_at line word = line_of_words (codes "stuck" ∷ at_line line (word ∷ []))

-- where the machine is stuck, and where flows are
abbrev pub stuck_line : Stuck → List ℕ
stuck_line at = stuck_at at.line (stuck_word at.why)

abbrev pub flow_stuck_line : LusStuck → List ℕ
flow_stuck_line at = stuck_at at.line (flow_word at.why)

-- no system of the model has this name
abbrev pub no_subsystem_line : List ℕ
no_subsystem_line = codes "script line 0 NoSubsystem" ++ 10 ∷ []

-- what stops a script before its end
abbrev pub script_stop_line : ScriptStop → List ℕ
script_stop_line NoSubsystem = no_subsystem_line
script_stop_line (Line bad) = bad_call_line bad
script_stop_line (Call refused) = refused_call_line refused

-- an error of reading, of writing, and running out of memory
abbrev pub read_fault_line : List ℕ
read_fault_line = codes "read fault" ++ 10 ∷ []

abbrev pub write_fault_line : List ℕ
write_fault_line = codes "write fault" ++ 10 ∷ []

abbrev pub no_memory_line : List ℕ
no_memory_line = codes "no memory" ++ 10 ∷ []
