-- How a call of the tool may end: for each ending what was found, what was written and what is printed.
use Rattle.std.specs.Prelude.{◌≡◌, ◌≢◌, ℕ, ◌⊎◌, List, [], Option, Some, None}
use Rattle.std.specs.Io.KnownBytes.{append_known}
use Rattle.base_refusals.specs.Refusals.{plain_refusal, refusal_line}
use Rattle.base_host.specs.Faults.{Rose}
use Rattle.base_host.specs.Files.{PutsFront}
use Rattle.tool_endings.specs.declared.ending.Ending.{Ending}
use Rattle.tool_endings.specs.declared.ending.Ending.TheVariants.{Compiled, Ran, Reported, Noded, Flowed, Usage, Refused, BadTrace, BadScript, CodeRefused, CodeTooLong, Stuck as IsStuck, LustreRefused, LustreTooLong, LustreLong, FlowStuck, ReadFault, WriteFault, PutFault, NoMemory}
use Rattle.tool_words.specs.Words.{Asked, Compile, Run, Exec, Profile, Drive, Gen, Lustre, Flow}
use Rattle.tool_endings.specs.Texts.{compiled_line, totals_line, nodes_line, ticks_line, usage_line, bad_line_line, script_stop_line, code_refused_line, long_code_line, stuck_line, lustre_refused_line, long_lustre_line, long_delay_line, flow_stuck_line, read_fault_line, write_fault_line, no_memory_line}
use Rattle.tool_endings.specs.Told.{HostTold, SinkTold, ReadsNone, NoFault}
use Rattle.tool_endings.specs.EndingsOfModels.{PutsNothing, EndsCompile, EndsProfiling}
use Rattle.tool_endings.specs.EndingsOfRuns.{EndsRunning, EndsExecuting}
use Rattle.tool_endings.specs.EndingsOfDriving.{EndsDriving}
use Rattle.tool_endings.specs.EndingsOfGenerating.{EndsGenerating}
use Rattle.tool_endings.specs.EndingsOfLustre.{EndsLustre}
use Rattle.tool_endings.specs.EndingsOfFlows.{EndsFlowing}

-- the status of an ending
abbrev pub status_of : Ending → ℕ
status_of (Compiled rows systems functions) = 0
status_of (Ran totals) = 0
status_of (Reported text) = 0
status_of (Noded nodes) = 0
status_of (Flowed ticks) = 0
status_of Usage = 2
status_of (Refused refusal) = 3
status_of (BadTrace line) = 4
status_of (BadScript stop) = 4
status_of ReadFault = 5
status_of WriteFault = 6
status_of PutFault = 7
status_of (CodeRefused fault) = 8
status_of CodeTooLong = 8
status_of (IsStuck at) = 9
status_of (FlowStuck at) = 9
status_of NoMemory = 10
status_of (LustreRefused fault) = 11
status_of LustreTooLong = 11
status_of (LustreLong place) = 11

-- the text of an ending, after the lines that were printed before it
abbrev pub text_of : Ending → List ℕ
text_of (Compiled rows systems functions) = compiled_line rows systems functions
text_of (Ran totals) = totals_line totals.ticks totals.steps totals.calls
text_of (Reported text) = text.items
text_of (Noded nodes) = nodes_line nodes
text_of (Flowed ticks) = ticks_line ticks
text_of Usage = usage_line
text_of (Refused refusal) = refusal_line (plain_refusal refusal)
text_of (BadTrace line) = bad_line_line line
text_of (BadScript stop) = script_stop_line stop
text_of ReadFault = read_fault_line
text_of WriteFault = write_fault_line
text_of PutFault = []
text_of (CodeRefused fault) = code_refused_line fault
text_of CodeTooLong = long_code_line
text_of (IsStuck at) = stuck_line at
text_of (FlowStuck at) = flow_stuck_line at
text_of NoMemory = no_memory_line
text_of (LustreRefused fault) = lustre_refused_line fault
text_of LustreTooLong = long_lustre_line
text_of (LustreLong place) = long_delay_line place

-- ---- All commands

-- no file was opened or written
pub record EndsUsage (h h' : HostTold) : Type 0 where
  pub unread : ReadsNone h h'
  pub written : h'.written ≡ h.written
  pub no_fault : NoFault h h'

-- where nothing lawful was asked for
abbrev pub EndsUnasked : Ending → HostTold → HostTold → Type 0
EndsUnasked Usage h h' = EndsUsage h h'
EndsUnasked NoMemory h h' = EndsUsage h h'
EndsUnasked _ h h' = ⊥

-- what was found, written and printed up to the ending's own text
abbrev pub Finds : Ending → Option Asked → HostTold → HostTold → SinkTold → SinkTold → Type 0
Finds e None h h' b b' = EndsUnasked e h h' × PutsNothing b b'
Finds e (Some (Compile model code)) h h' b b' = EndsCompile e model code h h' × PutsNothing b b'
Finds e (Some (Run model code trace)) h h' b b' = EndsRunning e model code trace h h' b b'
Finds e (Some (Exec code trace)) h h' b b' = EndsExecuting e code trace h h' b b'
Finds e (Some (Profile model)) h h' b b' = EndsProfiling e model h h' × PutsNothing b b'
Finds e (Some (Drive model code word script)) h h' b b' =
    EndsDriving e model code word script h h' b b'
Finds e (Some (Gen start size model code)) h h' b b' =
    EndsGenerating e start size model code h h' b b'
Finds e (Some (Lustre model file)) h h' b b' = EndsLustre e model file h h' × PutsNothing b b'
Finds e (Some (Flow file trace)) h h' b b' = EndsFlowing e file trace h h' b b'

-- an error of printing was counted where a line wasn't printed, and else none
abbrev pub CountsPuts : Ending → SinkTold → SinkTold → Type 0
CountsPuts PutFault b b' = Rose b.faults b'.faults
CountsPuts _ b b' = b'.faults ≡ b.faults

-- What an ending says of the words, of the host, and of the sink up to the ending's own text.
pub record Ends (e : Ending) (a : Option Asked) (h h' : HostTold) (b b' : SinkTold) : Type 0 where
  pub finds : Finds e a h h' b b'
  pub counts : CountsPuts e b b'

-- bytes were printed whole, and no count rose
pub record PutsWhole (bytes : List ℕ) (b b' : SinkTold) : Type 0 where
  pub text : b'.bytes ≡ append_known b.bytes bytes
  pub no_fault : b'.faults ≡ b.faults

-- a front of the bytes was printed, and an error was counted
pub record PutsPart (bytes : List ℕ) (b b' : SinkTold) : Type 0 where
  pub text : PutsFront b.bytes b'.bytes bytes
  pub rose : Rose b.faults b'.faults

-- an ending that reports no error of reading, writing or printing
pub record IsFaultless (e : Ending) : Type 0 where
  pub no_read_fault : e ≢ ReadFault
  pub no_write_fault : e ≢ WriteFault
  pub no_put_fault : e ≢ PutFault

-- the ending whose text is printed is the one that was found, or that memory ran out; an error that was
-- found is always reported
abbrev pub IsSaidOf : Ending → Ending → Type 0
IsSaidOf said found = (said ≡ found) ⊎ ((said ≡ NoMemory) × IsFaultless found)

-- the text was printed whole and this status is given, or a front of it was and the status is 7
abbrev pub PutsText : (status : ℕ) (text : List ℕ) → ℕ → SinkTold → SinkTold → Type 0
PutsText status text s b b' = ((s ≡ status) × PutsWhole text b b') ⊎ ((s ≡ 7) × PutsPart text b b')

-- the same of an ending
abbrev pub Puts : Ending → ℕ → SinkTold → SinkTold → Type 0
Puts e s b b' = PutsText (status_of e) (text_of e) s b b'

-- A call that gave this status ended in some way: what the words ask for, what was found and
-- written, and what was printed up to `before`, the sink with the lines that come before the ending's
-- text. After them that text was printed, or that for running out of memory.
pub record EndsAt (s : ℕ) (a : Option Asked) (h h' : HostTold) (b b' : SinkTold) : Type 0 where
  pub found : Ending
  pub said : Ending
  pub before : SinkTold
  pub ends : Ends found a h h' b before
  pub says : IsSaidOf said found
  pub puts : Puts said s before b'
