-- How `run` ends, by what its parts come to.
use Rattle.std.proofs.Common.{◌≡◌, ℕ, ◌⊎◌, inr, List, length, refl, sym, subst, ◌∙◌}
use Rattle.std.specs.Prelude.{Some, None}
use Rattle.std.specs.List.{AllZip}
use Rattle.base_fixed_point.specs.declared.types.FixType.{FixType}
use Rattle.base_host.specs.Faults.{Rose}
use Rattle.base_host.specs.Files.{add_file}
use Rattle.c_syntax.specs.declared.fault.Stuck.{Stuck}
use Rattle.c_syntax.specs.Tree.{ProgramTree}
use Rattle.c_reading_laws.specs.Agreement.{ReadingsAgree}
use Rattle.c_interpreter.specs.States.{MachineState, tree_of}
use Rattle.tool_runner.specs.Ticks.{IsNarrower}
use Rattle.diagram_meaning.specs.ResolvedTable.{diagram_of_table}
use Rattle.tool_compiled.specs.Compilation.{Compilation, root_types, IsCompiledFrom}
use Rattle.tool_endings.specs.declared.ending.Ending.{Ending}
use Rattle.tool_endings.specs.declared.ending.Ending.TheVariants.{Ran, BadTrace, CodeRefused, Stuck as IsStuck, ReadFault, PutFault, NoMemory}
use Rattle.tool_words.specs.Words.{Run}
use Rattle.tool_endings.specs.Told.{HostTold, SinkTold}
use Rattle.tool_endings.specs.Runs.{HasStepTypes, rows_in, rows_over, RunsTaken, RunsTo}
use Rattle.tool_endings.specs.EndingsOfModels.{OnBytes, OpensNothing, LeavesHost, EndsNoMemory}
use Rattle.tool_endings.specs.EndingsOfRuns.{ReadsToEnd, TakesFile, WritesWhole, RunsModel, LosesTrace}
use Rattle.tool_endings.specs.Endings.{CountsPuts, Finds, Ends}
use Rattle.tool_endings.specs.Acting.{WritesCompiled, NotStarted, StartsFrom, RunEnds}
use Rattle.tool_commands.proofs.CompileLaws.{no-faults, whole-front}
use Rattle.tool_endings.proofs.lemmas.TraceTypes.{rows-trace}
use Rattle.tool_commands.proofs.RootTypes.{step-types}
use Rattle.tool_steps.proofs.lemmas.TwoFiles.{on-bytes, lost}
use Rattle.tool_steps.proofs.lemmas.RightStarts.{starts-right}

-- a machine of the code that a model was compiled to has its program, and takes all numbers of its inputs
program-is : (c : Compilation) (m : MachineState) (bytes : List ℕ) (from : IsCompiledFrom bytes c) →
    StartsFrom c.code m → tree_of m ≡ from.compiled.code.program
program-is c m bytes from starts = from.compiled.code.only (tree_of m) starts.reading

pub inputs-fit : ReadingsAgree → (c : Compilation) (m : MachineState) (bytes : List ℕ) → IsCompiledFrom bytes c →
    StartsFrom c.code m → AllZip IsNarrower c.inputs m.program.inputs
inputs-fit agree c m bytes from starts =
    let p : ProgramTree = from.compiled.code.program in
    subst (λ (types : List FixType). AllZip IsNarrower types m.program.inputs) (sym from.compiled.inputs)
    (step-types (diagram_of_table from.resolved) p from.resolved.times.hyper m.program.inputs
    (agree.lawful c.code p from.compiled.code.reads) from.compiled.code.code.shape.root
    (subst (λ (q : ProgramTree). HasStepTypes q m.program.inputs) (program-is c m bytes from starts) starts.inputs))

-- what is known of the machine's program holds of the program that the code is
pub as-compiled : (c : Compilation) (m : MachineState) (bytes : List ℕ) (P : ProgramTree → List FixType → Type 0)
    (from : IsCompiledFrom bytes c) → StartsFrom c.code m → P (tree_of m) c.inputs →
    P from.compiled.code.program (root_types (diagram_of_table from.resolved))
as-compiled c m bytes P from starts run =
    subst (λ (types : List FixType). P from.compiled.code.program types) from.compiled.inputs
    (subst (λ (q : ProgramTree). P q c.inputs) (program-is c m bytes from starts) run)

abbrev whole-of : (c : Compilation) (code bytes : List ℕ) (h h' : HostTold) → IsCompiledFrom bytes c →
    h'.written ≡ add_file h.written code c.code → WritesWhole code bytes h h'
whole-of c code bytes h h' from written =
    record {
      resolved = from.resolved;
      verdict = from.verdict;
      compilation = c;
      right = from.compiled;
      noted = from.noted;
      written = written;
    }

model-found : (e : Ending) (model code trace : List ℕ) (c : Compilation) (m : MachineState) (h h1 h' : HostTold)
    (b b' : SinkTold) → WritesCompiled c model code h h1 → StartsFrom c.code m → h'.written ≡ h1.written →
    ReadsToEnd e h' → OnBytes h1 trace (λ lines. RunsTo e (tree_of m) c.inputs lines b b') →
    OnBytes h model (λ bytes. RunsModel e trace code bytes h h' b b')
model-found e model code trace c m h h1 h' b b' w starts written end run =
    let bytes : List ℕ = w.model.bytes in
    let from : IsCompiledFrom bytes c = w.model.holds in
    let types : List FixType = root_types (diagram_of_table from.resolved) in record {
      bytes = bytes;
      file = w.model.file;
      holds = record {
        whole = whole-of c code bytes h h' from (written ∙ w.written);
        runs = on-bytes model trace h h1 (λ lines. RunsTo e (tree_of m) c.inputs lines b b')
            (λ lines. RunsTo e from.compiled.code.program types lines b b') w.told w.files (λ lines runs.
            as-compiled c m bytes (λ p inputs. RunsTo e p inputs lines b b') from starts runs) run;
        end = end;
      };
    }

model-lost : (model code trace : List ℕ) (c : Compilation) (m : MachineState) (h h1 h' : HostTold) (b b' : SinkTold) →
    WritesCompiled c model code h h1 → StartsFrom c.code m → h'.written ≡ h1.written →
    OpensNothing 0 h1 h' b b' ⊎ TakesFile 0 (tree_of m) c.inputs trace h1 h' b b' →
    OnBytes h model (λ bytes. LosesTrace trace code bytes h h' b b')
model-lost model code trace c m h h1 h' b b' w starts written lines =
    let bytes : List ℕ = w.model.bytes in
    let from : IsCompiledFrom bytes c = w.model.holds in
    let types : List FixType = root_types (diagram_of_table from.resolved) in record {
      bytes = bytes;
      file = w.model.file;
      holds = record {
        whole = whole-of c code bytes h h' from (written ∙ w.written);
        lines = lost model trace (length bytes) h h1 h' b b' (tree_of m) from.compiled.code.program c.inputs types w.told w.files w.given
            (λ taken runs. as-compiled c m bytes (λ p inputs. RunsTaken p inputs taken b b') from starts runs) lines;
      };
    }

-- right code is stuck over no trace
pub never-stuck : (at : Stuck) (c : Compilation) (m : MachineState) (bytes lines : List ℕ) → IsCompiledFrom bytes c →
    StartsFrom c.code m → (rows_over (tree_of m) c.inputs lines).stuck_place ≡ Some at → ⊥
never-stuck at c m bytes lines from starts sticks =
    let p : ProgramTree = from.compiled.code.program in
    let types : List FixType = root_types (diagram_of_table from.resolved) in
    let moved : (rows_over p types lines).stuck_place ≡ Some at =
    as-compiled c m bytes (λ q inputs. (rows_over q inputs lines).stuck_place ≡ Some at) from starts sticks in
    let free : (rows_over p types lines).stuck_place ≡ None =
    (from.compiled.code.code.runs.bounded (rows_in types lines)
    (rows-trace (diagram_of_table from.resolved) lines)).not_stuck in
    cc (sym free ∙ moved)

-- memory ran out after the writing of the code
no-more : (model code : List ℕ) (c : Compilation) (h h1 h' : HostTold) → WritesCompiled c model code h h1 →
    LeavesHost h1 h' → EndsNoMemory model code h h'
no-more model code c h h1 h' w left = record {
  written = inr (record {
    bytes = w.model.bytes;
    file = w.model.file;
    holds = whole-front code w.model.bytes h h' (whole-of c code w.model.bytes h h' w.model.holds (left.written ∙ w.written));
  });
  no_fault = no-faults h h1 h' w.no_fault left.no_fault;
}

run-finds : (e : Ending) (model code trace : List ℕ) (c : Compilation) (m : MachineState) (h h1 h' : HostTold)
    (b b' : SinkTold) → WritesCompiled c model code h h1 → StartsFrom c.code m →
    RunEnds e (tree_of m) c.inputs trace h1 h' b b' → Finds e (Some (Run model code trace)) h h' b b'
run-finds (Ran totals) model code trace c m h h1 h' b b' w starts run =
    record {
      model = model-found (Ran totals) model code trace c m h h1 h' b b' w starts run.left.written run.end
          run.lines;
      no_fault = no-faults h h1 h' w.no_fault run.left.no_fault;
    }
run-finds (BadTrace line) model code trace c m h h1 h' b b' w starts run =
    record {
      model = model-found (BadTrace line) model code trace c m h h1 h' b b' w starts run.left.written run.end
          run.lines;
      no_fault = no-faults h h1 h' w.no_fault run.left.no_fault;
    }
run-finds (IsStuck at) model code trace c m h h1 h' b b' w starts run =
    absurd (never-stuck at c m w.model.bytes run.lines.bytes w.model.holds starts run.lines.holds.stuck)
run-finds PutFault model code trace c m h h1 h' b b' w starts run =
    record {
      model = model-found PutFault model code trace c m h h1 h' b b' w starts run.left.written run.end run.lines;
      no_fault = no-faults h h1 h' w.no_fault run.left.no_fault;
    }
run-finds ReadFault model code trace c m h h1 h' b b' w starts run =
    inr (
      subst (λ (n : ℕ). Rose n h'.read_faults) w.no_fault.read run.rose,
      model-lost model code trace c m h h1 h' b b' w starts run.written run.lines,
    )
run-finds NoMemory model code trace c m h h1 h' b b' w starts run = (no-more model code c h h1 h' w run.left, run.silent)
run-finds _ model code trace c m h h1 h' b b' w starts run = absurd run

pub run_ends : (e : Ending) (model code trace : List ℕ) (c : Compilation) (m : MachineState) (h h1 h' : HostTold)
    (b b' : SinkTold) → WritesCompiled c model code h h1 → StartsFrom c.code m →
    RunEnds e (tree_of m) c.inputs trace h1 h' b b' → CountsPuts e b b' → Ends e (Some (Run model code trace)) h h' b b'
run_ends e model code trace c m h h1 h' b b' w starts run counts =
    record { finds = run-finds e model code trace c m h h1 h' b b' w starts run; counts = counts }

-- memory ran out before the run
run_forgets : (model code trace : List ℕ) (c : Compilation) (h h1 : HostTold) (b : SinkTold) →
    WritesCompiled c model code h h1 → Ends NoMemory (Some (Run model code trace)) h h1 b b
run_forgets model code trace c h h1 b w = record {
  finds = (no-more model code c h h1 h1 w (record { written = refl; no_fault = record { read = refl; write = refl } }), refl);
  counts = refl;
}

-- that right code is not run comes of memory alone
pub run_unstarted : ReadingsAgree →
    (e : Ending) (model code trace : List ℕ) (c : Compilation) (h h1 : HostTold) (b : SinkTold) →
    WritesCompiled c model code h h1 → NotStarted c.code e → Ends e (Some (Run model code trace)) h h1 b b
run_unstarted agree NoMemory model code trace c h h1 b w none = run_forgets model code trace c h h1 b w
run_unstarted agree (CodeRefused fault) model code trace c h h1 b w none =
    absurd (agree.apart c.code w.model.holds.compiled.code.program fault w.model.holds.compiled.code.reads none)
run_unstarted agree (IsStuck at) model code trace c h h1 b w none =
    absurd (starts-right w.model.holds.resolved c w.model.holds.compiled none.0 at none.2.0 none.1 none.2.1)
run_unstarted agree _ model code trace c h h1 b w none = absurd none
