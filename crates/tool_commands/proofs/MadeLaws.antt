-- How `gen` ends, by what its parts come to.
use Rattle.std.proofs.Common.{◌≡◌, ℕ, inl, inr, List, refl, sym, ap, subst, ◌∙◌}
use Rattle.std.specs.Prelude.{Some}
use Rattle.base_refusals.specs.declared.refusal.Refusal.{Refusal}
use Rattle.base_refusals.specs.Refusals.{plain_refusal}
use Rattle.base_host.specs.Faults.{Rose}
use Rattle.base_fixed_point.specs.declared.types.FixType.{FixType}
use Rattle.c_syntax.specs.Tree.{ProgramTree}
use Rattle.c_reading_laws.specs.Agreement.{ReadingsAgree}
use Rattle.c_interpreter.specs.States.{MachineState, tree_of}
use Rattle.diagram_verdict.specs.Verdict.{HasVerdict, Refused as IsRefused}
use Rattle.tool_compiled.specs.Compilation.{Compilation, IsCompiledFrom}
use Rattle.tool_generator.specs.Models.{model_text, trace_text}
use Rattle.right_generated.specs.Laws.{GeneratedTracesAreRows}
use Rattle.tool_traces.specs.declared.rows.BadLine.{BadLine}
use Rattle.tool_endings.specs.declared.ending.Ending.{Ending}
use Rattle.tool_endings.specs.declared.ending.Ending.TheVariants.{Ran, Refused, BadTrace, CodeRefused, Stuck as IsStuck, WriteFault, PutFault, NoMemory}
use Rattle.tool_words.specs.Words.{Gen}
use Rattle.tool_endings.specs.Told.{HostTold, SinkTold, ReadsNone}
use Rattle.tool_endings.specs.Runs.{bad_line, RunsTo, RunsToBadLine}
use Rattle.tool_endings.specs.EndingsOfModels.{LeavesHost}
use Rattle.tool_endings.specs.EndingsOfGenerating.{WritesBoth, WritesFrontOfTwo, line_of, with_line, RunsMade}
use Rattle.tool_endings.specs.Endings.{CountsPuts, Ends, PutsWhole}
use Rattle.tool_endings.specs.Acting.{StartsFrom, NotStarted, WritesMade, NotMade, NotPut, RowsEnd}
use Rattle.tool_steps.proofs.lemmas.RightStarts.{starts-right}
use Rattle.tool_steps.proofs.lemmas.SameSinks.{same-sink}
use Rattle.tool_commands.proofs.CodeLaws.{as-compiled, never-stuck}

-- ---- A model that wasn't made

pub unmade_refused : (refusal : Refusal) (start size : ℕ) (model code : List ℕ) (h h' : HostTold) →
    HasVerdict (model_text start size) (IsRefused (plain_refusal refusal)) → ReadsNone h h' → LeavesHost h h' →
    NotMade (Refused refusal) start size model code h h'
unmade_refused refusal start size model code h h' verdict none left =
    λ b. record { finds = (record { verdict = verdict; unread = none; left = left }, refl); counts = refl }

pub unmade_written : (c : Compilation) (start size : ℕ) (model code : List ℕ) (h h' : HostTold) →
    IsCompiledFrom (model_text start size) c → Rose h.write_faults h'.write_faults →
    WritesFrontOfTwo h.written h'.written model (model_text start size) code c.code →
    NotMade WriteFault start size model code h h'
unmade_written c start size model code h h' from rose front =
    λ b. record { finds = (record { rose = rose; fronts = record { compilation = c; right = from; front = front } }, refl); counts = refl }

-- ---- One that was

module _ (c : Compilation) (start size : ℕ) (model code : List ℕ) (h h' : HostTold) (w : WritesMade c start size model code h h') where
  abbrev both-of : WritesBoth start size model code h h'
  both-of = record {
    resolved = w.from.resolved;
    verdict = w.from.verdict;
    compilation = c;
    right = w.from.compiled;
    noted = w.from.noted;
    written = w.written;
  }

  -- no line of the trace that is made is bad for the inputs of the model
  never-bad : GeneratedTracesAreRows → (line : BadLine) (p : ProgramTree) (b b' : SinkTold) →
      RunsToBadLine line p c.inputs (trace_text start size) b b' → ⊥
  never-bad good line p b b' run =
      cc (sym run.bad ∙ ap (λ (types : List FixType). bad_line types (trace_text start size)) w.from.compiled.inputs
      ∙ good start size w.from.resolved w.from.verdict)

  -- the line of the compilation wasn't printed
  pub made_unput : (e : Ending) (b b' : SinkTold) → NotPut e c b b' → Ends e (Some (Gen start size model code)) h h' b b'
  made_unput PutFault b b' none =
      record { finds = inl (record { both = both-of; front = none.text; no_fault = w.no_fault }); counts = none.rose }
  made_unput NoMemory b b' none = record {
    finds = record { made = inr (both-of, inl none); no_fault = w.no_fault };
    counts = ap (λ (x : SinkTold). x.faults) none;
  }
  made_unput _ b b' none = absurd none

  module _ (b b1 : SinkTold) (put : PutsWhole (line_of c) b b1) where
    lined : b1 ≡ with_line b c
    lined = same-sink (with_line b c) b1 put.text put.no_fault

    -- memory ran out after the line
    pub made_forgets : Ends NoMemory (Some (Gen start size model code)) h h' b b1
    made_forgets = record { finds = record { made = inr (both-of, inr lined); no_fault = w.no_fault }; counts = put.no_fault }

    -- that right code doesn't start comes of memory alone
    pub made_unstarted : ReadingsAgree → (e : Ending) → NotStarted c.code e → Ends e (Some (Gen start size model code)) h h' b b1
    made_unstarted agree NoMemory none = made_forgets
    made_unstarted agree (CodeRefused fault) none =
        absurd (agree.apart c.code w.from.compiled.code.program fault w.from.compiled.code.reads none)
    made_unstarted agree (IsStuck at) none = absurd (starts-right w.from.resolved c w.from.compiled none.0 at none.2.0 none.1 none.2.1)
    made_unstarted agree _ none = absurd none

    -- what the machine gives after the line is what the program gives
    ran-made : (e : Ending) (m : MachineState) (b' : SinkTold) → StartsFrom c.code m →
        RunsTo e (tree_of m) c.inputs (trace_text start size) b1 b' → RunsMade e start size model code h h' b b'
    ran-made e m b' starts run = record {
      both = both-of;
      runs = as-compiled c m (model_text start size)
          (λ (p : ProgramTree) (inputs : List FixType). RunsTo e p inputs (trace_text start size) (with_line b c) b')
          w.from starts
          (subst (λ (x : SinkTold). RunsTo e (tree_of m) c.inputs (trace_text start size) x b') lined run);
      no_fault = w.no_fault;
    }

    -- no line of the trace that is made with a model is bad
    pub made_ends : GeneratedTracesAreRows → (e : Ending) (m : MachineState) (b' : SinkTold) → StartsFrom c.code m →
        RowsEnd e (tree_of m) c.inputs (trace_text start size) b1 b' → CountsPuts e b1 b' →
        Ends e (Some (Gen start size model code)) h h' b b'
    made_ends good (Ran totals) m b' starts run counts =
        record { finds = ran-made (Ran totals) m b' starts run; counts = counts ∙ put.no_fault }
    made_ends good (BadTrace line) m b' starts run counts = absurd (never-bad good line (tree_of m) b1 b' run)
    made_ends good PutFault m b' starts run counts =
        record { finds = inr (ran-made PutFault m b' starts run); counts = subst (λ (n : ℕ). Rose n b'.faults) put.no_fault counts }
    made_ends good NoMemory m b' starts run counts =
        record { finds = record { made = inr (both-of, inr (run ∙ lined)); no_fault = w.no_fault }; counts = counts ∙ put.no_fault }
    made_ends good (IsStuck at) m b' starts run counts =
        absurd (never-stuck at c m (model_text start size) (trace_text start size) w.from starts run.stuck)
    made_ends good _ m b' starts run counts = absurd run
