-- What is known of a file that was read, accepted and compiled.
use Rattle.std.proofs.Math.Seq.{take-length}
use Rattle.std.proofs.Common.{◌≡◌, ℕ, inl, inr, List, [], length, sym, ap, subst, ◌∙◌}
use Rattle.std.specs.Prelude.{Option, Some}
use Rattle.base_host.specs.Faults.{Rose}
use Rattle.base_host.specs.Files.{File, OnFile, add_file, WritesFront}
use Rattle.base_host.specs.Reading.{RoseBy, Source}
use Rattle.diagram_meaning.specs.ResolvedTable.{ResolvedTable}
use Rattle.emit_notes.specs.declared.labels.Labels.{Labels}
use Rattle.emit_notes.proofs.lemmas.NotedTexts.{notes-of}
use Rattle.tool_compiled.specs.Compilation.{Compilation, IsCompiledFrom}
use Rattle.tool_endings.specs.declared.ending.Ending.{Ending}
use Rattle.tool_endings.specs.declared.ending.Ending.TheVariants.{WriteFault, NoMemory}
use Rattle.tool_endings.specs.Told.{HostTold, ReadsNone, NoFault}
use Rattle.tool_endings.specs.EndingsOfModels.{OnNamed, LeavesHost, WritesCodeFront, EndsWriteFault, EndsNoMemory}
use Rattle.tool_endings.specs.EndingsOfRuns.{WritesWhole}
use Rattle.tool_endings.specs.Acting.{WritesCompiled, NotCompiled, AcceptsFile, WritesCodeOf, CutsCodeOf, NotWritten}
use Rattle.tool_endings.proofs.lemmas.Files.{there, still_alone}

-- writing leaves what is unread
still-read : (files : Option (List File)) (rest : Option (List ℕ)) (name : List ℕ) (now later : Option (List ℕ)) →
    OnFile files rest name (λ _. now ≡ Some []) → later ≡ now → OnFile files rest name (λ _. later ≡ Some [])
still-read files rest name now later told same = there files rest name told (λ x empty. same ∙ empty)

pub no-faults : (h h1 h' : HostTold) → NoFault h h1 → NoFault h1 h' → NoFault h h'
no-faults h h1 h' a b = record { read = b.read ∙ a.read; write = b.write ∙ a.write }

-- ---- Accepting a model, and then writing its code

module _ (r : ResolvedTable) (labels : Labels) (model code : List ℕ) (h h1 h' : HostTold) (accepts : AcceptsFile r labels model h h1) where
  pub left-to-read : ReadsNone h1 h' → OnNamed h model (λ _. h'.rest ≡ Some [])
  left-to-read none = still-read h.files h.rest model h1.rest h'.rest accepts.told (ap (λ (s : Source). s.rest) none)

  -- and no more was read
  pub still-given : ReadsNone h1 h' → RoseBy (length accepts.model.bytes) h.given h'.given
  still-given none = subst (λ (s : Source). RoseBy (length accepts.model.bytes) h.given s.given) (sym none) accepts.given

  -- its code was written whole
  pub compiled-file : (c : Compilation) → WritesCodeOf r labels c code h1 h' → WritesCompiled c model code h h'
  compiled-file c writes = record {
    model = record {
      bytes = accepts.model.bytes;
      file = accepts.model.file;
      holds = record {
        resolved = r;
        verdict = accepts.model.holds.verdict;
        compiled = writes.right;
        noted = notes-of accepts.model.bytes c.code labels accepts.model.holds.labelled writes.noted;
      };
    };
    written = writes.written ∙ ap (λ (fs : Option (List File)). add_file fs code c.code) accepts.left.written;
    files = writes.files ∙ accepts.files;
    told = left-to-read writes.unread;
    read = still_alone model h h1 h' accepts.read writes.unread;
    given = still-given writes.unread;
    no_fault = no-faults h h1 h' accepts.left.no_fault writes.no_fault;
  }

  -- a front of it was
  pub front-file : CutsCodeOf r labels code h1 h' → EndsWriteFault model code h h'
  front-file cuts = record {
    rose = subst (λ (n : ℕ). Rose n h'.write_faults) accepts.left.no_fault.write cuts.rose;
    model = record {
      bytes = accepts.model.bytes;
      file = accepts.model.file;
      holds = (
        cuts.compilation,
        record {
          resolved = r;
          verdict = accepts.model.holds.verdict;
          compiled = cuts.right;
          noted = notes-of accepts.model.bytes cuts.compilation.code labels accepts.model.holds.labelled cuts.noted;
        },
        subst (λ (fs : Option (List File)). WritesFront fs h'.written code cuts.compilation.code) accepts.left.written cuts.front,
      );
    };
    read = still_alone model h h1 h' accepts.read cuts.unread;
  }

  -- memory ran out before anything was written
  pub forgets-writing : LeavesHost h1 h' → EndsNoMemory model code h h'
  forgets-writing left = record {
    written = inl (left.written ∙ accepts.left.written);
    no_fault = no-faults h h1 h' accepts.left.no_fault left.no_fault;
  }

  -- or it wasn't
  pub not-written : (e : Ending) → NotWritten e r labels code h1 h' → NotCompiled e model code h h'
  not-written WriteFault ends = front-file ends
  not-written NoMemory ends = forgets-writing ends
  not-written _ ends = absurd ends

-- ---- Code that was written

-- code that is written whole is a front of itself
front-of : (code model : List ℕ) (h h' : HostTold) (c : Compilation) → IsCompiledFrom model c →
    h'.written ≡ add_file h.written code c.code → WritesCodeFront code model h h'
front-of code model h h' c from written =
    (c, from, inr (length c.code, written ∙ ap (λ (bytes : List ℕ). add_file h.written code bytes) (sym (take-length c.code))))

pub whole-front : (code model : List ℕ) (h h' : HostTold) → WritesWhole code model h h' → WritesCodeFront code model h h'
whole-front code model h h' w =
    front-of code model h h' w.compilation (record { resolved = w.resolved; verdict = w.verdict; compiled = w.right; noted = w.noted }) w.written
