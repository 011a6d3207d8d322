-- How `drive` ends, by what its parts come to.
use Rattle.std.proofs.Common.{◌≡◌, ℕ, ◌⊎◌, inl, inr, List, [], length, refl, ap, subst, ◌∙◌}
use Rattle.std.specs.Prelude.{Contains, Option, Some}
use Rattle.std.specs.Io.KnownBytes.{prepend_known}
use Rattle.base_host.specs.Faults.{Rose}
use Rattle.base_host.specs.Files.{File, add_file}
use Rattle.base_host.specs.Reading.{RoseBy}
use Rattle.diagram_meaning.specs.ResolvedTable.{ResolvedTable}
use Rattle.modules_profile.specs.Systems.{systems}
use Rattle.c_rules.specs.Reading.{CText}
use Rattle.emit_notes.specs.declared.labels.Labels.{Labels}
use Rattle.emit_notes.proofs.lemmas.NotedTexts.{notes-of}
use Rattle.tool_compiled.specs.Compilation.{Compilation}
use Rattle.tool_driver.specs.Driven.{Driven, StandsFor}
use Rattle.tool_driver.specs.States.{DriverState}
use Rattle.tool_system_driver.specs.SystemShapes.{IsSystemOfModel}
use Rattle.tool_system_driver.specs.Words.{system_named}
use Rattle.tool_words.specs.Words.{Drive}
use Rattle.tool_endings.specs.declared.ending.Ending.{Ending}
use Rattle.tool_endings.specs.declared.ending.Ending.TheVariants.{Ran, BadScript, ReadFault, WriteFault, PutFault, NoMemory}
use Rattle.tool_endings.specs.declared.ending.ScriptStop.TheVariants.{NoSubsystem, Line, Call}
use Rattle.tool_endings.specs.Told.{HostTold, SinkTold, NoFault}
use Rattle.tool_endings.specs.Scripts.{DrivesTo}
use Rattle.tool_endings.specs.EndingsOfModels.{OnNamed, OnBytes, OpensNothing, LeavesHost, EndsNoMemory}
use Rattle.tool_endings.specs.EndingsOfRuns.{WritesWhole}
use Rattle.tool_endings.specs.EndingsOfDriving.{WritesDriven, TakesScript, DrivesModel, EndsDriving}
use Rattle.tool_endings.specs.Endings.{CountsPuts, Ends}
use Rattle.tool_endings.specs.Acting.{AcceptsFile, WritesCodeOf, NotWritten, DrivesFile, DriveEnds}
use Rattle.tool_steps.proofs.lemmas.TwoFiles.{retold, on-bytes, rose_behind, unopened_behind}
use Rattle.tool_commands.proofs.CompileLaws.{no-faults, left-to-read, still-given, front-file, forgets-writing, whole-front}
use Rattle.tool_commands.proofs.DrivenSystems.{driven-of}

-- ---- The code isn't written whole

module _ (r : ResolvedTable) (labels : Labels) (model code word script : List ℕ) (h h1 h' : HostTold)
    (accepts : AcceptsFile r labels model h h1) (b : SinkTold) where
  pub drive_unwritten : (e : Ending) → NotWritten e r labels code h1 h' → Ends e (Some (Drive model code word script)) h h' b b
  drive_unwritten WriteFault ends = record { finds = (front-file r labels model code h h1 h' accepts ends, refl); counts = refl }
  drive_unwritten NoMemory ends = record { finds = (forgets-writing r labels model code h h1 h' accepts ends, refl); counts = refl }
  drive_unwritten _ ends = absurd ends

-- ---- After the writing of the code

module _ (r : ResolvedTable) (labels : Labels) (c : Compilation) (s : Option ℕ) (model code word script : List ℕ) (h h1 h2 : HostTold)
    (accepts : AcceptsFile r labels model h h1) (named : system_named r.table.rows word ≡ Some s) (there : Contains (systems r.table.rows) s)
    (writes : WritesCodeOf r labels c code h1 h2) where
  -- what is driven
  abbrev system : Driven
  system = driven-of r c s writes.right there accepts.model.holds.verdict.no_loop

  calm : NoFault h h2
  calm = no-faults h h1 h2 accepts.left.no_fault writes.no_fault

  told : OnNamed h model (λ _. h2.rest ≡ Some [])
  told = left-to-read r labels model code h h1 h2 accepts writes.unread

  given : RoseBy (length accepts.model.bytes) h.given h2.given
  given = still-given r labels model code h h1 h2 accepts writes.unread

  files : h2.files ≡ h.files
  files = writes.files ∙ accepts.files

  abbrev whole : (h' : HostTold) → h'.written ≡ h2.written → WritesWhole code accepts.model.bytes h h'
  whole h' same = record {
    resolved = r;
    verdict = accepts.model.holds.verdict;
    compilation = c;
    right = writes.right;
    noted = notes-of accepts.model.bytes c.code labels accepts.model.holds.labelled writes.noted;
    written = same ∙ writes.written ∙ ap (λ (fs : Option (List File)). add_file fs code c.code) accepts.left.written;
  }

  abbrev written : (h' : HostTold) → h'.written ≡ h2.written → WritesDriven word code accepts.model.bytes h h'
  written h' same = record {
    whole = whole h' same;
    driven = system;
    named = named;
    of_model = record { diagram = refl; hyper = refl; system = refl };
    program = refl;
  }

  -- what holds of the model's bytes
  on-model : (P : List ℕ → Type 0) → P accepts.model.bytes → OnBytes h model P
  on-model P holds = record { bytes = accepts.model.bytes; file = accepts.model.file; holds = holds }

  driven : (e : Ending) (h' : HostTold) (b b' : SinkTold) → DrivesFile e system script h2 h' b b' →
      OnBytes h model (λ bytes. DrivesModel e word script code bytes h h' b b')
  driven e h' b b' run = on-model (λ bytes. DrivesModel e word script code bytes h h' b b') (record {
    written = written h' run.left.written;
    drives = on-bytes model script h h2 (λ x. DrivesTo e system x b b') (λ x. DrivesTo e system x b b') told files (λ x to. to) run.lines;
    end = run.end;
  })

  lost : (h' : HostTold) (b b' : SinkTold) → OpensNothing 0 h2 h' b b' ⊎ TakesScript 0 system script h2 h' b b' →
      OpensNothing (length accepts.model.bytes) h h' b b' ⊎ TakesScript (length accepts.model.bytes) system script h h' b b'
  lost h' b b' (inl unopened) = inl (unopened_behind (length accepts.model.bytes) h h2 h' b b' given unopened)
  lost h' b b' (inr takes) = inr (record {
    taken = takes.taken;
    file = retold model script h h2 (λ x. Some x ≡ prepend_known takes.taken h'.rest) told files takes.file;
    given = rose_behind (length accepts.model.bytes) (length takes.taken) h.given h2.given h'.given given takes.given;
    lines = takes.lines;
  })

  -- memory ran out
  no-more : (h' : HostTold) → LeavesHost h2 h' → EndsNoMemory model code h h'
  no-more h' left = record {
    written = inr (record {
      bytes = accepts.model.bytes;
      file = accepts.model.file;
      holds = whole-front code accepts.model.bytes h h' (whole h' left.written);
    });
    no_fault = no-faults h h2 h' calm left.no_fault;
  }

  finds : (e : Ending) (h' : HostTold) (b b' : SinkTold) → DriveEnds e system script h2 h' b b' →
      EndsDriving e model code word script h h' b b'
  finds (Ran totals) h' b b' run =
      record { model = driven (Ran totals) h' b b' run; no_fault = no-faults h h2 h' calm run.left.no_fault }
  finds (BadScript NoSubsystem) h' b b' run = absurd run.lines.holds
  finds (BadScript (Line bad)) h' b b' run =
      record { model = driven (BadScript (Line bad)) h' b b' run; no_fault = no-faults h h2 h' calm run.left.no_fault }
  finds (BadScript (Call refused)) h' b b' run =
      record { model = driven (BadScript (Call refused)) h' b b' run; no_fault = no-faults h h2 h' calm run.left.no_fault }
  finds PutFault h' b b' run =
      record { model = driven PutFault h' b b' run; no_fault = no-faults h h2 h' calm run.left.no_fault }
  finds ReadFault h' b b' run = inr (
    subst (λ (n : ℕ). Rose n h'.read_faults) calm.read run.rose,
    record {
      bytes = accepts.model.bytes;
      file = accepts.model.file;
      holds = record { written = written h' run.written; lines = lost h' b b' run.lines };
    },
  )
  finds NoMemory h' b b' run = (no-more h' run.left, run.silent)
  finds _ h' b b' run = absurd run

  -- the script was opened, or couldn't be
  pub drive_ends : (d : DriverState) (e : Ending) (h' : HostTold) (b b' : SinkTold) →
      ((w : Driven) → IsSystemOfModel r s w → CText c.code w.program → StandsFor w d []) →
      ((w : Driven) → StandsFor w d [] → DriveEnds e w script h2 h' b b') → CountsPuts e b b' →
      Ends e (Some (Drive model code word script)) h h' b b'
  drive_ends d e h' b b' stands runs counts = record {
    finds = finds e h' b b' (runs system (stands system (record { diagram = refl; hyper = refl; system = refl }) writes.right.code.reads));
    counts = counts;
  }

  -- memory ran out before the first call
  pub drive_forgets : (b : SinkTold) → Ends NoMemory (Some (Drive model code word script)) h h2 b b
  drive_forgets b = record {
    finds = (no-more h2 (record { written = refl; no_fault = record { read = refl; write = refl } }), refl);
    counts = refl;
  }
