-- How `lustre` ends, by what its parts come to.
use Rattle.std.proofs.Common.{◌≡◌, ℕ, List, length, ap, subst, ◌∙◌}
use Rattle.std.specs.Prelude.{Option, None}
use Rattle.base_host.specs.Faults.{Rose}
use Rattle.base_host.specs.Files.{File, add_file, WritesFront}
use Rattle.diagram_meaning.specs.ResolvedTable.{ResolvedTable, diagram_of_table}
use Rattle.emit_notes.specs.declared.labels.Labels.{Labels}
use Rattle.lustre_right.specs.LongDelays.{long_delay}
use Rattle.lustre_right.specs.Right.{IsRightText}
use Rattle.tool_endings.specs.Told.{HostTold, ReadsNone}
use Rattle.tool_endings.specs.EndingsOfLustre.{IsLustreFrom, EndsNoded, EndsLustreCut}
use Rattle.tool_endings.specs.Acting.{AcceptsFile}
use Rattle.tool_endings.proofs.lemmas.Files.{still_alone}

-- the model is accepted, and its file made
module _ (r : ResolvedTable) (labels : Labels) (model file : List ℕ) (h h1 : HostTold) (accepts : AcceptsFile r labels model h h1)
    (bytes : List ℕ) (nodes : ℕ) (short : long_delay (diagram_of_table r) ≡ None)
    (right : IsRightText bytes (diagram_of_table r)) (count : nodes ≡ length right.file.nodes) where
  abbrev from : IsLustreFrom accepts.model.bytes bytes nodes
  from = record { resolved = r; verdict = accepts.model.holds.verdict; short = short; right = right; count = count }

  -- it was written whole
  pub lustre_written : (h' : HostTold) → ReadsNone h1 h' → h'.written ≡ add_file h1.written file bytes →
      h'.read_faults ≡ h1.read_faults → h'.write_faults ≡ h1.write_faults → EndsNoded nodes model file h h'
  lustre_written h' none written read write = record {
    model = record {
      bytes = accepts.model.bytes;
      file = accepts.model.file;
      holds = (bytes, from, written ∙ ap (λ (fs : Option (List File)). add_file fs file bytes) accepts.left.written);
    };
    read = still_alone model h h1 h' accepts.read none;
    no_fault = record { read = read ∙ accepts.left.no_fault.read; write = write ∙ accepts.left.no_fault.write };
  }

  -- or only a front of it
  pub lustre_cut : (h' : HostTold) → ReadsNone h1 h' → Rose h1.write_faults h'.write_faults →
      WritesFront h1.written h'.written file bytes → EndsLustreCut model file h h'
  lustre_cut h' none rose front = record {
    rose = subst (λ (n : ℕ). Rose n h'.write_faults) accepts.left.no_fault.write rose;
    model = record {
      bytes = accepts.model.bytes;
      file = accepts.model.file;
      holds = (
        bytes,
        nodes,
        from,
        subst (λ (fs : Option (List File)). WritesFront fs h'.written file bytes) accepts.left.written front,
      );
    };
    read = still_alone model h h1 h' accepts.read none;
  }
