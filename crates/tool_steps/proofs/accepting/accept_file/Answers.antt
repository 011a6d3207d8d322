use Rattle.std.proofs.Common.{rules, ◌≡◌, List, ℕ, sym, subst}
use Rattle.base_host.proofs.lemmas.ReadLaws.{whole_bytes, whole_left, whole_front}
use Rattle.tool_steps.proofs.lemmas.FileParts.{too_long}
use Rattle.diagram_meaning.specs.ResolvedTable.{ResolvedTable, table_of_tree}
use Rattle.emit_notes.specs.declared.labels.Labels.{Labels}
use Rattle.tool_endings.specs.Told.{HostTold, told}
use Rattle.tool_endings.specs.Acting.{IsAcceptedText}
use Rattle.tool_endings.proofs.lemmas.Files.{there}
use Rattle.tool_steps.proofs.LongFiles.{long-file}
use Rattle.tool_steps.proofs.accepting.accept_file.Goals as goal

pub returns-in-Err-TooLong-clause-ended : goal.returns-in-Err-TooLong-clause-ended
returns-in-Err-TooLong-clause-ended g c =
    let before : HostTold =
    told g.H.Host.files g.H.Host.rest g.H.Host.given g.H.Host.written g.H.Host.sure g.H.Host.read_faults g.H.Host.write_faults c.args.host.now in
    let long = too_long c.in-Err-TooLong.field-0 (search rules) c.in-Err-TooLong.ensures.reads in
    record {
      model = long-file before c.args.model.now long.long;
      read = long.front;
      written = search rules;
      no_fault = record { read = search rules; write = search rules };
    }

pub returns-in-Ok-accept_text-clause-accepted : goal.returns-in-Ok-accept_text-clause-accepted
returns-in-Ok-accept_text-clause-accepted g c =
    let bytes : List ℕ = c.in-Ok.bytes.items in
    let table : ResolvedTable = table_of_tree c.in-Ok-accept_text.accepted.resolved in
    let labels : Labels = c.in-Ok-accept_text.accepted.labels in
    let before : HostTold =
    told g.H.Host.files g.H.Host.rest g.H.Host.given g.H.Host.written g.H.Host.sure g.H.Host.read_faults g.H.Host.write_faults c.args.host.now in
    let same : c.deref.result.now ≡ bytes = search rules in
    record {
      model = record {
        bytes = bytes;
        file = there before.files before.rest c.args.model.now (whole_bytes c.in-Ok.ensures.reads) (λ x is. sym is);
        holds = subst (λ (x : List ℕ). IsAcceptedText table labels x) same c.in-Ok-accept_text.ensures.accepted;
      };
      files = search rules;
      told = whole_left c.in-Ok.ensures.reads;
      read = whole_front c.in-Ok.ensures.reads;
      given = c.in-Ok.ensures.reads.count;
      left = record { written = search rules; no_fault = record { read = search rules; write = search rules } };
    }
