use Rattle.std.proofs.Common.{rules, ◌≡◌, List, ℕ, sym, subst}
use Rattle.base_host.proofs.lemmas.ReadLaws.{whole_bytes, whole_left, whole_front}
use Rattle.tool_steps.proofs.lemmas.FileParts.{too_long}
use Rattle.lustre_syntax.specs.Plain.{file_tree}
use Rattle.lustre_rules.specs.Reading.{LustreText, LustreFaultOf}
use Rattle.tool_endings.specs.Told.{HostTold, told}
use Rattle.tool_endings.specs.EndingsOfRuns.{code_limit}
use Rattle.tool_endings.proofs.lemmas.Files.{there, longer_than}
use Rattle.tool_flow_steps.proofs.reading.read_file.Goals as goal

pub returns-in-Ok-read_lustre-clause-read : goal.returns-in-Ok-read_lustre-clause-read
returns-in-Ok-read_lustre-clause-read g c =
    let bytes : List ℕ = c.in-Ok.bytes.items in
    let before : HostTold =
    told g.H.Host.files g.H.Host.rest g.H.Host.given g.H.Host.written g.H.Host.sure g.H.Host.read_faults g.H.Host.write_faults
    c.args.host.now in
    let same : c.deref.result.now ≡ bytes = search rules in
    record {
      file = record {
        bytes = bytes;
        file = there before.files before.rest c.args.file.now (whole_bytes c.in-Ok.ensures.reads) (λ x is. sym is);
        holds = record {
          fits = c.in-Ok.ensures.reads.fits;
          reading = subst (λ (x : List ℕ). LustreText x (file_tree c.in-Ok-read_lustre.checked)) same c.in-Ok-read_lustre.ensures.read;
        };
      };
      files = search rules;
      told = whole_left c.in-Ok.ensures.reads;
      given = c.in-Ok.ensures.reads.count;
      left = record { written = search rules; no_fault = record { read = search rules; write = search rules } };
    }

pub returns-in-Err-TooLong-clause-ended : goal.returns-in-Err-TooLong-clause-ended
returns-in-Err-TooLong-clause-ended g c =
    let before : HostTold =
    told g.H.Host.files g.H.Host.rest g.H.Host.given g.H.Host.written g.H.Host.sure g.H.Host.read_faults g.H.Host.write_faults
    c.args.host.now in
    let long = too_long c.in-Err-TooLong.field-0 (search rules) c.in-Err-TooLong.ensures.reads in
    record {
      file = longer_than before c.args.file.now code_limit long.long;
      read = long.front;
      left = record { written = search rules; no_fault = record { read = search rules; write = search rules } };
    }

pub returns-in-Err-Refused-clause-ended : goal.returns-in-Err-Refused-clause-ended
returns-in-Err-Refused-clause-ended g c =
    let bytes : List ℕ = c.in-Ok.bytes.items in
    let before : HostTold =
    told g.H.Host.files g.H.Host.rest g.H.Host.given g.H.Host.written g.H.Host.sure g.H.Host.read_faults g.H.Host.write_faults
    c.args.host.now in
    let same : c.deref.result.now ≡ bytes = search rules in
    record {
      file = record {
        bytes = bytes;
        file = there before.files before.rest c.args.file.now (whole_bytes c.in-Ok.ensures.reads) (λ x is. sym is);
        holds = (
          c.in-Ok.ensures.reads.fits,
          subst (λ (x : List ℕ). LustreFaultOf x c.in-Err-Refused.fault) same (search rules),
        );
      };
      read = whole_front c.in-Ok.ensures.reads;
      left = record { written = search rules; no_fault = record { read = search rules; write = search rules } };
    }
