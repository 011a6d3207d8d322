use Rattle.std.proofs.Common.{rules}
use Rattle.tool_steps.proofs.lemmas.FileParts.{too_long}
use Rattle.tool_endings.specs.Told.{HostTold, told}
use Rattle.tool_steps.proofs.LongFiles.{long-file}
use Rattle.tool_steps.proofs.profiling.profile_model.Goals as goal

pub returns-in-Err-TooLong-clause-ends : goal.returns-in-Err-TooLong-clause-ends
returns-in-Err-TooLong-clause-ends g c =
    let before : HostTold =
    told g.H.Host.files g.H.Host.rest g.H.Host.given g.H.Host.written g.H.Host.sure g.H.Host.read_faults g.H.Host.write_faults
    c.args.host.now in
    let long = too_long c.in-Err-TooLong.field-0 (search rules) c.in-Err-TooLong.ensures.reads in
    record {
      model = long-file before c.args.model.now long.long;
      read = long.front;
      written = search rules;
      no_fault = record { read = search rules; write = search rules };
    }
