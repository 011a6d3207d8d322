use Rattle.std.proofs.Common.{rules, refl, ◌≡◌, List, ℕ, subst, sym}
use Rattle.std.specs.List.{AllZip}
use Rattle.base_host.proofs.lemmas.ReadLaws.{whole_bytes, whole_left, whole_front}
use Rattle.tool_steps.proofs.lemmas.FileParts.{too_long}
use Rattle.base_fixed_point.specs.declared.types.FixType.{FixType}
use Rattle.c_interpreter.specs.States.{MachineState, tree_of}
use Rattle.tool_runner.specs.Ticks.{IsNarrower}
use Rattle.tool_endings.specs.Told.{HostTold, SinkTold, told, sink_told}
use Rattle.tool_endings.specs.EndingsOfModels.{LeavesHost}
use Rattle.tool_endings.specs.EndingsOfRuns.{code_limit}
use Rattle.tool_endings.specs.Acting.{StartsFrom, NotStarted, RunEnds}
use Rattle.tool_words.specs.Words.{Exec}
use Rattle.tool_endings.proofs.lemmas.Files.{longer_than}
use Rattle.tool_steps.proofs.ExecLaws.{CodeRead, exec_ends, exec_unstarted}
use Rattle.tool_steps.proofs.RunLaws.{narrow}
use Rattle.tool_steps.proofs.lemmas.Unsure.{unsure_second}
use Rattle.tool_steps.proofs.executing.exec_code.Goals as goal

pub run_file-requires-clause-types : goal.run_file-requires-clause-types
run_file-requires-clause-types g c =
    let inputs : List FixType = c.in-Ok-started.machine.program.inputs in
    let same : c.deref-2.result.now ≡ inputs = search rules in
    subst (λ (types : List FixType). AllZip IsNarrower types inputs) (sym same) (narrow inputs)

pub returns-in-Err-TooLong-clause-ends : goal.returns-in-Err-TooLong-clause-ends
returns-in-Err-TooLong-clause-ends g c =
    let before : HostTold =
    told g.H.Host.files g.H.Host.rest g.H.Host.given g.H.Host.written g.H.Host.sure g.H.Host.read_faults g.H.Host.write_faults
    c.args.host.now in
    let long = too_long c.in-Err-TooLong.field-0 (search rules) c.in-Err-TooLong.ensures.reads in
    record {
      finds = record {
        code = longer_than before c.args.code.now code_limit long.long;
        read = long.front;
        left = record { written = search rules; no_fault = record { read = search rules; write = search rules } };
        silent = refl;
      };
      counts = refl;
    }

pub returns-in-Err-clause-ends : goal.returns-in-Err-clause-ends
returns-in-Err-clause-ends g c =
    let bytes : List ℕ = c.in-Ok.bytes.items in
    let before : HostTold =
    told g.H.Host.files g.H.Host.rest g.H.Host.given g.H.Host.written g.H.Host.sure g.H.Host.read_faults g.H.Host.write_faults
    c.args.host.now in
    let between : HostTold =
    told g.H.Host.files g.H.Host.rest g.H.Host.given g.H.Host.written g.H.Host.sure g.H.Host.read_faults g.H.Host.write_faults
    c.read_all.new.host in
    let same : c.deref.result.now ≡ bytes = search rules in
    let left : LeavesHost before between =
    record { written = search rules; no_fault = record { read = search rules; write = search rules } } in
    let unstarted : NotStarted bytes c.in-Err.ending = subst (λ (x : List ℕ). NotStarted x c.in-Err.ending) same (search rules) in
    exec_unstarted c.in-Err.ending c.args.code.now c.args.trace.now bytes before between _ (whole_bytes c.in-Ok.ensures.reads)
    c.in-Ok.ensures.reads.fits (whole_front c.in-Ok.ensures.reads) left unstarted

pub returns-clause-ends : goal.returns-clause-ends
returns-clause-ends g c =
    let bytes : List ℕ = c.in-Ok.bytes.items in
    let m : MachineState = c.in-Ok-started.machine in
    let before : HostTold =
    told g.H.Host.files g.H.Host.rest g.H.Host.given g.H.Host.written g.H.Host.sure g.H.Host.read_faults g.H.Host.write_faults
    c.args.host.now in
    let between : HostTold =
    told g.H.Host.files g.H.Host.rest g.H.Host.given g.H.Host.written g.H.Host.sure g.H.Host.read_faults g.H.Host.write_faults
    c.read_all.new.host in
    let after : HostTold =
    told g.H.Host.files g.H.Host.rest g.H.Host.given g.H.Host.written g.H.Host.sure g.H.Host.read_faults g.H.Host.write_faults
    c.run_file.new.host in
    let put : SinkTold = sink_told g.S.Sink.bytes g.S.Sink.faults c.args.out.now in
    let later : SinkTold = sink_told g.S.Sink.bytes g.S.Sink.faults c.run_file.new.out in
    let same : c.deref.result.now ≡ bytes = search rules in
    let starts : StartsFrom bytes m = subst (λ (x : List ℕ). StartsFrom x m) same (search rules) in
    let left : LeavesHost before between =
    record { written = search rules; no_fault = record { read = search rules; write = search rules } } in
    let read : CodeRead c.args.code.now bytes m before between = record {
      whole = whole_bytes c.in-Ok.ensures.reads;
      told = whole_left c.in-Ok.ensures.reads;
      given = c.in-Ok.ensures.reads.count;
      fits = c.in-Ok.ensures.reads.fits;
      starts = starts;
      files = search rules;
      same = left;
    } in
    let typed : c.deref-2.result.now ≡ m.program.inputs = search rules in
    let run : RunEnds c.run_file.result (tree_of m) m.program.inputs c.args.trace.now between after put later =
    subst (λ (types : List FixType). RunEnds c.run_file.result (tree_of m) types c.args.trace.now between after put
    later) typed c.run_file.ensures.ends in
    exec_ends c.run_file.result c.args.code.now c.args.trace.now bytes m before between after put later read run c.run_file.ensures.counts

pub returns-clause-unsure : goal.returns-clause-unsure
returns-clause-unsure g c =
    unsure_second g.H.Host.files g.H.Host.sure c.args.host.now c.read_all.new.host c.run_file.result
    (Exec c.args.code.now c.args.trace.now) c.args.trace.now refl (search rules) c.run_file.ensures.unsure
