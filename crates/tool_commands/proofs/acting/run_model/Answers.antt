use Rattle.std.proofs.Common.{rules, refl, ◌≡◌, List, ℕ, subst, sym}
use Rattle.std.specs.List.{AllZip}
use Rattle.base_fixed_point.specs.declared.types.FixType.{FixType}
use Rattle.c_interpreter.specs.States.{MachineState, tree_of}
use Rattle.tool_runner.specs.Ticks.{IsNarrower}
use Rattle.tool_compiled.specs.Compilation.{Compilation}
use Rattle.tool_endings.specs.Told.{HostTold, SinkTold, told, sink_told}
use Rattle.tool_words.specs.Words.{Run}
use Rattle.tool_endings.specs.Acting.{WritesCompiled, StartsFrom, NotStarted, RunEnds}
use Rattle.tool_commands.proofs.CodeLaws.{inputs-fit, run_ends, run_unstarted}
use Rattle.tool_steps.proofs.lemmas.Unsure.{unsure_second}
use Rattle.tool_commands.proofs.acting.run_model.Goals as goal

pub run_file-requires-clause-types : goal.run_file-requires-clause-types
run_file-requires-clause-types g c =
    let compiled : Compilation = c.in-Ok.compiled in
    let m : MachineState = c.in-Ok-started.machine in
    let same : c.deref.result.now ≡ compiled.code = search rules in
    let starts : StartsFrom compiled.code m = subst (λ (x : List ℕ). StartsFrom x m) same (search rules) in
    let typed : c.deref-in-Ok-started.result.now ≡ compiled.inputs = search rules in
    let writes = c.in-Ok.ensures.compiled in
    subst (λ (types : List FixType). AllZip IsNarrower types m.program.inputs) (sym typed)
    (inputs-fit c.readings_agree.ensures compiled m writes.model.bytes writes.model.holds starts)

pub returns-in-Ok-started-clause-ends : goal.returns-in-Ok-started-clause-ends
returns-in-Ok-started-clause-ends g c =
    let compiled : Compilation = c.in-Ok.compiled in
    let m : MachineState = c.in-Ok-started.machine in
    let before : HostTold =
    told g.H.Host.files g.H.Host.rest g.H.Host.given g.H.Host.written g.H.Host.sure g.H.Host.read_faults g.H.Host.write_faults
    c.args.host.now in
    let between : HostTold =
    told g.H.Host.files g.H.Host.rest g.H.Host.given g.H.Host.written g.H.Host.sure g.H.Host.read_faults g.H.Host.write_faults
    c.compile_into.new.host in
    let after : HostTold =
    told g.H.Host.files g.H.Host.rest g.H.Host.given g.H.Host.written g.H.Host.sure g.H.Host.read_faults g.H.Host.write_faults
    c.run_file.new.host in
    let writes : WritesCompiled compiled c.args.model.now c.args.code.now before between = c.in-Ok.ensures.compiled in
    let same : c.deref.result.now ≡ compiled.code = search rules in
    let starts : StartsFrom compiled.code m = subst (λ (x : List ℕ). StartsFrom x m) same (search rules) in
    let typed : c.deref-in-Ok-started.result.now ≡ compiled.inputs = search rules in
    let put : SinkTold = sink_told g.S.Sink.bytes g.S.Sink.faults c.args.out.now in
    let later : SinkTold = sink_told g.S.Sink.bytes g.S.Sink.faults c.run_file.new.out in
    let run : RunEnds c.run_file.result (tree_of m) compiled.inputs c.args.trace.now between after put later =
    subst (λ (types : List FixType). RunEnds c.run_file.result (tree_of m) types c.args.trace.now between after put
    later) typed c.run_file.ensures.ends in
    run_ends c.run_file.result c.args.model.now c.args.code.now c.args.trace.now compiled m before between after put
    later writes starts run c.run_file.ensures.counts

pub returns-in-Ok-started-clause-unsure : goal.returns-in-Ok-started-clause-unsure
returns-in-Ok-started-clause-unsure g c =
    unsure_second g.H.Host.files g.H.Host.sure c.args.host.now c.compile_into.new.host c.run_file.result
    (Run c.args.model.now c.args.code.now c.args.trace.now) c.args.trace.now refl
    (search rules) c.run_file.ensures.unsure

pub returns-clause-ends : goal.returns-clause-ends
returns-clause-ends g c =
    let compiled : Compilation = c.in-Ok.compiled in
    let same : c.deref.result.now ≡ compiled.code = search rules in
    let unstarted : NotStarted compiled.code c.in-Err-started.ending =
    subst (λ (x : List ℕ). NotStarted x c.in-Err-started.ending) same (search rules) in
    run_unstarted c.readings_agree.ensures c.in-Err-started.ending c.args.model.now c.args.code.now c.args.trace.now
    compiled _ _ _ c.in-Ok.ensures.compiled unstarted
