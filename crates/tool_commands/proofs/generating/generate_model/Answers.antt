use Rattle.std.proofs.Common.{rules, ◌≡◌, List, ℕ, subst, sym}
use Rattle.std.specs.List.{AllZip}
use Rattle.base_fixed_point.specs.declared.types.FixType.{FixType}
use Rattle.c_interpreter.specs.States.{MachineState, tree_of}
use Rattle.tool_runner.specs.Ticks.{IsNarrower}
use Rattle.tool_compiled.specs.Compilation.{Compilation}
use Rattle.tool_generator.specs.Models.{model_text, trace_text}
use Rattle.tool_endings.specs.Told.{SinkTold, sink_told}
use Rattle.tool_endings.specs.EndingsOfGenerating.{line_of}
use Rattle.tool_endings.specs.Endings.{PutsWhole}
use Rattle.tool_endings.specs.Acting.{StartsFrom, NotStarted, RowsEnd}
use Rattle.tool_commands.proofs.CodeLaws.{inputs-fit}
use Rattle.tool_commands.proofs.MadeLaws.{made_unput, made_forgets, made_unstarted, made_ends}
use Rattle.tool_commands.proofs.generating.generate_model.Goals as goal

pub returns-in-Err-put_line : goal.returns-in-Err-put_line
returns-in-Err-put_line g c =
    record {
      ends = made_unput c.in-Ok.compiled c.args.start c.args.size c.args.model.now c.args.code.now _ _
          c.in-Ok.ensures.made c.in-Err-put_line.ending _ _ c.in-Err-put_line.ensures.ended;
    }

pub returns-in-Err-started : goal.returns-in-Err-started
returns-in-Err-started g c =
    let compiled : Compilation = c.in-Ok.compiled in
    let put : SinkTold = sink_told g.S.Sink.bytes g.S.Sink.faults c.args.out.now in
    let later : SinkTold = sink_told g.S.Sink.bytes g.S.Sink.faults c.put_line.new.out in
    let line : PutsWhole (line_of compiled) put later = search rules in
    let same : c.deref.result.now ≡ compiled.code = search rules in
    let unstarted : NotStarted compiled.code c.in-Err-started.ending =
    subst (λ (x : List ℕ). NotStarted x c.in-Err-started.ending) same (search rules) in
    record {
      ends = made_unstarted compiled c.args.start c.args.size c.args.model.now c.args.code.now _ _
          c.in-Ok.ensures.made put later line c.readings_agree.ensures c.in-Err-started.ending unstarted;
    }

pub run_rows-requires-clause-types : goal.run_rows-requires-clause-types
run_rows-requires-clause-types g c =
    let compiled : Compilation = c.in-Ok.compiled in
    let m : MachineState = c.in-Ok-started.machine in
    let same : c.deref.result.now ≡ compiled.code = search rules in
    let starts : StartsFrom compiled.code m = subst (λ (x : List ℕ). StartsFrom x m) same (search rules) in
    let typed : c.deref-in-Ok-generate_trace.result.now ≡ compiled.inputs = search rules in
    let made = c.in-Ok.ensures.made in
    subst (λ (types : List FixType). AllZip IsNarrower types m.program.inputs) (sym typed)
    (inputs-fit c.readings_agree.ensures compiled m (model_text c.args.start c.args.size) made.from starts)

pub returns-in-Ok-generate_trace : goal.returns-in-Ok-generate_trace
returns-in-Ok-generate_trace g c =
    let compiled : Compilation = c.in-Ok.compiled in
    let m : MachineState = c.in-Ok-started.machine in
    let put : SinkTold = sink_told g.S.Sink.bytes g.S.Sink.faults c.args.out.now in
    let lined : SinkTold = sink_told g.S.Sink.bytes g.S.Sink.faults c.put_line.new.out in
    let later : SinkTold = sink_told g.S.Sink.bytes g.S.Sink.faults c.run_rows.new.out in
    let line : PutsWhole (line_of compiled) put lined = search rules in
    let same : c.deref.result.now ≡ compiled.code = search rules in
    let starts : StartsFrom compiled.code m = subst (λ (x : List ℕ). StartsFrom x m) same (search rules) in
    let typed : c.deref-in-Ok-generate_trace.result.now ≡ compiled.inputs = search rules in
    let text : List ℕ = trace_text c.args.start c.args.size in
    let traced : c.deref-in-Ok-generate_trace-2.result.now ≡ text = search rules in
    let run : RowsEnd c.run_rows.result (tree_of m) compiled.inputs text lined later =
    subst (λ (x : List ℕ). RowsEnd c.run_rows.result (tree_of m) compiled.inputs x lined later) traced
    (subst (λ (types : List FixType). RowsEnd c.run_rows.result
    (tree_of m) types c.deref-in-Ok-generate_trace-2.result.now lined later) typed c.run_rows.ensures.ends) in
    record {
      ends = made_ends compiled c.args.start c.args.size c.args.model.now c.args.code.now _ _
          c.in-Ok.ensures.made put lined line c.generated_traces_are_rows.ensures c.run_rows.result m later starts run
          c.run_rows.ensures.counts;
    }

pub returns : goal.returns
returns g c =
    let put : SinkTold = sink_told g.S.Sink.bytes g.S.Sink.faults c.args.out.now in
    let later : SinkTold = sink_told g.S.Sink.bytes g.S.Sink.faults c.put_line.new.out in
    let line : PutsWhole (line_of c.in-Ok.compiled) put later = search rules in
    record {
      ends = made_forgets c.in-Ok.compiled c.args.start c.args.size c.args.model.now c.args.code.now _ _
          c.in-Ok.ensures.made put later line;
    }
