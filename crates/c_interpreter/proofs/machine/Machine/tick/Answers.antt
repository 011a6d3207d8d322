use Rattle.std.proofs.Common.{subst, sym, ◌∙◌, ap, ℤ, Bool, List, length}
use Rattle.c_syntax.specs.declared.program.Program.{Program}
use Rattle.c_syntax.specs.Plain.{program_tree}
use Rattle.c_interpreter.specs.Slots.{StructLayout, layout_at}
use Rattle.c_interpreter.specs.Sound.{IsReady, IsProcedureOf}
use Rattle.c_interpreter.specs.Codes.{ReadyCode, code_tree}
use Rattle.c_interpreter.specs.Machines.{IsTick}
use Rattle.c_interpreter.specs.States.{MachineState}
use Rattle.c_interpreter.proofs.RootLaws.{tick_left}
use Rattle.c_interpreter.proofs.Places.{whole_again}
use Rattle.c_interpreter.proofs.machine.Machine.tick.Goals as goal

pub new-code-requires : goal.new-code-requires
new-code-requires c =
    let p = program_tree c.self.inside.checked.program in
    let t = c.self.inside.tables in
    let Ready : Program → Type 0 = λ x. IsReady (program_tree x) c.deref.result.now c.deref-2.result.now in
    let Laid : List StructLayout → Type 0 = λ ls. IsReady p ls c.deref-2.result.now in
    let Logged : List Bool → Type 0 = λ bs. IsReady p t.layouts.items bs in
    subst Ready (sym c.program.ensures)
    (subst Laid (sym c.deref.ensures.value) (subst Logged (sym c.deref-2.ensures.value) c.self.invariant.tables.ready))

pub run_root-requires-clause-there : goal.run_root-requires-clause-there
run_root-requires-clause-there c =
    let t = c.self.inside.tables in
    subst (λ (k : ReadyCode). IsProcedureOf (code_tree k) t.step t.root) (sym c.new-code.ensures)
    (subst (λ (x : Program). IsProcedureOf (program_tree x) t.step t.root) (sym c.program.ensures)
    c.self.invariant.tables.step_there)

pub run_root-requires-clause-room : goal.run_root-requires-clause-room
run_root-requires-clause-room c =
    let t = c.self.inside.tables in
    ap length c.deref_mut.ensures.value ∙ c.self.invariant.room
    ∙ sym (ap (λ (k : ReadyCode). (layout_at k.layouts t.root).size) c.new-code.ensures
    ∙ ap (λ (ls : List StructLayout). (layout_at ls t.root).size) c.deref.ensures.value)

pub invariant_of-self : goal.invariant_of-self
invariant_of-self c =
    let old = c.self.inside.numbers in
    let same = c.run_root.auto.numbers ∙ ap length c.deref_mut.ensures.value in
    let whole = whole_again old.items c.run_root.new.numbers old.len same old.ok.0 in
    record {
      tables = c.self.invariant.tables;
      counts = c.self.invariant.counts;
      outputs_count = c.self.invariant.outputs_count;
      room = ap length whole ∙ same ∙ c.self.invariant.room;
    }

pub invariant_of-self-2 : goal.invariant_of-self-2
invariant_of-self-2 c =
    let old = c.self.inside.numbers in
    let same = c.run_root.auto.numbers ∙ ap length c.deref_mut.ensures.value in
    let whole = whole_again old.items c.run_root.new.numbers old.len same old.ok.0 in
    record {
      tables = c.self.invariant.tables;
      counts = c.self.invariant.counts;
      outputs_count = c.self.invariant.outputs_count;
      room = ap length whole ∙ same ∙ c.self.invariant.room;
    }

pub returns-clause-ticked : goal.returns-clause-ticked
returns-clause-ticked c =
    let old = c.self.inside.numbers in
    let now = c.run_root.new.numbers in
    let whole = whole_again old.items now old.len (c.run_root.auto.numbers ∙ ap length c.deref_mut.ensures.value) old.ok.0 in
    let Before : MachineState → Type 0 =
    λ m. IsTick m (record { program = c.self.inside.checked; numbers = now }) c.args.inputs.now
    c.put_outputs.new.out c.in_ok-cost.cost in
    let After : List ℤ → Type 0 =
    λ ns. IsTick c.args.self.now (record { program = c.self.inside.checked; numbers = ns }) c.args.inputs.now
    c.put_outputs.new.out c.in_ok-cost.cost in
    subst After (sym whole)
    (subst Before c.self.view_is
    (tick_left c.self.inside.checked c.self.inside.tables c.args.inputs.now old.items now c.put_outputs.new.out
    c.in_ok-cost.cost _ c.deref_mut.result.now c.deref-5.result.now c.deref-3.result.now _ c.deref-4.result.now
    c.self.invariant.tables (ap (λ (k : ReadyCode). k.program) c.new-code.ensures
    ∙ c.program.ensures) c.deref_mut.ensures.value c.deref-3.ensures.value c.slots_at-slots.ensures
    c.deref-4.ensures.value (c.deref-5.ensures.value ∙ whole) c.in_ok-cost.ensures c.put_outputs.ensures))
