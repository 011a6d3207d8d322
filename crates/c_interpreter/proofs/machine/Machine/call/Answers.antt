use Rattle.std.proofs.Common.{subst, sym, ◌∙◌, ap, ℤ, List, length}
use Rattle.std.specs.Prelude.{IfOk, IfErr}
use Rattle.c_interpreter.specs.Machines.{IsCallable, IsCall, IsStuckCall}
use Rattle.c_interpreter.specs.States.{MachineState}
use Rattle.c_interpreter.proofs.Calling.{call_done, call_stuck}
use Rattle.c_interpreter.proofs.Places.{whole_again}
use Rattle.c_interpreter.proofs.machine.Machine.call.Goals as goal

pub invariant_of-self : goal.invariant_of-self
invariant_of-self c =
    let old = c.self.inside.numbers in
    let same = c.run_instance.auto.numbers ∙ ap length c.deref_mut.ensures.value in
    let whole = whole_again old.items c.run_instance.new.numbers old.len same old.ok.0 in
    record {
      tables = c.self.invariant.tables;
      counts = c.self.invariant.counts;
      outputs_count = c.self.invariant.outputs_count;
      room = ap length whole ∙ same ∙ c.self.invariant.room;
    }

pub returns-clause-called : goal.returns-clause-called
returns-clause-called c =
    let old = c.self.inside.numbers in
    let now = c.run_instance.new.numbers in
    let n = c.numbering_of-numbering.result in
    let whole = whole_again old.items now old.len (c.run_instance.auto.numbers ∙ ap length c.deref_mut.ensures.value) old.ok.0 in
    let Callable : MachineState → Type 0 = λ m. IsCallable m c.args.procedure c.args.instance c.args.values.now in
    let Before : MachineState → Type 0 =
    λ m. IfOk c.run_instance.result
    (IsCall m (record { program = c.self.inside.checked; numbers = now }) c.args.procedure c.args.instance
    c.args.values.now) in
    let After : List ℤ → Type 0 =
    λ ns. IfOk c.run_instance.result
    (IsCall c.args.self.now (record { program = c.self.inside.checked; numbers = ns }) c.args.procedure
    c.args.instance c.args.values.now) in
    subst After (sym whole)
    (subst Before c.self.view_is
    (call_done c.self.inside.checked n.code.program n.root c.args.procedure c.args.instance c.args.values.now
    c.deref_mut.result.now old.items now c.run_instance.result c.numbering_of-numbering.ensures.program
    c.numbering_of-numbering.ensures.root_struct c.deref_mut.ensures.value
    (subst Callable (sym c.self.view_is) c.requires) c.run_instance.ensures))

pub returns-clause-stuck : goal.returns-clause-stuck
returns-clause-stuck c =
    let old = c.self.inside.numbers in
    let now = c.run_instance.new.numbers in
    let n = c.numbering_of-numbering.result in
    let whole = whole_again old.items now old.len (c.run_instance.auto.numbers ∙ ap length c.deref_mut.ensures.value) old.ok.0 in
    let Callable : MachineState → Type 0 = λ m. IsCallable m c.args.procedure c.args.instance c.args.values.now in
    let Before : MachineState → Type 0 =
    λ m. IfErr c.run_instance.result
    (IsStuckCall m (record { program = c.self.inside.checked; numbers = now }) c.args.procedure c.args.instance
    c.args.values.now) in
    let After : List ℤ → Type 0 =
    λ ns. IfErr c.run_instance.result
    (IsStuckCall c.args.self.now (record { program = c.self.inside.checked; numbers = ns }) c.args.procedure
    c.args.instance c.args.values.now) in
    subst After (sym whole)
    (subst Before c.self.view_is
    (call_stuck c.self.inside.checked n.code.program n.root c.args.procedure c.args.instance c.args.values.now
    c.deref_mut.result.now old.items now c.run_instance.result c.numbering_of-numbering.ensures.program
    c.numbering_of-numbering.ensures.root_struct c.deref_mut.ensures.value
    (subst Callable (sym c.self.view_is) c.requires) c.run_instance.ensures))
