use Rattle.std.proofs.Common.{subst, sym, ◌∙◌, ap, length, pos, ℤ, List}
use Rattle.std.proofs.lemmas.List.{length-replicate}
use Rattle.c_interpreter.specs.Machines.{IsStarted}
use Rattle.c_interpreter.specs.Slots.{StructLayout, layout_at}
use Rattle.c_interpreter.proofs.Places.{whole_again}
use Rattle.c_interpreter.specs.Codes.{ReadyCode}
use Rattle.c_interpreter.proofs.RootLaws.{start_left, stuck_left}
use Rattle.c_interpreter.proofs.machine.first_numbers.Goals as goal

pub returns-in-Ok-clause-room : goal.returns-in-Ok-clause-room
returns-in-Ok-clause-room c =
    let made = c.in_ok-numbers.numbers in
    let same = c.run_root.auto.numbers ∙ ap length c.deref_mut.ensures.value in
    ap length (whole_again made.items c.run_root.new.numbers made.len same made.ok.0) ∙ same
    ∙ ap length c.in_ok-numbers.ensures ∙ length-replicate c.size_at.result (pos 0) ∙ c.size_at.ensures
    ∙ ap (λ (ls : List StructLayout). (layout_at ls c.args.tables.now.root).size) c.deref.ensures.value

pub returns-in-Ok-clause-started : goal.returns-in-Ok-clause-started
returns-in-Ok-clause-started c =
    let made = c.in_ok-numbers.numbers in
    let whole =
    whole_again made.items c.run_root.new.numbers made.len (c.run_root.auto.numbers
    ∙ ap length c.deref_mut.ensures.value) made.ok.0 in
    let Left : List ℤ → Type 0 =
    λ ns. IsStarted c.args.checked.now (record { program = c.args.checked.now; numbers = ns }) in
    subst Left (sym whole)
    (start_left c.args.checked.now c.args.tables.now c.size_at.result c.run_root.new.numbers c.in-Ok.field-0
    c.new-code.result.program c.deref_mut.result.now c.requires
    (ap (λ (k : ReadyCode). k.program) c.new-code.ensures ∙ c.program.ensures) (c.deref_mut.ensures.value
    ∙ c.in_ok-numbers.ensures) c.in-Ok.ensures)

pub returns-in-Err-clause-stuck : goal.returns-in-Err-clause-stuck
returns-in-Err-clause-stuck c =
    stuck_left c.args.checked.now c.args.tables.now c.size_at.result c.run_root.new.numbers c.in-Err.at
    c.new-code.result.program c.deref_mut.result.now c.requires
    (ap (λ (k : ReadyCode). k.program) c.new-code.ensures ∙ c.program.ensures) (c.deref_mut.ensures.value
    ∙ c.in_ok-numbers.ensures) c.in-Err.ensures
