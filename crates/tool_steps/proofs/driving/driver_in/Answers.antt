use Rattle.std.proofs.Common.{rules, ◌≡◌, List, ℕ, subst}
use Rattle.diagram_meaning.specs.ResolvedTable.{ResolvedTable, table_of_tree}
use Rattle.c_interpreter.specs.States.{MachineState}
use Rattle.tool_compiled.specs.Compilation.{Compilation}
use Rattle.tool_endings.specs.Acting.{StartsFrom, NotStarted}
use Rattle.tool_steps.proofs.Drivers.{machine-of, driven-in, not-driven}
use Rattle.tool_steps.proofs.driving.driver_in.Goals as goal

pub driver_of-requires-clause-machine : goal.driver_of-requires-clause-machine
driver_of-requires-clause-machine c =
    let r : ResolvedTable = table_of_tree c.args.r.now in
    let compiled : Compilation = c.args.compiled.now in
    let m : MachineState = c.in-Ok.machine in
    let same : c.deref.result.now ≡ compiled.code = search rules in
    let starts : StartsFrom compiled.code m = subst (λ (x : List ℕ). StartsFrom x m) same (search rules) in
    machine-of r compiled c.requires.accepted.0 c.requires.accepted.1 c.requires.right c.accepted_tables_are_well_formed.ensures m starts

pub returns-in-Err-clause-ended : goal.returns-in-Err-clause-ended
returns-in-Err-clause-ended c =
    let r : ResolvedTable = table_of_tree c.args.r.now in
    let compiled : Compilation = c.args.compiled.now in
    let same : c.deref.result.now ≡ compiled.code = search rules in
    let none : NotStarted compiled.code c.in-Err.ending = subst (λ (x : List ℕ). NotStarted x c.in-Err.ending) same (search rules) in
    not-driven r compiled c.requires.accepted.0 c.requires.accepted.1 c.requires.right c.readings_agree.ensures c.in-Err.ending none

pub returns-in-Ok-driver_of-clause-stands : goal.returns-in-Ok-driver_of-clause-stands
returns-in-Ok-driver_of-clause-stands c =
    let r : ResolvedTable = table_of_tree c.args.r.now in
    let compiled : Compilation = c.args.compiled.now in
    let m : MachineState = c.in-Ok.machine in
    let same : c.deref.result.now ≡ compiled.code = search rules in
    let starts : StartsFrom compiled.code m = subst (λ (x : List ℕ). StartsFrom x m) same (search rules) in
    λ w of_model text.
    c.in-Ok-driver_of.ensures w
    (driven-in r compiled c.requires.accepted.0 c.requires.accepted.1 c.requires.right m starts c.args.system.row w of_model text)
