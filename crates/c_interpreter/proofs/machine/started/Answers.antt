use Rattle.std.proofs.Common.{subst, sym, ◌∙◌, ap, length}
use Rattle.c_syntax.specs.declared.program.Program.{Program}
use Rattle.c_syntax.specs.Lawful.{IsLawful}
use Rattle.c_syntax.specs.Plain.{program_tree}
use Rattle.c_syntax.specs.RootFields.{output_fields, root_fields}
use Rattle.c_interpreter.specs.Roots.{AreTables, AreCounts}
use Rattle.c_interpreter.proofs.machine.started.Goals as goal

pub tables_of-requires-clause-lawful : goal.tables_of-requires-clause-lawful
tables_of-requires-clause-lawful c =
    subst (λ (x : Program). IsLawful (program_tree x)) (sym c.program.ensures) c.requires.lawful

pub tables_of-requires-clause-count : goal.tables_of-requires-clause-count
tables_of-requires-clause-count c =
    c.outputs.ensures ∙ c.requires.outputs
    ∙ ap (λ (x : Program). length (output_fields (root_fields (program_tree x)))) (sym c.program.ensures)

pub returns-clause-machine : goal.returns-clause-machine
returns-clause-machine c =
    let t = c.in_ok-tables.tables in
    let Tabled : Program → Type 0 =
    λ x. AreTables (program_tree x) t.layouts.items t.logged.items t.root t.start t.step t.outputs.items in
    let Counted : Program → Type 0 = λ x. AreCounts (program_tree x) t.counts.items t.root in
    let tables : Tabled c.args.checked.now.program = subst Tabled c.program.ensures c.in_ok-tables.ensures.tables in
    record {
      tables = tables;
      counts = subst Counted c.program.ensures c.in_ok-tables.ensures.counts;
      outputs_count = c.requires.outputs ∙ sym (ap length tables.outputs_are);
      room = c.in_ok-numbers.ensures.room;
    }
