use Rattle.std.proofs.Common.{sym, ◌∙◌, ap, subst}
use Rattle.c_syntax.specs.declared.program.Program.{Program}
use Rattle.c_syntax.specs.Plain.{program_tree}
use Rattle.c_syntax.specs.Lawful.{IsLawful}
use Rattle.c_checked.specs.Checked.{CheckedProgram}
use Rattle.test_c_text.proofs.tests.printed.read_and_printed.Goals as goal

pub print-requires : goal.print-requires
print-requires g =
    let same = g.program-program.ensures ∙ ap (λ (v : CheckedProgram). v.program) (sym g.checked.view_is) in
    subst (λ (p : Program). IsLawful (program_tree p)) (sym same) g.checked.invariant.lawful
