use Rattle.std.proofs.Common.{sym, subst}
use Rattle.c_syntax.specs.declared.program.Program.{Program}
use Rattle.c_syntax.specs.Plain.{program_tree}
use Rattle.c_rules.specs.Reading.{CText}
use Rattle.c_reading_laws.proofs.lemmas.ReadTexts.{texts_agree}
use Rattle.c_reader.specs.Reading.{IsReadFault}
use Rattle.c_reader.proofs.Refusals.{refused-same, refused-text}
use Rattle.c_reader.proofs.reader.read_c.Goals as goal

pub returns-in_err-program-clause-refused : goal.returns-in_err-program-clause-refused
returns-in_err-program-clause-refused c =
    let bytes = c.args.bytes.now in
    let e = c.in_err-program.field-0.0 in
    refused-same c.from_residual.result e (IsReadFault bytes) c.from_residual.ensures.1 (refused-text bytes e c.in_err-program.ensures.read)

pub check_root-requires-clause-lawful : goal.check_root-requires-clause-lawful
check_root-requires-clause-lawful c =
    texts_agree.lawful c.args.bytes.now (program_tree c.in_ok-program.program) c.in_ok-program.ensures.read

pub returns-clause-read : goal.returns-clause-read
returns-clause-read c =
    let bytes = c.args.bytes.now in
    subst (λ (p : Program). CText bytes (program_tree p)) (sym c.in_ok-check_root.ensures)
    (texts_agree.read bytes (program_tree c.in_ok-program.program) c.in_ok-program.ensures.read)
