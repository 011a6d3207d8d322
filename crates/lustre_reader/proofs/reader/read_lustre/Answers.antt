use Rattle.std.proofs.Common.{sym, subst}
use Rattle.lustre_syntax.specs.Plain.{file_tree}
use Rattle.lustre_syntax.specs.declared.file.LusFile.{LusFile}
use Rattle.lustre_grammar.specs.WrittenTrees.{file_of}
use Rattle.lustre_rules.specs.Reading.{LustreText}
use Rattle.lustre_reading_laws.proofs.lemmas.Readings.{text-read, readings_are_lawful}
use Rattle.lustre_reader.specs.Reading.{IsReadFault}
use Rattle.lustre_reader.proofs.Refusals.{refused-same, grammar-refused, rule-refused}
use Rattle.lustre_reader.proofs.reader.read_lustre.Goals as goal

pub returns-in_err-written-clause-refused : goal.returns-in_err-written-clause-refused
returns-in_err-written-clause-refused c =
    let bytes = c.args.bytes.now in
    let e = c.in_err-written.field-0.0 in
    refused-same c.from_residual.result e (IsReadFault bytes) c.from_residual.ensures.1
    (grammar-refused bytes e c.in_err-written.ensures)

pub returns-in_err-file-clause-refused : goal.returns-in_err-file-clause-refused
returns-in_err-file-clause-refused c =
    let bytes = c.args.bytes.now in
    let e = c.in_err-file.field-0.0 in
    refused-same c.from_residual-in_err-file.result e (IsReadFault bytes) c.from_residual-in_err-file.ensures.1
    (rule-refused bytes (file_of c.in_ok-written.written) e c.in_ok-written.ensures c.in_err-file.ensures)

pub new-requires : goal.new-requires
new-requires c =
    let bytes = c.args.bytes.now in
    let file = file_tree c.in_ok-file.file in
    readings_are_lawful bytes file
    (text-read bytes (file_of c.in_ok-written.written) file c.in_ok-written.ensures c.in_ok-file.ensures)

pub returns-clause-read : goal.returns-clause-read
returns-clause-read c =
    let bytes = c.args.bytes.now in
    let file = file_tree c.in_ok-file.file in
    subst (λ (f : LusFile). LustreText bytes (file_tree f)) (sym c.new.ensures)
    (text-read bytes (file_of c.in_ok-written.written) file c.in_ok-written.ensures c.in_ok-file.ensures)
