use Rattle.std.proofs.Common.{◌∙◌, ap}
use Rattle.c_syntax.specs.Plain.{program_tree}
use Rattle.c_printer.specs.Printing.{noted_bytes}
use Rattle.tool_compiler.proofs.WrittenPrograms.{lawful-written}
use Rattle.tool_compiler.proofs.text.simplified_text.Goals as goal

pub print_with_notes-requires : goal.print_with_notes-requires
print_with_notes-requires c =
    lawful-written c.simplified_is_lawful.ensures (program_tree c.args.program)
    (program_tree c.in_ok-written.written) c.in_ok-written.ensures c.requires

pub returns-clause-code : goal.returns-clause-code
returns-clause-code c =
    c.text_of_simplified_is_right.ensures c.in_ok-print_with_notes.field-0.items (program_tree c.args.program)
    (program_tree c.in_ok-written.written)
    c.in_ok-written.ensures c.requires c.in_ok-print_with_notes.ensures.reading

pub returns-clause-noted : goal.returns-clause-noted
returns-clause-noted c = record {
  program = program_tree c.in_ok-written.written;
  lawful = lawful-written c.simplified_is_lawful.ensures (program_tree c.args.program)
      (program_tree c.in_ok-written.written) c.in_ok-written.ensures c.requires;
  code_is = c.in_ok-print_with_notes.ensures.bytes
      ∙ ap (λ notes. noted_bytes notes (program_tree c.in_ok-written.written)) c.in_ok-notes.ensures;
}
