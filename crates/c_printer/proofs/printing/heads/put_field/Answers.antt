use Rattle.std.proofs.Common.{◌∙◌}
use Rattle.c_syntax.specs.Plain.{program_tree}
use Rattle.c_syntax.specs.PlainField.{field_tree}
use Rattle.c_printer.specs.Printing.{field_bytes}
use Rattle.c_printer.proofs.EndedLines.{line-put}
use Rattle.c_printer.proofs.printing.heads.put_field.Goals as goal

pub returns : goal.returns
returns c =
    line-put c.end_line.result 4 c.len-code_at.result c.args.out.now.items c.put_margin.new.out.items
    (field_bytes (program_tree c.args.program.now) (field_tree c.args.field.now)) c.put_declaration.new.out.items
    c.end_line.new.out.items c.args.note.now c.in_ok-put_margin.ensures (c.len-code_at.ensures ∙ c.put_margin.new.out.ok.0) c.in_ok-put_declaration.ensures
    c.end_line.ensures
