use Rattle.c_syntax.specs.Plain.{program_tree}
use Rattle.c_printer.specs.Notes.{notes_seen}
use Rattle.c_printer.proofs.PrintedReading.{text-of}
use Rattle.c_printer.proofs.printing.print_with_notes.Goals as goal

pub returns-in-Ok : goal.returns-in-Ok
returns-in-Ok c =
    let p = program_tree c.args.p.now in
    record {
      bytes = c.in-Ok.ensures;
      reading = text-of p c.requires (notes_seen c.args.notes.now) c.in-Ok.text.items c.in-Ok.ensures;
    }
