use Rattle.c_printer.proofs.SilentNotes as proof
use Rattle.c_printer.proofs.laws.notes_are_optional.Goals as goal

pub returns : goal.returns
returns c = proof.notes_are_optional
