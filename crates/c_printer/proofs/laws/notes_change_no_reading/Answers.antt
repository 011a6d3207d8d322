use Rattle.c_printer.proofs.PrintedReading as proof
use Rattle.c_printer.proofs.laws.notes_change_no_reading.Goals as goal

pub returns : goal.returns
returns c = proof.notes_change_no_reading
