use Rattle.c_printer.proofs.Utf8Comments as proof
use Rattle.c_printer.proofs.laws.comments_are_utf8.Goals as goal

pub returns : goal.returns
returns c = proof.comments_are_utf8
