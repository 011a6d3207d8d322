use Rattle.c_printer.proofs.HarmlessComments as proof
use Rattle.c_printer.proofs.laws.comments_are_harmless.Goals as goal

pub returns : goal.returns
returns c = proof.comments_are_harmless
