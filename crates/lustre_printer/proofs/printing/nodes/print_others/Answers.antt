use Rattle.std.proofs.Common.{arith}
use Rattle.std.proofs.lemmas.Grind.{common_steps}
use Rattle.lustre_printer.proofs.PrintedLists.{others_bytes-flat}
use Rattle.lustre_printer.proofs.printing.nodes.print_others.Goals as goal

pub returns : goal.returns
returns c = grind (arith, common_steps, others_bytes-flat)
