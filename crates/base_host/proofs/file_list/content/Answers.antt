use Rattle.std.proofs.Common.{arith}
use Rattle.std.proofs.lemmas.Grind.{common_steps}
use Rattle.base_host.proofs.Pairs.{bytes_at_is, bytes_at_past}
use Rattle.base_host.proofs.file_list.content.Goals as goal

pub returns-in-Some : goal.returns-in-Some
returns-in-Some c = grind (arith, common_steps, bytes_at_is)

pub returns-in-None : goal.returns-in-None
returns-in-None c = grind (arith, common_steps, bytes_at_past)
