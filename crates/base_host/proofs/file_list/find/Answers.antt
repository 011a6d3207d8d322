use Rattle.std.proofs.Common.{arith, add-one}
use Rattle.std.proofs.lemmas.Grind.{common_steps}
use Rattle.base_host.proofs.Pairs.{lookup_here, lookup_past}
use Rattle.base_host.proofs.file_list.find.Goals as goal

pub returns-then-eq : goal.returns-then-eq
returns-then-eq c = grind (arith, common_steps, lookup_here)

pub loop-i-preserved : goal.loop-i-preserved
loop-i-preserved c = rw add-one (grind (arith, common_steps, lookup_past))
