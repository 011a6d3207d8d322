use Rattle.std.proofs.Common.{arith}
use Rattle.std.proofs.lemmas.Grind.{common_steps}
use Rattle.base_host.proofs.Pairs.{grow_is_set, same_is_set}
use Rattle.base_host.proofs.file_list.grow.Goals as goal

pub returns-clause-ok : goal.returns-clause-ok
returns-clause-ok c = grind (arith, common_steps, grow_is_set)

pub returns-clause-err : goal.returns-clause-err
returns-clause-err c = grind (arith, common_steps, same_is_set)
