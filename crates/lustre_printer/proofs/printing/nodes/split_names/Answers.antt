use Rattle.std.proofs.Common.{arith}
use Rattle.std.proofs.lemmas.Grind.{common_steps}
use Rattle.std.proofs.lemmas.List.{take-map, drop-map}
use Rattle.lustre_printer.proofs.printing.nodes.split_names.Goals as goal

pub returns-clause-first : goal.returns-clause-first
returns-clause-first c = grind (arith, common_steps, take-map)

pub returns-clause-others : goal.returns-clause-others
returns-clause-others c = grind (arith, common_steps, drop-map)
