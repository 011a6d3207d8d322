use Rattle.mdl_tree.specs.Values.{section_tree}
use Rattle.mdl_systems.specs.Models.{model_of}
use Rattle.mdl_table.proofs.FoundModels.{found-fault}
use Rattle.mdl_table.proofs.tree.model_in.Goals as goal

pub returns-clause-fault : goal.returns-clause-fault
returns-clause-fault c = found-fault c.find_model.result (model_of (section_tree c.args.file.now).items) c.find_model.ensures.fault
