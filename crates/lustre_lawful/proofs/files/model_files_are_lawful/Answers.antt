use Rattle.lustre_lawful.proofs.lemmas.LawfulFiles.{model_files_are_lawful}
use Rattle.lustre_lawful.proofs.files.model_files_are_lawful.Goals as goal

pub returns : goal.returns
returns c = model_files_are_lawful c.systems_are_typed.ensures
