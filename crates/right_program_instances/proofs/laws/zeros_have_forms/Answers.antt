use Rattle.right_program_instances.proofs.ZeroFields.{zeros_have_forms}
use Rattle.right_program_instances.proofs.laws.zeros_have_forms.Goals as goal

pub returns : goal.returns
returns c = zeros_have_forms
