use Rattle.std.proofs.Common.{◌∙◌}
use Rattle.lustre_resolver.proofs.Views.{ints-both}
use Rattle.lustre_resolver.proofs.heads.has_ints.Goals as goal

pub returns : goal.returns
returns c = c.ports_are_ints.ensures ∙ ints-both c.args.n.now.inputs.items c.args.n.now.outputs.items
