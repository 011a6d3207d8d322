use Rattle.std.proofs.Common.{ap, ◌∙◌, unwrap_or}
use Rattle.c_interpreter.proofs.RootLaws.{field_position_is}
use Rattle.c_interpreter.proofs.roots.field_position.Goals as goal

pub returns : goal.returns
returns c = c.unwrap_or.ensures ∙ ap (λ o. unwrap_or o 0) c.field_named.ensures ∙ field_position_is c.args.fields.now c.args.name.now
