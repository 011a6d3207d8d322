use Rattle.std.proofs.Common.{◌∙◌, ap}
use Rattle.c_syntax.specs.Outputs.{has_name}
use Rattle.c_outputs.proofs.NameLists.{any-names}
use Rattle.c_outputs.proofs.name_table.NameTable.contains.Goals as goal

pub returns : goal.returns
returns c = c.contains.ensures ∙ any-names c.args.name.now c.self.inside.names.keys
    ∙ ap (λ names. has_name names c.args.name.now) c.self.view_is
