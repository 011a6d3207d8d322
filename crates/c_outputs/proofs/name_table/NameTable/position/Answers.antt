use Rattle.std.proofs.Common.{sym, ◌∙◌, ap, bytes_eq}
use Rattle.std.specs.List.{position_from}
use Rattle.c_outputs.proofs.NameLists.{position-names}
use Rattle.c_outputs.proofs.name_table.NameTable.position.Goals as goal

pub returns-in-Some : goal.returns-in-Some
returns-in-Some c =
    sym c.in-Some.is ∙ c.get_index_of.ensures.index ∙ position-names c.args.name.now c.self.inside.names.keys
    ∙ ap (λ names. position_from (bytes_eq c.args.name.now) 0 names) c.self.view_is

pub returns-in-None : goal.returns-in-None
returns-in-None c =
    sym c.in-None.is ∙ c.get_index_of.ensures.index ∙ position-names c.args.name.now c.self.inside.names.keys
    ∙ ap (λ names. position_from (bytes_eq c.args.name.now) 0 names) c.self.view_is
