use Rattle.std.proofs.Common.{◌∙◌, ap, ◌++◌, ◌∷◌, ◌||◌, [], bytes_eq}
use Rattle.c_syntax.specs.Outputs.{has_name}
use Rattle.c_outputs.proofs.NameLists.{names_of, insert-names, insert-has}
use Rattle.c_outputs.proofs.name_table.NameTable.push.Goals as goal

pub returns-clause-new : goal.returns-clause-new
returns-clause-new c = λ new. ap names_of c.in_ok-insert.ensures.keys
    ∙ insert-names c.args.name c.self.inside.names.keys (ap (λ names. has_name names c.args.name.now) c.self.view_is
    ∙ new) ∙ ap (λ names. names ++ c.args.name.now ∷ []) c.self.view_is

pub returns-clause-added : goal.returns-clause-added
returns-clause-added c = λ n. ap (λ keys. has_name (names_of keys) n) c.in_ok-insert.ensures.keys
    ∙ insert-has c.args.name c.self.inside.names.keys n
    ∙ ap (λ names. bytes_eq n c.args.name.now || has_name names n) c.self.view_is
