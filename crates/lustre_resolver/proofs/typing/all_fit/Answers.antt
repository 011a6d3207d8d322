use Rattle.std.proofs.Common.{sym, ◌∙◌, map}
use Rattle.std.proofs.lemmas.List.{length-map}
use Rattle.lustre_syntax.specs.Plain.{declared_names}
use Rattle.lustre_syntax.specs.Tree.{types_of}
use Rattle.lustre_grammar.specs.WrittenTrees.{expr_of}
use Rattle.lustre_rules.specs.Resolve.{word_type}
use Rattle.lustre_resolver.specs.Scopes.{names_of}
use Rattle.lustre_resolver.proofs.GivenLaws.{fits-unlike, length-types}
use Rattle.lustre_resolver.proofs.typing.all_fit.Goals as goal

pub returns-then-es-wanted : goal.returns-then-es-wanted
returns-then-es-wanted c =
    sym (fits-unlike (word_type (names_of c.args.names.now)) (map expr_of c.args.es.now)
    (types_of (declared_names c.args.wanted.now))
    (λ e. c.if-es-wanted.true (sym (length-map c.args.es.now expr_of) ∙ e ∙ length-types c.args.wanted.now)))
