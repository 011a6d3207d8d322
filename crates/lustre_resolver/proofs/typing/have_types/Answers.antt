use Rattle.std.proofs.Common.{sym, ◌∙◌}
use Rattle.lustre_syntax.specs.Plain.{declared_names}
use Rattle.lustre_syntax.specs.Tree.{types_of}
use Rattle.lustre_resolver.specs.Scopes.{names_of}
use Rattle.lustre_resolver.proofs.GivenLaws.{types-unlike, length-types}
use Rattle.lustre_resolver.proofs.typing.have_types.Goals as goal

pub returns-then-places-wanted : goal.returns-then-places-wanted
returns-then-places-wanted c =
    sym (types-unlike (types_of (names_of c.args.names.now)) c.args.places.now (types_of (declared_names c.args.wanted.now))
    (λ e. c.if-places-wanted.true (e ∙ length-types c.args.wanted.now)))
