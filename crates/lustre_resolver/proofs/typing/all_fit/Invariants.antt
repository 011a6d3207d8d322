use Rattle.std.proofs.Common.{◌≡◌, map, drop}
use Rattle.lustre_syntax.specs.Plain.{declared_names}
use Rattle.lustre_syntax.specs.Tree.{types_of}
use Rattle.lustre_syntax.specs.Typing as types
use Rattle.lustre_grammar.specs.WrittenTrees.{expr_of}
use Rattle.lustre_rules.specs.Resolve.{word_type}
use Rattle.lustre_resolver.specs.Scopes.{names_of}
use Rattle.lustre_resolver.proofs.typing.all_fit.Given as goal

abbrev pub invariant-loop-i : goal.invariant-loop-i
invariant-loop-i l =
    types.all_fit (word_type (names_of l.names)) (map expr_of l.es) (types_of (declared_names l.wanted))
    ≡ types.all_fit (word_type (names_of l.names)) (map expr_of (drop l.i l.es)) (types_of (declared_names (drop l.i l.wanted)))
