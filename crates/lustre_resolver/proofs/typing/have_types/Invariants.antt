use Rattle.std.proofs.Common.{◌≡◌, drop}
use Rattle.lustre_syntax.specs.Plain.{declared_names}
use Rattle.lustre_syntax.specs.Tree.{types_of}
use Rattle.lustre_syntax.specs.Typing as types
use Rattle.lustre_resolver.specs.Scopes.{names_of}
use Rattle.lustre_resolver.proofs.typing.have_types.Given as goal

abbrev pub invariant-loop-i : goal.invariant-loop-i
invariant-loop-i l =
    types.have_types (types_of (names_of l.names)) l.places (types_of (declared_names l.wanted))
    ≡ types.have_types (types_of (names_of l.names)) (drop l.i l.places) (types_of (declared_names (drop l.i l.wanted)))
