-- A program that is simplified can be printed.
use Rattle.std.proofs.Common.{◌≡◌, sym, subst}
use Rattle.c_syntax.specs.Tree.{ProgramTree}
use Rattle.c_syntax.specs.Lawful.{IsLawful}
use Rattle.emit_simplified.specs.Simplified.{simplified}
use Rattle.emit_simplified.specs.Laws.{SimplifiedIsLawful}

pub lawful-written : SimplifiedIsLawful → (p q : ProgramTree) → q ≡ simplified p → IsLawful p → IsLawful q
lawful-written keeps p q made lawful = subst IsLawful (sym made) (keeps p lawful)
