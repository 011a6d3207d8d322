use Rattle.std.proofs.Common.{◌∙◌, ap, ◌++◌, codes, rules}
use Rattle.c_syntax.specs.Names.{name_at}
use Rattle.lustre_printer.specs.Scopes.{names_in}
use Rattle.lustre_printer.proofs.PrintedLists.{parted-printed}
use Rattle.lustre_printer.proofs.printing.equations.print_given.Goals as goal

pub returns : goal.returns
returns c =
    parted-printed (codes ", ") (name_at (names_in c.args.scope.now)) c.args.given.now c.in-Some.later.now c.in-Some.first.now
    c.loop-k.k-index c.args.out.now.items c.push.new.out.items c.loop-k.out.items (search rules)
    (c.in_ok-push.ensures ∙ ap (λ t. c.args.out.now.items ++ t) c.name.ensures) (search rules) c.loop-k.invariant
