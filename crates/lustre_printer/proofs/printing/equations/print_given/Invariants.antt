use Rattle.std.proofs.Common.{◌≡◌, ◌++◌, take, codes}
use Rattle.std.specs.Prelude.{flat_map}
use Rattle.c_syntax.specs.Names.{name_at}
use Rattle.lustre_printer.specs.Scopes.{names_in}
use Rattle.lustre_printer.proofs.printing.equations.print_given.Given as goal

abbrev pub invariant-loop-k : goal.invariant-loop-k
invariant-loop-k l =
    l.out.items ≡ l.initial.out.items ++ flat_map (λ k. codes ", " ++ name_at (names_in l.scope) k) (take l.k-index l.later)
