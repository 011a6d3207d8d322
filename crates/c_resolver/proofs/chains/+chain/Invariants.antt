use Rattle.std.proofs.Common.{◌≡◌, map, drop, max}
use Rattle.c_syntax.specs.Tree.{stmts_of_list}
use Rattle.c_syntax.specs.Plain.{stmt_tree}
use Rattle.c_syntax.specs.Chains as rules
use Rattle.c_resolver.proofs.chains.+chain.Given as goal

abbrev pub invariant-stmts_chain-loop-s : goal.invariant-stmts_chain-loop-s
invariant-stmts_chain-loop-s l =
    max l.longest (rules.stmts_chain l.chains (stmts_of_list (map stmt_tree (drop l.s-index l.ss))))
    ≡ rules.stmts_chain l.chains (stmts_of_list (map stmt_tree l.ss))
