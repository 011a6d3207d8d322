use Rattle.std.proofs.Common.{◌≡◌, ◌+◌, map, drop}
use Rattle.lustre_syntax.specs.Plain.{expr_tree}
use Rattle.lustre_slots.specs.Sources.{argument_links, linked}
use Rattle.lustre_slots.proofs.sources.link_arguments.Given as goal

abbrev pub invariant-loop-k : goal.invariant-loop-k
invariant-loop-k l =
    linked l.sources (argument_links l.of l.equation (l.at + l.k) l.k (map expr_tree (drop l.k l.values)))
    ≡ linked l.initial.sources (argument_links l.of l.equation l.at 0 (map expr_tree l.values))
