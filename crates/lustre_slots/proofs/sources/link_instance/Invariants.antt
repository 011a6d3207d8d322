use Rattle.std.proofs.Common.{◌≡◌, map, drop}
use Rattle.lustre_syntax.specs.Plain.{equation_tree, file_tree}
use Rattle.lustre_slots.specs.Sources.{equation_links, links_of, linked}
use Rattle.lustre_slots.proofs.sources.link_instance.Given as goal

abbrev pub invariant-loop-i : goal.invariant-loop-i
invariant-loop-i l =
    linked l.sources
    (equation_links (file_tree l.plan.file.now) l.of l.i l.at (map equation_tree (drop l.i l.equations)))
    ≡ linked l.initial.sources (links_of (file_tree l.plan.file.now) l.of)
