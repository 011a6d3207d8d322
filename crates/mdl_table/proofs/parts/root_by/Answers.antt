use Rattle.std.proofs.Common.{subst, sym}
use Rattle.mdl_tree.specs.Values.{section_tree}
use Rattle.mdl_table.specs.Nesting.{SystemIsShort}
use Rattle.mdl_table.proofs.TreeLemmas.{are-short, are-nested, systems-made}
use Rattle.mdl_table.proofs.parts.root_by.Goals as goal

pub subsystem_of-requires : goal.subsystem_of-requires
subsystem_of-requires c =
    subst SystemIsShort (sym c.requires.root)
    (are-short c.outlines_are_numbered.ensures c.own_blocks_are_by_owner.ensures c.children_are_by_subsystems.ensures c.args.defaults.now
    (section_tree c.args.system.now) c.requires.accepted)

pub returns-clause-systems : goal.returns-clause-systems
returns-clause-systems c =
    systems-made c.args.rows.now c.args.root.now (section_tree c.args.system.now) c.subsystem_of.result c.requires.root
    (are-nested c.outlines_are_numbered.ensures c.own_blocks_are_by_owner.ensures c.children_are_by_subsystems.ensures c.args.defaults.now
    (section_tree c.args.system.now) c.args.rows.now c.requires.accepted c.requires.rows)
    c.subsystem_of.ensures
