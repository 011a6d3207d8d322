use Rattle.mdl_tree.specs.Values.{section_tree}
use Rattle.mdl_table.proofs.tree.build.Goals as goal

pub new-requires : goal.new-requires
new-requires c =
    record {
      table = c.tree_table_is_well_formed.ensures (section_tree c.args.file.now).items _ c.in_ok-table.ensures.accepted
          c.in_ok-table.ensures.table;
      systems = c.in_ok-table.ensures.systems;
    }
