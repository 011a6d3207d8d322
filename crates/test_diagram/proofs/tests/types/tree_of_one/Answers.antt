use Rattle.std.proofs.Common.{rules, ◌≡◌, [], ◌∷◌}
use Rattle.test_diagram.specs.Samples.{inport_row}
use Rattle.test_diagram.proofs.InputTree.{one_input-well_formed, one_input-systems}
use Rattle.test_diagram.proofs.tests.types.tree_of_one.Goals as goal

pub new-requires : goal.new-requires
new-requires c =
    let e : c.in_ok-rows.rows.items ≡ inport_row c.args.text ∷ [] = search rules in
    record {
      table = one_input-well_formed c.in_ok-rows.rows.items c.args.text e;
      systems = one_input-systems c.in_ok-rows.rows.items c.args.text _ e (search rules);
    }
