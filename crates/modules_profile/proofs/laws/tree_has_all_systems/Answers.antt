use Rattle.diagram_meaning.specs.Nested.{system_of}
use Rattle.modules_profile.proofs.AllSystems.{all-systems}
use Rattle.modules_profile.proofs.laws.tree_has_all_systems.Goals as goal

pub returns : goal.returns
returns c r is = all-systems r.tree.table.rows is.tree.table.nested (system_of r.tree.root) is.tree.systems
