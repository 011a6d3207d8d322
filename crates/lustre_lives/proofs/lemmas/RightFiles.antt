-- The file of a model without a loop, and without a delay that is too long, is right for it.
use Rattle.std.proofs.Common.{sym, subst, List}
use Rattle.diagram_meaning.specs.ResolvedTree.{diagram_of}
use Rattle.modules_profile.specs.Systems.{systems}
use Rattle.modules_profile.proofs.lemmas.PortRows.{of-rows}
use Rattle.lustre_syntax.specs.Named.{NamedNode, placed_file}
use Rattle.lustre_syntax.specs.Tree.{NodeTree}
use Rattle.emit_shape.specs.Names.{value_name}
use Rattle.lustre_system.specs.Functions.{int_name}
use Rattle.lustre_system.specs.FunctionRules.{AreFunctions}
use Rattle.lustre_right.specs.Right.{HasSystem}
use Rattle.lustre_right.specs.RightLaws.{FilesAreRight}
use Rattle.std.specs.Prelude.{Contains}
use Rattle.lustre_rows.proofs.lemmas.Lists.{all-members}
use Rattle.lustre_rows.proofs.lemmas.SystemMembers.{of-value}
use Rattle.lustre_lives.proofs.Nodes.{nodes-are, later_nodes, file-texts, ports-are, system-there}
use Rattle.lustre_lives.proofs.Calls.{calls-are}
use Rattle.lustre_lives.proofs.Ticks.{file_of}
use Rattle.lustre_lives.proofs.Flows.{gives-flows}
pub use Rattle.lustre_lives.proofs.Laws.{Laws}

pub files_are_right : Laws → FilesAreRight
files_are_right laws r resolved no_loop no_long =
    let d = diagram_of r in
    let lawful = laws.lawful r resolved no_long in
    record {
      lawful = lawful;
      nodes = record {
        texts = file-texts d r.times.hyper;
        ports = ports-are d r.times.hyper;
        functions = subst (λ (ns : List NamedNode). AreFunctions (placed_file ns).nodes) (sym (nodes-are d r.times.hyper))
            (laws.functions (later_nodes d r.times.hyper));
        systems_there = all-members (HasSystem (file_of r) d) (systems d.rows) (λ s there. record {
          values = λ b own valued. subst (λ (n : NodeTree). Contains n.names (int_name (value_name b)))
              (sym (system-there d r.times.hyper lawful s there))
              (let (below, owned) = of-rows d.rows s b own in
              of-value d s b (record { in_table = below; own = owned }) (resolved.tree.table.outports s) valued);
          calls = calls-are d r.times.hyper lawful s there;
        });
      };
      runs = gives-flows laws r resolved no_loop lawful;
    }
