use Rattle.std.proofs.Common.{sym, ◌∙◌, []}
use Rattle.lustre_syntax.specs.Plain.{node_tree}
use Rattle.c_printer.proofs.lemmas.Lookups.{map-map_at}
use Rattle.lustre_printer.proofs.printing.names.Scope.node.Goals as goal

pub returns-in-Some : goal.returns-in-Some
returns-in-Some c =
    let found = c.in-Some.ensures.lookup in
    c.bytes.ensures
    ∙ sym (map-map_at (λ n. n.text) node_tree c.args.self.now.nodes.now c.args.k c.in-Some.node.now [] found.3.0 found.1)
