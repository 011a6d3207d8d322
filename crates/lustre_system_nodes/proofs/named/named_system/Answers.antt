use Rattle.std.proofs.Common.{ℕ, Option, ap, ◌∙◌}
use Rattle.diagram_meaning.specs.ResolvedTree.{diagram_of}
use Rattle.lustre_syntax.specs.Named.{all_names}
use Rattle.lustre_system.specs.SystemNodes.{system_node}
use Rattle.lustre_system_nodes.proofs.named.named_system.Goals as goal

pub returns : goal.returns
returns c = record {
  row = c.in_ok-parts.ensures.row;
  parts = c.in_ok-parts.ensures.parts;
  names = c.in_ok-names.ensures
      ∙ ap (λ (s : Option ℕ). all_names (system_node (diagram_of c.args.r.now) s)) c.in_ok-parts.ensures.row;
}
