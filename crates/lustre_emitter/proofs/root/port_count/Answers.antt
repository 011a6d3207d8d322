use Rattle.std.proofs.Common.{◌≡◌, ap, ◌∙◌, length, arith}
use Rattle.diagram_meaning.specs.ResolvedTree.{diagram_of}
use Rattle.lustre_expressions.specs.PortKinds.{ordered, ports_among}
use Rattle.lustre_emitter.specs.RootParts.{port_count}
use Rattle.lustre_emitter.proofs.Roots.{ports-counted}
use Rattle.lustre_emitter.proofs.root.port_count.Goals as goal

pub returns : goal.returns
returns c =
    let counted : length c.in_ok-ports.ports.items ≡ port_count (diagram_of c.args.r.now) c.args.outputs = ap length (c.in_ok-ports.ensures
    ∙ (λ i. ordered (c.rows_of.ensures i) (ports_among (c.rows_of.ensures i) (c.root_rows.ensures i) c.args.outputs)))
    ∙ ports-counted (diagram_of c.args.r.now) c.args.outputs in
    let whole = c.in_ok-ports.ports.ok.0 in
    let len = c.len.ensures in
    omega (arith, counted, whole, len)
