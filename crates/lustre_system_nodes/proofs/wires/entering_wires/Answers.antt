use Rattle.std.proofs.Common.{ap, ◌∙◌, map, arith}
use Rattle.std.specs.Prelude.{slice_get}
use Rattle.std.proofs.lemmas.List.{take_all}
use Rattle.diagram_meaning.specs.Rows.{row_at}
use Rattle.lustre_system_nodes.proofs.WireLaws.{all-wires}
use Rattle.lustre_system_nodes.proofs.wires.entering_wires.Goals as goal

pub returns : goal.returns
returns c =
    let rows = c.args.table.now in
    all-wires rows c.args.e c.loop-i.wires.items c.push_controls.new.wires.items c.args.inports.now c.requires
    (c.loop-i.invariant
    ∙ ap (map (λ i. slice_get (row_at rows i).inputs 0)) (take_all c.loop-i.i-index c.args.inports.now (omega (arith, c.loop-i-test.false))))
    c.in_ok-push_controls.ensures
