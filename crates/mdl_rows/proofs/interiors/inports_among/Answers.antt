use Rattle.std.proofs.Common.{arith, sym, ◌∙◌, ap}
use Rattle.std.specs.Prelude.{is_some}
use Rattle.mdl_rows.specs.Models.{kind_of}
use Rattle.mdl_rows.specs.Interiors.{inport_number}
use Rattle.mdl_rows.specs.Held.{seen}
use Rattle.mdl_rows.proofs.InteriorLemmas.{count-fits}
use Rattle.mdl_rows.proofs.interiors.inports_among.Goals as goal

pub overflow_add-count : goal.overflow_add-count
overflow_add-count c =
    let small =
    count-fits inport_number c.args.own.now c.loop-block.block-index c.block-item.result c.loop-block.count
    c.loop-block-test.true
    (sym (ap (λ b. is_some (inport_number (kind_of (seen b)))) c.block-item.is)
    ∙ sym (ap is_some c.inport_number.ensures) ∙ sym c.is_some.ensures ∙ c.if-is_some.true)
    c.requires c.loop-block.invariant in
    omega (arith, small)
