use Rattle.std.proofs.Common.{sym, ◌∙◌}
use Rattle.mdl_rows.specs.Models.{kind_of, system_in}
use Rattle.mdl_rows.specs.Held.{all_seen, seen}
use Rattle.mdl_rows.proofs.BlockLemmas.{among-below}
use Rattle.mdl_rows.proofs.RowWireLemmas.{with-system, without-system}
use Rattle.mdl_rows.proofs.wires.output_row.Goals as goal

pub outport-requires-clause-number : goal.outport-requires-clause-number
outport-requires-clause-number c = among-below (all_seen c.args.model.now.blocks.items) (seen c.args.block.now) c.requires.among

pub returns-then-has_system : goal.returns-then-has_system
returns-then-has_system c =
    let b = seen c.args.block.now in
    c.outport.ensures
    ∙ with-system (all_seen c.args.model.now.blocks.items) b (system_in (kind_of b)) c.args.output
    (sym c.has_system.ensures ∙ c.if-has_system.true)

pub returns-else-has_system : goal.returns-else-has_system
returns-else-has_system c =
    let b = seen c.args.block.now in
    without-system (all_seen c.args.model.now.blocks.items) b (system_in (kind_of b)) c.args.output
    (sym c.has_system.ensures ∙ c.if-has_system.false)
