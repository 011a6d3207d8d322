use Rattle.right_system.proofs.EmittedOk as proof
use Rattle.right_system.proofs.laws.emitted_code_is_ok.Goals as goal

pub returns : goal.returns
returns c =
    proof.emitted_code_is_ok c.emitted_code_has_shape.ensures c.pieces_are_right.ensures c.emitted_code_keeps_ticks.ensures
    c.emitted_code_starts.ensures c.emitted_code_resets.ensures c.emitted_is_lawful.ensures c.emitted_has_short_chains.ensures
