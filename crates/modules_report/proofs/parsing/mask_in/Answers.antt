use Rattle.std.proofs.Common.{rules}
use Rattle.modules_report.proofs.PortGuesses.{mask_more}
use Rattle.modules_report.proofs.parsing.mask_in.Goals as goal

pub loop-word-preserved : goal.loop-word-preserved
loop-word-preserved c =
    λ ps placed e small. mask_more (λ w. w.now) c.args.words.now _ ps c.loop-word.word-index c.loop-word.mask
    c.bit_in.result
    c.saturating_add-mask.result placed e small (search rules)
    (c.loop-word.invariant ps placed e small) c.bit_in.ensures c.saturating_add-mask.ensures
