use Rattle.std.proofs.Common.{sym, ◌∙◌, ap, subst, ◌<◌, length}
use Rattle.std.proofs.lemmas.List.{length-map}
use Rattle.mdl_rows.specs.Held.{seen}
use Rattle.mdl_rows.proofs.BlockLemmas.{numbered-length}
use Rattle.mdl_rows.proofs.reading.model_of.Goals as goal

pub interiors_of-requires-clause-at_most : goal.interiors_of-requires-clause-at_most
interiors_of-requires-clause-at_most c =
    subst (λ n. n < 4_294_967_296)
    (sym (ap length c.as_slice-2.ensures.value ∙ sym (length-map c.in_ok-blocks.blocks.items seen) ∙ ap length c.in_ok-blocks.ensures
    ∙ numbered-length 0 c.args.placed.now)) c.requires.at_most
