use Rattle.std.proofs.Common.{sym, ◌∙◌, ap, subst, ◌<◌, length, slice_index_or, Some}
use Rattle.std.proofs.lemmas.Slice.Zip.{AllZip-long}
use Rattle.mdl_rows.specs.Models.{blocks_of}
use Rattle.mdl_rows.specs.Held.{IsInteriorOf, all_seen}
use Rattle.mdl_rows.proofs.InteriorLemmas.{interior-at}
use Rattle.mdl_rows.proofs.model.ModelBlocks.interior.Goals as goal

pub bounds-as_slice-number : goal.bounds-as_slice-number
bounds-as_slice-number c =
    subst (λ n. c.args.number < n)
    (sym (ap length c.as_slice.ensures.value ∙ AllZip-long _ _ _ c.requires.model.interiors)) c.requires.number

pub returns : goal.returns
returns c =
    let blocks = all_seen c.args.self.now.blocks.items in
    let x = c.index-as_slice-number.result in
    subst (IsInteriorOf (blocks_of blocks (Some c.args.number)))
    (ap (λ is. slice_index_or is c.args.number x) (sym c.as_slice.ensures.value) ∙ sym c.index-as_slice-number.is)
    (interior-at blocks c.args.self.now.interiors.items c.args.number x c.requires.model.blocks.numbers
    c.requires.model.interiors c.requires.number).1
