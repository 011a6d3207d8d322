use Rattle.std.proofs.Common.{sym, ◌∙◌, ap, subst, ◌<◌, length}
use Rattle.std.proofs.lemmas.List.{length-map}
use Rattle.mdl_rows.specs.Wires.{place_of}
use Rattle.mdl_rows.specs.Held.{all_seen, seen}
use Rattle.mdl_rows.proofs.BlockLemmas.{among-below}
use Rattle.mdl_rows.proofs.WiredLemmas.{place-at}
use Rattle.mdl_rows.proofs.model.ModelBlocks.place.Goals as goal

pub bounds-places-block : goal.bounds-places-block
bounds-places-block c =
    let blocks = all_seen c.args.self.now.blocks.items in
    subst (λ n. c.args.block.now.number < n)
    (sym (ap length (c.as_slice-places.ensures.value ∙ c.requires.model.groups.places) ∙ length-map blocks (place_of blocks)))
    (among-below blocks (seen c.args.block.now) c.requires.among)

pub returns : goal.returns
returns c =
    place-at (all_seen c.args.self.now.blocks.items) c.as_slice-places.result.now (seen c.args.block.now) 0
    (c.as_slice-places.ensures.value ∙ c.requires.model.groups.places) c.requires.among
