use Rattle.std.proofs.Common.{sym, ◌∙◌, ap, subst}
use Rattle.std.specs.Prelude.{slice_get}
use Rattle.std.specs.List.{All}
use Rattle.mdl_rows.specs.Held.{IsAmong, all_seen}
use Rattle.mdl_rows.proofs.ModelLemmas.{group-there, group-is, group-among}
use Rattle.mdl_rows.proofs.RowWireLemmas.{found-at, holds-at}
use Rattle.mdl_rows.proofs.wires.own_block.Goals as goal

pub of-requires : goal.of-requires
of-requires c = group-there c.args.model.now c.args.owner c.requires.model c.requires.owner

pub returns-clause-block : goal.returns-clause-block
returns-clause-block c =
    found-at c.of.result.now c.args.member c.get.result c.get.ensures.lookup.0 c.get.ensures.lookup.1
    ∙ ap (λ bs. slice_get bs c.args.member) (ap all_seen c.of.ensures
    ∙ group-is c.args.model.now c.args.owner c.requires.model c.requires.owner)

pub returns-clause-among : goal.returns-clause-among
returns-clause-among c =
    let P = IsAmong (all_seen c.args.model.now.blocks.items) in
    holds-at P (all_seen c.of.result.now) c.args.member c.get.result
    (subst (λ own. All P (all_seen own)) (sym c.of.ensures) (group-among c.args.model.now c.args.owner c.requires.model c.requires.owner))
    (found-at c.of.result.now c.args.member c.get.result c.get.ensures.lookup.0 c.get.ensures.lookup.1)
