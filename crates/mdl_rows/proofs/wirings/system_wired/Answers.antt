use Rattle.std.proofs.Common.{sym, subst}
use Rattle.std.specs.List.{All}
use Rattle.mdl_rows.specs.Held.{IsAmong, all_seen}
use Rattle.mdl_rows.proofs.ModelLemmas.{group-there, group-among}
use Rattle.mdl_rows.proofs.wirings.system_wired.Goals as goal

pub of-requires : goal.of-requires
of-requires c = group-there c.args.model.now c.args.row c.requires.model c.requires.row

pub members-requires-clause-among : goal.members-requires-clause-among
members-requires-clause-among c =
    subst (λ own. All (IsAmong (all_seen c.args.model.now.blocks.items)) (all_seen own)) (sym c.of.ensures)
    (group-among c.args.model.now c.args.row c.requires.model c.requires.row)
