use Rattle.std.proofs.Common.{ap, ◌∙◌}
use Rattle.mdl_wiring.specs.Members.{member_seen, members_seen}
use Rattle.mdl_wiring.specs.NameMaps.{is_before}
use Rattle.mdl_wiring.specs.Doubles.{double_found}
use Rattle.mdl_wiring.proofs.NameLemmas.{name-before}
use Rattle.mdl_wiring.proofs.doubles.double_name.Goals as goal

pub returns : goal.returns
returns c =
    let m = member_seen c.args.member.now in
    c.double_found.ensures ∙ ap (double_found m) (c.is_before-is_double.ensures ∙ ap (λ o. is_before o c.args.at) c.place_of.ensures
    ∙ name-before (members_seen c.args.members.now) m c.args.names.now c.args.at c.requires)
