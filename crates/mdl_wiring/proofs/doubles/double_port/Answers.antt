use Rattle.std.proofs.Common.{ap, ◌∙◌}
use Rattle.mdl_wiring.specs.Members.{member_seen}
use Rattle.mdl_wiring.specs.Doubles.{double_found, is_taken}
use Rattle.mdl_wiring.proofs.DoubleLemmas.{port-among}
use Rattle.mdl_wiring.proofs.doubles.double_port.Goals as goal

pub returns-clause-found : goal.returns-clause-found
returns-clause-found c =
    λ before are.
    let m = member_seen c.args.member.now in
    let ports = c.args.ports.now in
    c.double_found.ensures
    ∙ ap (double_found m) (c.in_ok-is_double.ensures.before ∙ ap (is_taken ports) c.port_on.ensures
    ∙ port-among c.args.side m before ports are)
