use Rattle.std.proofs.Common.{◌≡◌, cond, drop}
use Rattle.std.specs.Prelude.{filter, slice_get}
use Rattle.mdl_wiring.specs.Members.{Member, members_seen}
use Rattle.mdl_wiring.specs.Refusals.{is_port_of}
use Rattle.mdl_wiring.proofs.controls.second_control.Given as goal

abbrev pub invariant-loop-member : goal.invariant-loop-member
invariant-loop-member l =
    slice_get (filter (λ (m : Member). is_port_of l.fn.control m.shape) (members_seen (drop l.member-index l.members))) (cond l.has_one 0 1)
    ≡ slice_get (filter (λ (m : Member). is_port_of l.fn.control m.shape) (members_seen l.fn.members)) 1
