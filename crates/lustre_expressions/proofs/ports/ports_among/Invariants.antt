use Rattle.std.proofs.Common.{◌≡◌, take}
use Rattle.lustre_expressions.specs.PortKinds as ports
use Rattle.lustre_expressions.proofs.ports.ports_among.Given as goal

abbrev pub invariant-loop-b : goal.invariant-loop-b
invariant-loop-b l = l.among.items ≡ ports.ports_among l.rows (take l.b-index l.own) l.outputs
