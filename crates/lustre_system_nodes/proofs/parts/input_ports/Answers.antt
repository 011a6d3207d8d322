use Rattle.std.proofs.Common.{◌+◌, [], ap, arith}
use Rattle.base_core.specs.declared.base.Port.TheVariants.{Number}
use Rattle.lustre_system_nodes.proofs.Steps.{numbered-next}
use Rattle.lustre_system_nodes.proofs.parts.input_ports.Goals as goal

pub loop-k-preserved : goal.loop-k-preserved
loop-k-preserved c =
    let k = c.loop-k.k in
    numbered-next Number 1 k (k + 1) (Number c.in_ok-small.field-0) [] c.loop-k.list.items c.push.new.self.items (omega arith)
    (ap Number c.in_ok-small.ensures) c.loop-k.invariant c.in_ok-push.ensures.items
