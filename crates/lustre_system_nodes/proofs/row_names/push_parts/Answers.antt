use Rattle.std.proofs.Common.{◌+◌, ap, arith}
use Rattle.lustre_system.specs.Functions.{int_name}
use Rattle.lustre_system.specs.Names as names
use Rattle.lustre_system_nodes.proofs.Steps.{numbered-next}
use Rattle.lustre_system_nodes.proofs.row_names.push_parts.Goals as goal

pub loop-k-preserved : goal.loop-k-preserved
loop-k-preserved c =
    let k = c.loop-k.k in
    numbered-next (λ n. int_name (names.part_name c.args.b n)) 1 k (k + 1) (int_name c.in_ok-part_name.field-0) c.args.list.now c.loop-k.list
    c.push_int.new.self (omega arith) (ap int_name c.in_ok-part_name.ensures) c.loop-k.invariant c.in_ok-push_int.ensures
