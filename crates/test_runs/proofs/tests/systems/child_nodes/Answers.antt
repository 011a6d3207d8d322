use Rattle.std.proofs.Common.{[], sym, arith}
use Rattle.diagram_meaning.specs.Nested.{row_of, system_of}
use Rattle.test_runs.proofs.tests.systems.child_nodes.Goals as goal

pub nodes_of-requires : goal.nodes_of-requires
nodes_of-requires c =
    let child = c.in_ok-child in
    c.locals_are_lawful.ensures c.args.r.now (row_of (system_of child.child.now)) c.in_ok-local.local c.is_resolved.ensures (record {
      headers = [];
      are_headers = record { rows = sym child.ensures.leaf; each = λ h (k, below, is). absurd (omega (arith, below)) };
      is_local = c.in_ok-local.ensures;
    })
