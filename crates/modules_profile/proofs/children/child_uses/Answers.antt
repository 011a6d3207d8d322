use Rattle.std.proofs.Common.{arith}
use Rattle.diagram_meaning.specs.Nested.{system_of}
use Rattle.modules_profile.specs.SystemHeader.{SystemHeader}
use Rattle.modules_profile.proofs.NestedLists.{agreed-child, as_many, row-of, row-inside}
use Rattle.modules_profile.proofs.children.child_uses.Goals as goal

pub child-requires : goal.child-requires
child-requires c = let many =
    as_many (λ (h : SystemHeader). h.row) c.args.r.now.tree.table.rows
    (system_of c.args.s.now) c.requires.system c.args.headers.now c.requires.headers in let below =
    c.loop-i-test.true in omega arith

pub child_use-requires-clause-system : goal.child_use-requires-clause-system
child_use-requires-clause-system c =
    agreed-child c.args.r.now.tree.table.rows (system_of c.args.s.now) c.loop-i.i
    (system_of c.child.result.now) c.requires.system c.child.ensures

pub child_use-requires-clause-row : goal.child_use-requires-clause-row
child_use-requires-clause-row c =
    row-of (λ (h : SystemHeader). h.row) c.args.r.now.tree.table.rows
    (system_of c.args.s.now) c.requires.system c.args.headers.now c.requires.headers c.loop-i.i
    (system_of c.child.result.now) c.index-headers-i.result
    c.loop-i-test.true c.index-headers-i.is c.child.ensures

pub child_use-requires-clause-inside : goal.child_use-requires-clause-inside
child_use-requires-clause-inside c =
    row-inside (λ (h : SystemHeader). h.row) c.args.r.now.tree.table.rows
    (system_of c.args.s.now) c.requires.system c.args.headers.now c.requires.headers c.loop-i.i
    c.index-headers-i.result c.loop-i-test.true c.index-headers-i.is
