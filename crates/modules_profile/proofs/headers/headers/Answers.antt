use Rattle.std.proofs.Common.{arith}
use Rattle.diagram_meaning.specs.Nested.{system_of}
use Rattle.modules_profile.specs.SystemProfile.{SystemProfile}
use Rattle.modules_profile.proofs.NestedLists.{agreed-child, as_many, row-of, row-inside}
use Rattle.modules_profile.proofs.headers.headers.Goals as goal

pub child-requires : goal.child-requires
child-requires c =
    let many =
    as_many (λ (p : SystemProfile). p.row) c.args.r.now.tree.table.rows
    (system_of c.args.s.now) c.requires.system c.args.profiles.now c.requires.profiles in
    let below = c.loop-i-test.true in
    omega arith

pub header-requires-clause-system : goal.header-requires-clause-system
header-requires-clause-system c =
    agreed-child c.args.r.now.tree.table.rows (system_of c.args.s.now) c.loop-i.i
    (system_of c.child.result.now) c.requires.system c.child.ensures

pub header-requires-clause-row : goal.header-requires-clause-row
header-requires-clause-row c =
    row-of (λ (p : SystemProfile). p.row) c.args.r.now.tree.table.rows
    (system_of c.args.s.now) c.requires.system c.args.profiles.now c.requires.profiles c.loop-i.i
    (system_of c.child.result.now)
    c.index-profiles-i.result c.loop-i-test.true c.index-profiles-i.is c.child.ensures

pub header-requires-clause-inside : goal.header-requires-clause-inside
header-requires-clause-inside c =
    row-inside (λ (p : SystemProfile). p.row) c.args.r.now.tree.table.rows
    (system_of c.args.s.now) c.requires.system c.args.profiles.now c.requires.profiles c.loop-i.i
    c.index-profiles-i.result c.loop-i-test.true c.index-profiles-i.is
