use Rattle.diagram_meaning.specs.Nested.{system_of}
use Rattle.modules_profile.specs.Systems.{children_of}
use Rattle.modules_profile.proofs.lemmas.Members.{at-in}
use Rattle.modules_profile.proofs.lemmas.SystemsInside.{agreed-child, child-inside}
use Rattle.emit_systems.proofs.TreeSteps.{child-listed}
use Rattle.emit_systems.proofs.reading.is_child.Goals as goal

pub returns-clause-system : goal.returns-clause-system
returns-clause-system c =
    let at = at-in (children_of (system_of c.args.s.now)) (system_of c.args.child.now) c.requires.child in
    agreed-child c.args.r.now.tree.table.rows (system_of c.args.s.now) at.0 (system_of c.args.child.now) c.requires.system at.1

pub returns-clause-inside : goal.returns-clause-inside
returns-clause-inside c =
    let at = at-in (children_of (system_of c.args.s.now)) (system_of c.args.child.now) c.requires.child in
    child-inside c.args.r.now.tree.table.rows (system_of c.args.s.now) at.0 (system_of c.args.child.now) c.requires.system at.1

pub returns-clause-listed : goal.returns-clause-listed
returns-clause-listed c =
    let at = at-in (children_of (system_of c.args.s.now)) (system_of c.args.child.now) c.requires.child in
    child-listed c.args.r.now.tree.table.rows (system_of c.args.s.now) at.0 (system_of c.args.child.now) c.requires.system at.1
