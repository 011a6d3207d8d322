use Rattle.diagram_meaning.specs.Nested.{system_of}
use Rattle.modules_profile.specs.Systems.{children_of}
use Rattle.modules_profile.proofs.lemmas.Members.{at-in}
use Rattle.modules_profile.proofs.lemmas.SystemsInside.{agreed-child}
use Rattle.lustre_emitter.proofs.systems.is_child.Goals as goal

pub returns : goal.returns
returns c =
    let at = at-in (children_of (system_of c.args.s.now)) (system_of c.args.child.now) c.requires.child in
    agreed-child c.args.r.now.tree.table.rows (system_of c.args.s.now) at.0 (system_of c.args.child.now) c.requires.system at.1
