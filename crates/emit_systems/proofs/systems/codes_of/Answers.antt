use Rattle.std.proofs.Common.{map, ap, subst, ◌∙◌}
use Rattle.diagram_meaning.specs.declared.subsystem.Subsystem.{Subsystem}
use Rattle.diagram_meaning.specs.Nested.{row_of, system_of}
use Rattle.diagram_meaning.specs.ResolvedTree.{diagram_of}
use Rattle.modules_profile.specs.TreeProfiles.{rows_inside, AreProfilesInside}
use Rattle.emit_shape.specs.SystemTree.{system_tree}
use Rattle.emit_systems.proofs.SystemSteps.{can-assemble}
use Rattle.emit_systems.proofs.TreeSteps.{profiles-whole}
use Rattle.emit_systems.proofs.systems.codes_of.Goals as goal

pub returns-clause-codes : goal.returns-clause-codes
returns-clause-codes c =
    let inside = c.in_ok-local.field-0 in
    can-assemble c.args.r.now (row_of (system_of c.root.result.now)) inside.local inside.profile (rows_inside (system_of c.root.result.now))
    (map system_tree inside.codes.items)
    (ap (λ (s : Subsystem). row_of (system_of s)) c.root.ensures ∙ c.is_resolved.ensures.tree.systems.is_root)
    (ap (λ (s : Subsystem). rows_inside (system_of s)) c.root.ensures ∙ c.tree_has_all_systems.ensures c.args.r.now c.is_resolved.ensures)
    c.is_resolved.ensures c.requires c.in_ok-local.ensures.local c.in_ok-local.ensures.profile c.in_ok-local.ensures.codes

pub returns-clause-profiles : goal.returns-clause-profiles
returns-clause-profiles c =
    let inside = c.in_ok-local.field-0 in
    let same = ap system_of c.root.ensures in
    subst (λ s. AreProfilesInside (diagram_of c.args.r.now) s c.append.new.self.items) same
    (profiles-whole c.args.r.now (system_of c.root.result.now) inside.profile inside.below.items c.new-profiles.result.items
    c.push.new.self.items c.append.new.self.items c.new-profiles.ensures.items c.in_ok-push.ensures.items c.in_ok-append.ensures.items
    c.in_ok-local.ensures.profile c.in_ok-local.ensures.below)
