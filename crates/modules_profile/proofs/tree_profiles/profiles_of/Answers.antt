use Rattle.std.proofs.Common.{subst, sym}
use Rattle.std.specs.Result.{IfOk}
use Rattle.diagram_meaning.specs.declared.subsystem.Subsystem.{Subsystem}
use Rattle.diagram_meaning.specs.Nested.{Agrees, row_of, system_of}
use Rattle.diagram_meaning.specs.ResolvedTree.{diagram_of}
use Rattle.modules_profile.specs.Systems.{IsInTable}
use Rattle.modules_profile.specs.TreeProfiles.{AreProfilesInside}
use Rattle.modules_profile.proofs.tree_profiles.profiles_of.Goals as goal

pub profiles_inside-requires-clause-system : goal.profiles_inside-requires-clause-system
profiles_inside-requires-clause-system c =
    subst (λ (s : Subsystem). Agrees c.args.r.now.tree.table.rows (system_of s))
    (sym c.root.ensures) c.is_resolved.ensures.tree.systems.agrees

pub profiles_inside-requires-clause-inside : goal.profiles_inside-requires-clause-inside
profiles_inside-requires-clause-inside c =
    subst (λ (s : Subsystem). IsInTable c.args.r.now.tree.table.rows (row_of (system_of s))) (sym c.root.ensures)
    (subst (IsInTable c.args.r.now.tree.table.rows) (sym c.is_resolved.ensures.tree.systems.is_root) tt)

pub returns : goal.returns
returns c =
    subst (λ (s : Subsystem). IfOk c.profiles_inside.result
    (λ v. AreProfilesInside (diagram_of c.args.r.now) (system_of s) v.items)) c.root.ensures c.profiles_inside.ensures
