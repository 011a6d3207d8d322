use Rattle.std.proofs.Common.{List, ◌++◌, reverse, ap, ◌∙◌, Bor}
use Rattle.diagram_meaning.specs.declared.subsystem.Subsystem.{Subsystem}
use Rattle.diagram_meaning.specs.Nested.{row_of, system_of}
use Rattle.modules_profile.specs.TreeProfiles.{rows_inside}
use Rattle.lustre_emitter.specs.Listed.{listed_rows}
use Rattle.lustre_emitter.proofs.Lists.{map-reverse}
use Rattle.lustre_emitter.proofs.systems.systems_of.Goals as goal

pub returns-clause-rows : goal.returns-clause-rows
returns-clause-rows c =
    let all = c.add_systems.new.list.items in
    ap listed_rows c.reverse.ensures.items
    ∙ map-reverse (λ (s : Bor Subsystem). row_of (system_of s.now)) all
    ∙ ap reverse (c.in_ok-add_systems.ensures.rows
    ∙ ap (λ (l : List (Bor Subsystem)). listed_rows l ++ rows_inside (system_of c.root.result.now)) c.new-list.ensures.items
    ∙ ap (λ (s : Subsystem). rows_inside (system_of s)) c.root.ensures
    ∙ c.tree_has_all_systems.ensures c.args.r.now c.is_resolved.ensures)
