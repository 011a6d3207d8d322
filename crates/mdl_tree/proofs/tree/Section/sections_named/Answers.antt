use Rattle.std.proofs.Common.{◌+◌, ◌++◌, sym, ap, ◌∙◌, drop}
use Rattle.std.specs.Prelude.{option_map, option_to_list}
use Rattle.mdl_tree.specs.Values.{items_of, section_tree, item_alone, trees_of}
use Rattle.mdl_tree.specs.Walks.{sections_named}
use Rattle.mdl_tree.proofs.lemmas.Sections.{named-from, named-push, named-pass}
use Rattle.mdl_tree.proofs.tree.Section.sections_named.Goals as goal
use Rattle.mdl_tree.proofs.tree.Section.sections_named.Goals.{in-Some+in_ok-push, in_default}

pub loop-item-preserved : goal.loop-item-preserved
loop-item-preserved c =
    let name = c.args.name.now in
    let items = c.as_slice-item-items.result.now in
    let i = c.loop-item.item-index in
    let item = c.item-item.result in
    let olds = c.loop-item.sections.items in
    let here = sections_named name (item_alone item) in
    let rest = sections_named name (items_of (drop (i + 1) items)) in
    let now = sections_named name (items_of (drop i items)) in
    let whole = sections_named name (items_of c.args.self.now.items.items) in
    let split = named-from name items i item c.loop-item-test.true c.item-item.is in
    elim c.match-section_named.branch [
      | in-Some+in_ok-push w ↦
          ap (λ v. trees_of v.items ++ rest) w.sections-is ∙ ap (λ xs. trees_of xs ++ rest) w.in_ok-push.ensures.items
          ∙ named-push olds w.in-Some.inside here rest now whole
          (ap (λ o. option_to_list (option_map (λ r. section_tree r.now) o)) (sym w.in-Some.is)
          ∙ c.section_named.ensures) split c.loop-item.invariant
      | in_default w ↦
          ap (λ v. trees_of v.items ++ rest) w.sections-is
          ∙ named-pass olds here rest now whole
          (ap (λ o. option_to_list (option_map (λ r. section_tree r.now) o)) (sym w.in_default.is)
          ∙ c.section_named.ensures) split c.loop-item.invariant
    ]
