use Rattle.std.proofs.Common.{◌≡◌, ◌∙◌, ap, subst, List}
use Rattle.std.specs.Prelude.{IfOk, filter_map}
use Rattle.mdl_tree.specs.Values.{section_tree}
use Rattle.emit_notes.specs.declared.labels.Label.{Label}
use Rattle.emit_notes.specs.Sections.{all_seen, label_said}
use Rattle.emit_notes.proofs.ReadingLemmas.{labels-accepted}
use Rattle.emit_notes.proofs.reading.labels_by.Goals as goal

pub returns : goal.returns
returns c =
    subst (λ (ls : List Label). IfOk c.labels_from.result (λ v. v.items ≡ ls))
    (ap (filter_map (label_said c.args.defaults.now)) (ap all_seen c.as_slice.ensures.value ∙ c.in_ok-sections.ensures)
    ∙ labels-accepted c.args.defaults.now (section_tree c.args.system.now) c.requires)
    c.labels_from.ensures
