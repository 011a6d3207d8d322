use Rattle.std.proofs.Common.{Some, ◌+◌, ◌∙◌, sym, ap, length, drop, codes}
use Rattle.std.specs.Prelude.{bytes_eq}
use Rattle.std.proofs.lemmas.Result.{on_ok_weaker}
use Rattle.mdl_tree.specs.Values.{items_of, with_item, section_tree}
use Rattle.mdl_tree.proofs.lemmas.Rows.{section_in, items_from}
use Rattle.mdl_blocks.specs.Peers.{peers_in}
use Rattle.mdl_systems.specs.Outlines.{outlines_in, outlines_inside}
use Rattle.emit_notes.specs.Sections.{with_blocks}
use Rattle.emit_notes.proofs.SectionLemmas.{outlines-other, more-block, inside-system}
use Rattle.emit_notes.proofs.sections.+sections.Goals as goal
use Rattle.emit_notes.proofs.sections.+sections.Goals.{take_system-in-Section+then-eq+in_ok-take_block, take_system-in-Section+else-eq, take_system-in_default}

pub take_system-loop-item-preserved : goal.take_system-loop-item-preserved
take_system-loop-item-preserved t c =
    let items = c.as_slice-item-items.result.now in
    let i = c.loop-item.item-index in
    let rest = items_of (drop (i + 1) items) in
    let olds = c.loop-item.sections.items in
    let owner = c.args.owner in
    let first = items_from items i c.item-item.result c.loop-item-test.true c.item-item.is in
    elim c.match-item.branch [
      | take_system-in-Section+then-eq+in_ok-take_block w ↦ λ depth peers.
          let block = w.in-Section.section in
          let named = ap (λ n. bytes_eq n (codes "Block")) (sym w.bytes.ensures)
          ∙ ap (bytes_eq w.bytes.result.now) (sym w.as_slice.ensures) ∙ sym w.eq.ensures ∙ w.if-eq.true in
          ap (λ v. with_blocks v.items (outlines_in (length v.items) owner depth peers rest)) w.sections-is
          ∙ more-block olds w.take_block.new.sections.items owner depth peers (section_tree block) rest named
          (w.in_ok-take_block.ensures depth peers)
          ∙ ap (λ x. with_blocks olds (outlines_in (length olds) owner depth peers x))
          (sym (first ∙ ap (λ x. with_item x rest) w.in-Section.is ∙ section_in block rest))
          ∙ c.loop-item.invariant depth peers
      | take_system-in-Section+else-eq w ↦ λ depth peers.
          let block = w.in-Section.section in
          let named = ap (λ n. bytes_eq n (codes "Block")) (sym w.bytes.ensures)
          ∙ ap (bytes_eq w.bytes.result.now) (sym w.as_slice.ensures) ∙ sym w.eq.ensures ∙ w.if-eq.false in
          ap (λ v. with_blocks v.items (outlines_in (length v.items) owner depth peers rest)) w.sections-is
          ∙ ap (with_blocks olds) (sym (ap (outlines_in (length olds) owner depth peers)
          (first ∙ ap (λ x. with_item x rest) w.in-Section.is ∙ section_in block rest)
          ∙ outlines-other (length olds) owner depth peers (section_tree block) rest named))
          ∙ c.loop-item.invariant depth peers
      | take_system-in_default w ↦ λ depth peers.
          ap (λ v. with_blocks v.items (outlines_in (length v.items) owner depth peers rest)) w.sections-is
          ∙ ap (λ x. with_blocks olds (outlines_in (length olds) owner depth peers x))
          (sym (first ∙ ap (λ x. with_item x rest) w.in_default.is))
          ∙ c.loop-item.invariant depth peers
    ]

pub take_inside-returns-then-eq : goal.take_inside-returns-then-eq
take_inside-returns-then-eq t c =
    let items = c.as_slice-item-items.result.now in
    let i = c.loop-item.item-index in
    let rest = items_of (drop (i + 1) items) in
    let olds = c.args.sections.now.items in
    let number = c.args.number in
    let system = c.in-Section.system in
    let inner = items_of system.items.items in
    let first = items_from items i c.item-item.result c.loop-item-test.true c.item-item.is in
    let named = ap (λ n. bytes_eq n (codes "System")) (sym c.bytes.ensures)
    ∙ ap (bytes_eq c.bytes.result.now) (sym c.as_slice.ensures) ∙ sym c.eq.ensures ∙ c.if-eq.true in
    on_ok_weaker c.take_system.result (λ taken depth.
    taken depth (peers_in inner)
    ∙ ap (λ v. with_blocks v.items (outlines_in (length v.items) (Some number) depth (peers_in inner) inner)) c.loop-item.invariant.same
    ∙ ap (λ n. with_blocks olds (outlines_in n (Some number) depth (peers_in inner) inner)) c.requires.last
    ∙ ap (with_blocks olds) (sym (inside-system number depth (section_tree system) rest named)
    ∙ ap (outlines_inside number depth) (sym (first ∙ ap (λ x. with_item x rest) c.in-Section.is ∙ section_in system rest))
    ∙ c.loop-item.invariant.inside depth)) c.take_system.ensures
