use Rattle.std.proofs.Common.{ℕ, ◌+◌, sym, ap, ◌∙◌, List, Option, drop, codes}
use Rattle.std.specs.Prelude.{bytes_eq}
use Rattle.std.specs.Option.{option_or}
use Rattle.mdl_tree.specs.Spelling.{Items}
use Rattle.mdl_tree.specs.Values.{items_of, with_item, section_tree}
use Rattle.mdl_tree.specs.Walks.{SectionTree, sections_named}
use Rattle.mdl_tree.proofs.lemmas.Rows.{section_in, items_from}
use Rattle.mdl_params.specs.BlockTypes.{beside}
use Rattle.mdl_params.specs.Defaults.{DefaultTexts, kinds_of}
use Rattle.mdl_params.specs.Texts.{plain_kinds}
use Rattle.mdl_tree.proofs.lemmas.Sections.{sections_named-yes, sections_named-no}
use Rattle.mdl_params.proofs.lemmas.KindLemmas.{kinds_of-more}
use Rattle.mdl_params.proofs.defaults.read_kinds.Goals as goal
use Rattle.mdl_params.proofs.defaults.read_kinds.Goals.{in-Section+then-eq+in_ok-add_kind, in-Section+else-eq, in_default-item}

-- what is left of the types that the items name
abbrev with_rest : List ℕ → DefaultTexts → List SectionTree → Option (List (List ℕ × List ℕ))
with_rest kind texts blocks = option_or (beside kind texts) (beside kind (kinds_of blocks))

abbrev blocks_in : Items → List SectionTree
blocks_in items = sections_named (codes "Block") items

pub loop-item-preserved : goal.loop-item-preserved
loop-item-preserved c = λ kind.
    let items = c.as_slice-item-items.result.now in
    let i = c.loop-item.item-index in
    let rest = items_of (drop (i + 1) items) in
    let old = plain_kinds c.loop-item.kinds.entries in
    let first = items_from items i c.item-item.result c.loop-item-test.true c.item-item.is in
    elim c.match-item.branch [
      | in-Section+then-eq+in_ok-add_kind w ↦
          let block = w.in-Section.block in
          let name = ap (λ n. bytes_eq n (codes "Block")) (sym w.bytes.ensures)
          ∙ ap (bytes_eq w.bytes.result.now) (sym w.as_slice.ensures) ∙ sym w.eq.ensures ∙ w.if-eq.true in
          let step = ap blocks_in (first ∙ ap (λ x. with_item x rest) w.in-Section.is ∙ section_in block rest)
          ∙ sections_named-yes (codes "Block") block.name block.line (items_of block.items.items) rest name in
          ap (λ m. with_rest kind (plain_kinds m.entries) (blocks_in rest)) w.kinds-is
          ∙ kinds_of-more kind old (plain_kinds w.add_kind.new.kinds.entries) (section_tree block) (blocks_in rest) w.in_ok-add_kind.ensures
          ∙ ap (with_rest kind old) (sym step)
          ∙ c.loop-item.invariant kind
      | in-Section+else-eq w ↦
          let block = w.in-Section.block in
          let name = ap (λ n. bytes_eq n (codes "Block")) (sym w.bytes.ensures)
          ∙ ap (bytes_eq w.bytes.result.now) (sym w.as_slice.ensures) ∙ sym w.eq.ensures ∙ w.if-eq.false in
          let step = ap blocks_in (first ∙ ap (λ x. with_item x rest) w.in-Section.is ∙ section_in block rest)
          ∙ sections_named-no (codes "Block") block.name block.line (items_of block.items.items) rest name in
          ap (λ m. with_rest kind (plain_kinds m.entries) (blocks_in rest)) w.kinds-is
          ∙ ap (with_rest kind old) (sym step) ∙ c.loop-item.invariant kind
      | in_default-item w ↦
          let step = ap blocks_in (first ∙ ap (λ x. with_item x rest) w.in_default-item.is) in
          ap (λ m. with_rest kind (plain_kinds m.entries) (blocks_in rest)) w.kinds-is
          ∙ ap (with_rest kind old) (sym step) ∙ c.loop-item.invariant kind
    ]
