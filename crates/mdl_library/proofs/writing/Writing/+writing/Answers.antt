use Rattle.std.proofs.Common.{rules, ◌≡◌, ◌<◌, subst, refl, true, None, Some, IfOk, unwrap_or, sym, ap, ap₂, ◌∙◌, arith, codes}
use Rattle.mdl_tree.specs.declared.tree.Item.{Item}
use Rattle.mdl_tree.specs.Spelling as spelling
use Rattle.mdl_tree.specs.Values.{items_of, item_alone, section_tree}
use Rattle.std.specs.Prelude.{Vec}
use Rattle.std.specs.declared.alloc.Global.{Global}
use Rattle.mdl_library.specs.Items.{moved}
use Rattle.mdl_library.specs.Written.{source_written}
use Rattle.mdl_library.specs.Held.{given_seen, library_seen}
use Rattle.mdl_library.specs.HeldWriting.{system_of}
use Rattle.mdl_library.proofs.Weights.{weight, weight_first, weight_item, weight_system, weight_of_sources, fewer_left}
use Rattle.mdl_library.proofs.ItemLemmas.{if_ok, is_named, one_item_more, all_items_mapped}
use Rattle.mdl_library.proofs.WrittenLemmas.{written_by_item, written_other, written_block, inner_of-subsystem, source_at_place}
use Rattle.mdl_library.proofs.writing.Writing.+writing.Goals as goal

pub inner-system-requires : goal.inner-system-requires
inner-system-requires t c =
    omega (
      arith,
      weight_first (codes "System") (section_tree c.args.block.now).items (section_tree c.in-Some.system.now) (sym c.in-Some.ensures),
    )

pub inner-returns-in_ok-system-in-Some : goal.inner-returns-in_ok-system-in-Some
inner-returns-in_ok-system-in-Some t c =
    let is : c.is_subsystem.result ≡ true = search rules in
    ap Some c.in_ok-system-in-Some.ensures
    ∙ inner_of-subsystem c.args.self.now (section_tree c.args.block.now) (sym c.is_subsystem.ensures ∙ is)
    (Some (section_tree c.in-Some.system.now)) c.in-Some.ensures

pub inner-returns-in-None : goal.inner-returns-in-None
inner-returns-in-None t c =
    let is : c.is_subsystem.result ≡ true = search rules in
    inner_of-subsystem c.args.self.now (section_tree c.args.block.now) (sym c.is_subsystem.ensures ∙ is) None c.in-None.ensures

pub item-block-requires : goal.item-block-requires
item-block-requires t c =
    omega (arith, ap weight (is_named (codes "Block") c.args.item.now (section_tree c.in-Some.block.now) c.in-Some.ensures).0)

pub item-returns-in_ok-items-in-Some : goal.item-returns-in_ok-items-in-Some
item-returns-in_ok-items-in-Some t c =
    let w = c.args.self.now in
    let s = section_tree c.in-Some.block.now in
    let items = items_of c.in_ok-items-in-Some.items.items in
    let line : c.unwrap_or.result ≡ unwrap_or w.copy s.line = search rules in
    let named = is_named (codes "Block") c.args.item.now s c.in-Some.ensures in
    if_ok (λ new. item_alone new ≡ spelling.Section c.bytes.result.now c.unwrap_or.result items spelling.End)
    (λ new. item_alone new ≡ system_of w (item_alone c.args.item.now)) c.section_of.result (λ new is. is
    ∙ ap₂ (λ n l. spelling.Section n l items spelling.End) c.bytes.ensures line
    ∙ ap (λ x. spelling.Section s.name (unwrap_or w.copy s.line) x spelling.End) c.in_ok-items-in-Some.ensures
    ∙ sym (written_block (library_seen w.library.now) (given_seen w.given.now) (source_written (library_seen w.library.now) w.depth) w.copy s
    named.1)
    ∙ sym (ap (system_of w) named.0)) c.section_of.ensures

pub item-returns-in-None : goal.item-returns-in-None
item-returns-in-None t c =
    let w = c.args.self.now in
    if_ok (λ new. item_alone new ≡ moved w.copy (item_alone c.args.item.now))
    (λ new. item_alone new ≡ system_of w (item_alone c.args.item.now)) c.moved_item.result (λ new is. is
    ∙ written_other (library_seen w.library.now) (given_seen w.given.now) (source_written (library_seen w.library.now) w.depth) w.copy
    c.args.item.now c.in-None.ensures) c.moved_item.ensures

pub system-item-requires : goal.system-item-requires
system-item-requires t c =
    omega (
      arith,
      weight_item c.as_slice-item-items.result.now c.loop-item.item-index c.item-item.result c.loop-item-test.true c.item-item.is,
      ap (λ xs. weight (items_of xs)) c.as_slice-item-items.ensures.value,
    )

pub system-loop-item-preserved : goal.system-loop-item-preserved
system-loop-item-preserved t c =
    let w = c.args.self.now in
    one_item_more (system_of w)
    (written_by_item (library_seen w.library.now) (given_seen w.given.now) (source_written (library_seen w.library.now) w.depth) w.copy)
    c.as_slice-item-items.result.now c.loop-item.item-index c.item-item.result c.loop-item-test.true c.item-item.is c.loop-item.items.items
    c.push.new.self.items c.in_ok-item.field-0 _ c.in_ok-push.ensures.items c.in_ok-item.ensures c.loop-item.invariant

pub system-returns : goal.system-returns
system-returns t c =
    all_items_mapped (system_of c.args.self.now) refl c.as_slice-item-items.result.now c.loop-item.item-index c.loop-item-test.false
    c.loop-item.items.items _ c.loop-item.invariant

pub source-system-requires : goal.source-system-requires
source-system-requires t c =
    let w = c.args.self.now in
    let sources = (library_seen w.library.now).sources in
    let system = section_tree c.in-Some.system.now in
    let above : 0 < w.depth = search rules in
    omega (
      arith,
      fewer_left w.depth (weight_of_sources sources) (weight system.items) above (weight_system sources c.args.place system c.in-Some.ensures),
    )

pub source-returns : goal.source-returns
source-returns t c =
    let w = c.args.self.now in
    let above : 0 < w.depth = search rules in
    subst (λ x. IfOk c.system.result (λ (items : Vec Item Global). items_of items.items ≡ x))
    (source_at_place (library_seen w.library.now) w.depth c.args.line c.args.place (section_tree c.in-Some.system.now) above c.in-Some.ensures)
    c.system.ensures
