use Rattle.std.proofs.Common.{◌≡◌, Some, ◌+◌, ◌≤◌, ◌∷◌, [], ◌++◌, sym, ap, ap₂, ◌∙◌, subst, length, drop, map, arith, rules, codes}
use Rattle.std.specs.Prelude.{bytes_eq}
use Rattle.mdl_tree.specs.Values.{items_of, with_item, section_tree}
use Rattle.mdl_tree.proofs.lemmas.Rows.{section_in, items_from}
use Rattle.mdl_blocks.specs.Peers.{peers_in}
use Rattle.mdl_systems.specs.Outlines.{outlines_in, outlines_inside}
use Rattle.mdl_systems.specs.Held.{all_seen, taken}
use Rattle.mdl_systems.specs.Systems.{own_in, children_in, system_inside, system_of, tree_of_system}
use Rattle.mdl_systems.proofs.OutlineLemmas.{outlines-other, length-news, more-block, inside-system}
use Rattle.mdl_systems.proofs.SystemLemmas.{own-other, children-other, more-own, more-children, held-system}
use Rattle.mdl_systems.proofs.outlines.+blocks.Goals as goal
use Rattle.mdl_systems.proofs.outlines.+blocks.Goals.{take_system-in-Section+then-eq+in_ok-push+in_ok-child+in_ok-push_if_there, take_system-in-Section+else-eq, take_system-in_default}

pub take_system-loop-item-preserved : goal.take_system-loop-item-preserved
take_system-loop-item-preserved t c =
    let items = c.as_slice-item-items.result.now in
    let i = c.loop-item.item-index in
    let rest = items_of (drop (i + 1) items) in
    let olds = c.loop-item.blocks.items in
    let own = c.loop-item.own.items in
    let children = c.loop-item.children.items in
    let row = c.args.row in
    let depth = c.args.depth in
    let peers = peers_in (items_of c.args.system.now.items.items) in
    let first = items_from items i c.item-item.result c.loop-item-test.true c.item-item.is in
    elim c.match-item.branch [
      | take_system-in-Section+then-eq+in_ok-push+in_ok-child+in_ok-push_if_there w ↦
          let block = w.in-Section.section in
          let news = w.take_block.new.blocks.items in
          let named = ap (λ n. bytes_eq n (codes "Block")) (sym w.bytes.ensures)
          ∙ ap (bytes_eq w.bytes.result.now) (sym w.as_slice.ensures) ∙ sym w.eq.ensures ∙ w.if-eq.true in
          let all = w.in_ok-child.ensures.blocks
          ∙ ap (λ p. all_seen olds ++ taken (length olds) row depth p (section_tree block)) c.of-peers.ensures in
          let count = length-news olds news (taken (length olds) row depth peers (section_tree block)) all in
          let split = sym (first ∙ ap (λ x. with_item x rest) w.in-Section.is ∙ section_in block rest) in
          record {
            depth = subst (λ v. depth ≤ length v.items) (sym w.blocks-is) (omega (arith, count, c.loop-item.invariant.depth));
            blocks = ap (λ v. all_seen v.items ++ outlines_in (length v.items) row depth peers rest) w.blocks-is
                ∙ more-block olds news row depth peers (section_tree block) rest named all
                ∙ ap (λ x. all_seen olds ++ outlines_in (length olds) row depth peers x) split
                ∙ c.loop-item.invariant.blocks;
            own = ap₂ (λ xs v. xs.items ++ own_in (length v.items) depth rest) w.own-is w.blocks-is
                ∙ ap (λ xs. xs ++ own_in (length news) depth rest) (w.in_ok-push.ensures.items
                ∙ ap (λ n. own ++ n ∷ []) (let counted : w.len.result ≡ length olds = search rules in counted))
                ∙ more-own own olds news row depth peers (section_tree block) rest named all
                ∙ ap (λ x. own ++ own_in (length olds) depth x) split
                ∙ c.loop-item.invariant.own;
            children = ap₂ (λ xs v. map system_of xs.items ++ children_in (length v.items) depth rest) w.children-is w.blocks-is
                ∙ ap (λ xs. map system_of xs ++ children_in (length news) depth rest) w.in_ok-push_if_there.ensures
                ∙ more-children children w.in_ok-child.child olds news row depth peers
                (section_tree block) rest named all w.in_ok-child.ensures.system
                ∙ ap (λ x. map system_of children ++ children_in (length olds) depth x) split
                ∙ c.loop-item.invariant.children;
          }
      | take_system-in-Section+else-eq w ↦
          let block = w.in-Section.section in
          let inner = items_of block.items.items in
          let named = ap (λ n. bytes_eq n (codes "Block")) (sym w.bytes.ensures)
          ∙ ap (bytes_eq w.bytes.result.now) (sym w.as_slice.ensures) ∙ sym w.eq.ensures ∙ w.if-eq.false in
          let split = first ∙ ap (λ x. with_item x rest) w.in-Section.is ∙ section_in block rest in
          record {
            depth = subst (λ v. depth ≤ length v.items) (sym w.blocks-is) c.loop-item.invariant.depth;
            blocks = ap (λ v. all_seen v.items ++ outlines_in (length v.items) row depth peers rest) w.blocks-is
                ∙ ap (λ xs. all_seen olds ++ xs) (sym (ap (outlines_in (length olds) row depth peers) split
                ∙ outlines-other (length olds) row depth peers block.name block.line inner rest named))
                ∙ c.loop-item.invariant.blocks;
            own = ap₂ (λ xs v. xs.items ++ own_in (length v.items) depth rest) w.own-is w.blocks-is
                ∙ ap (λ xs. own ++ xs)
                (sym (ap (own_in (length olds) depth) split
                ∙ own-other (length olds) depth block.name block.line inner rest named))
                ∙ c.loop-item.invariant.own;
            children = ap₂ (λ xs v. map system_of xs.items ++ children_in (length v.items) depth rest) w.children-is w.blocks-is
                ∙ ap (λ xs. map system_of children ++ xs)
                (sym (ap (children_in (length olds) depth) split
                ∙ children-other (length olds) depth block.name block.line inner rest named))
                ∙ c.loop-item.invariant.children;
          }
      | take_system-in_default w ↦
          let split = sym (first ∙ ap (λ x. with_item x rest) w.in_default.is) in
          record {
            depth = subst (λ v. depth ≤ length v.items) (sym w.blocks-is) c.loop-item.invariant.depth;
            blocks = ap (λ v. all_seen v.items ++ outlines_in (length v.items) row depth peers rest) w.blocks-is
                ∙ ap (λ xs. all_seen olds ++ xs) (ap (outlines_in (length olds) row depth peers) split)
                ∙ c.loop-item.invariant.blocks;
            own = ap₂ (λ xs v. xs.items ++ own_in (length v.items) depth rest) w.own-is w.blocks-is
                ∙ ap (λ xs. own ++ xs) (ap (own_in (length olds) depth) split)
                ∙ c.loop-item.invariant.own;
            children = ap₂ (λ xs v. map system_of xs.items ++ children_in (length v.items) depth rest) w.children-is w.blocks-is
                ∙ ap (λ xs. map system_of children ++ xs) (ap (children_in (length olds) depth) split)
                ∙ c.loop-item.invariant.children;
          }
    ]

pub take_inside-returns-then-eq-clause-blocks : goal.take_inside-returns-then-eq-clause-blocks
take_inside-returns-then-eq-clause-blocks t c =
    let items = c.as_slice-item-items.result.now in
    let i = c.loop-item.item-index in
    let rest = items_of (drop (i + 1) items) in
    let olds = c.args.blocks.now.items in
    let number = c.args.number in
    let depth = c.args.depth in
    let system = c.in-Section.system in
    let inner = items_of system.items.items in
    let first = items_from items i c.item-item.result c.loop-item-test.true c.item-item.is in
    let named = ap (λ n. bytes_eq n (codes "System")) (sym c.bytes.ensures)
    ∙ ap (bytes_eq c.bytes.result.now) (sym c.as_slice.ensures) ∙ sym c.eq.ensures ∙ c.if-eq.true in
    c.in_ok-inside.ensures.blocks
    ∙ ap (λ v. all_seen v.items ++ outlines_in (length v.items) (Some number) depth (peers_in inner) inner) c.loop-item.invariant.same
    ∙ ap (λ n. all_seen olds ++ outlines_in n (Some number) depth (peers_in inner) inner) c.requires.last
    ∙ ap (λ xs. all_seen olds ++ xs) (sym (inside-system number depth system.name system.line inner rest named)
    ∙ ap (outlines_inside number depth) (sym (first ∙ ap (λ x. with_item x rest) c.in-Section.is ∙ section_in system rest))
    ∙ c.loop-item.invariant.inside)

pub take_inside-returns-then-eq-clause-system : goal.take_inside-returns-then-eq-clause-system
take_inside-returns-then-eq-clause-system t c =
    let items = c.as_slice-item-items.result.now in
    let i = c.loop-item.item-index in
    let rest = items_of (drop (i + 1) items) in
    let number = c.args.number in
    let line = c.args.section.now.line in
    let depth = c.args.depth in
    let system = c.in-Section.system in
    let first = items_from items i c.item-item.result c.loop-item-test.true c.item-item.is in
    let named = ap (λ n. bytes_eq n (codes "System")) (sym c.bytes.ensures)
    ∙ ap (bytes_eq c.bytes.result.now) (sym c.as_slice.ensures) ∙ sym c.eq.ensures ∙ c.if-eq.true in
    ap Some (c.in_ok-inside.ensures.system
    ∙ ap (λ n. tree_of_system (Some number) line depth n (section_tree system))
    (ap (λ v. length v.items) c.loop-item.invariant.same ∙ c.requires.last))
    ∙ sym (held-system number line depth (section_tree system) rest named)
    ∙ ap (system_inside number line depth) (sym (first ∙ ap (λ x. with_item x rest) c.in-Section.is ∙ section_in system rest))
    ∙ c.loop-item.invariant.system
