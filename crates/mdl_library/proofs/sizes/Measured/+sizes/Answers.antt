use Rattle.std.proofs.Common.{◌≡◌, List, sym, ap, ◌∙◌, arith, codes}
use Rattle.mdl_tree.specs.Values.{section_tree, trees_of}
use Rattle.mdl_library.specs.Held.{given_seen, library_seen}
use Rattle.mdl_library.specs.Sizes.{Size, system_size, inner_size}
use Rattle.mdl_library.specs.HeldSizes.{capped, are_capped}
use Rattle.mdl_library.specs.declared.sizes.Size as held
use Rattle.mdl_library.proofs.Weights.{weight_first, weight_among}
use Rattle.mdl_library.proofs.ItemLemmas.{if_ok}
use Rattle.mdl_library.proofs.SizeLemmas.{inner_some, inner_none, size_more, size_end}
use Rattle.mdl_library.proofs.sizes.Measured.+sizes.Goals as goal

pub inside-system-requires : goal.inside-system-requires
inside-system-requires t c =
    omega (
      arith,
      weight_first (codes "System") (section_tree c.args.section.now).items (section_tree c.in-Some.system.now) (sym c.in-Some.ensures),
    )

pub inside-returns-in-Some : goal.inside-returns-in-Some
inside-returns-in-Some t c =
    let sources = (library_seen c.args.self.now.library.now).sources in
    let given = given_seen c.args.self.now.given.now in
    let system = section_tree c.in-Some.system.now in
    let items = (section_tree c.args.section.now).items in
    if_ok (λ (size : held.Size). (sizes : List Size) → c.args.self.now.sizes.now ≡ are_capped sizes →
    size ≡ capped (system_size sources given sizes system.items))
    (λ (size : held.Size). (sizes : List Size) → c.args.self.now.sizes.now ≡ are_capped sizes →
    size ≡ capped (inner_size sources given sizes items))
    c.system.result (λ size is sizes e. is sizes e ∙ ap capped (inner_some sources given sizes items system c.in-Some.ensures))
    c.system.ensures

pub inside-returns-in-None : goal.inside-returns-in-None
inside-returns-in-None t c = λ sizes e.
    ap capped (inner_none (library_seen c.args.self.now.library.now).sources (given_seen c.args.self.now.given.now) sizes
    (section_tree c.args.section.now).items c.in-None.ensures)

pub system-block-requires : goal.system-block-requires
system-block-requires t c =
    omega (
      arith,
      weight_among (codes "Block") (section_tree c.args.system.now).items c.as_slice-block-items.result.now c.loop-block.block-index
          c.block-item.result (ap trees_of c.as_slice-block-items.ensures.value ∙ c.in_ok-blocks.ensures) c.loop-block-test.true c.block-item.is,
    )

pub system-loop-block-preserved : goal.system-loop-block-preserved
system-loop-block-preserved t c = λ sizes e.
    size_more (library_seen c.args.self.now.library.now).sources (given_seen c.args.self.now.given.now) sizes
    c.as_slice-block-items.result.now c.loop-block.block-index c.block-item.result c.loop-block-test.true c.block-item.is c.loop-block.size
    c.in_ok-own.own c.beside-size.result c.beside-size.ensures (c.in_ok-own.ensures sizes e) (c.loop-block.invariant sizes e)

pub system-returns : goal.system-returns
system-returns t c = λ sizes e.
    size_end (library_seen c.args.self.now.library.now).sources (given_seen c.args.self.now.given.now) sizes
    c.as_slice-block-items.result.now c.loop-block.block-index c.loop-block-test.false (section_tree c.args.system.now).items
    (ap trees_of c.as_slice-block-items.ensures.value ∙ c.in_ok-blocks.ensures) c.loop-block.size (c.loop-block.invariant sizes e)
