use Rattle.std.proofs.Common.{sym, ◌∙◌, ap, subst, ◌<◌, ◌≤◌, length}
use Rattle.std.proofs.lemmas.List.{get_or-map, length-map}
use Rattle.mdl_rows.specs.Held.{all_seen, seen}
use Rattle.mdl_rows.proofs.GroupLemmas.{owner-there, groups-step, places-step, groups-end}
use Rattle.mdl_rows.proofs.groups.groups_of.Goals as goal

pub take-requires : goal.take-requires
take-requires c =
    let blocks = all_seen c.args.blocks.now in
    let i = c.loop-block.block-index in
    let b = c.block-item.result in
    let h : i < length blocks = subst (λ n. i < n) (sym (length-map c.args.blocks.now seen)) c.loop-block-test.true in
    owner-there blocks i (seen b) (length c.loop-block.groups.inner.items) c.requires h
    (ap seen c.block-item.is ∙ sym (get_or-map seen c.args.blocks.now i b (seen b) c.loop-block-test.true)) c.loop-block.invariant.count

pub loop-block-preserved : goal.loop-block-preserved
loop-block-preserved c =
    let blocks = all_seen c.args.blocks.now in
    let i = c.loop-block.block-index in
    let b = c.block-item.result in
    let h : i < length blocks = subst (λ n. i < n) (sym (length-map c.args.blocks.now seen)) c.loop-block-test.true in
    let at = ap seen c.block-item.is ∙ sym (get_or-map seen c.args.blocks.now i b (seen b) c.loop-block-test.true) in record {
      groups = groups-step blocks i (seen b) c.loop-block.groups c.take.new.self h at c.in_ok-take.ensures c.loop-block.invariant.groups;
      count = c.in_ok-take.ensures.count ∙ c.loop-block.invariant.count;
      places =
          places-step blocks i (seen b) c.loop-block.groups c.take.new.self c.requires h at c.in_ok-take.ensures
          c.loop-block.invariant.groups
          c.loop-block.invariant.places;
    }

pub returns : goal.returns
returns c =
    let blocks = all_seen c.args.blocks.now in
    groups-end blocks c.loop-block.block-index c.loop-block.groups
    (subst (λ n. n ≤ c.loop-block.block-index) (sym (length-map c.args.blocks.now seen)) c.loop-block-test.false)
    c.loop-block.invariant.groups c.loop-block.invariant.count c.loop-block.invariant.places
