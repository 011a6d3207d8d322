use Rattle.std.proofs.Common.{◌≡◌, ◌+◌, arith, ap, ◌∙◌, drop, length}
use Rattle.std.specs.List.{flat_map}
use Rattle.std.specs.Vec.{with_items}
use Rattle.std.proofs.lemmas.List.{with_items_is}
use Rattle.lustre_syntax.specs.Plain.{file_tree}
use Rattle.lustre_slots.specs.Sources.{links_of, linked}
use Rattle.lustre_slots.proofs.lemmas.Links.{instance-step}
use Rattle.lustre_slots.proofs.sources.sources_of.Goals as goal

pub loop-of-preserved : goal.loop-of-preserved
loop-of-preserved c =
    let f = file_tree c.args.plan.now.file.now in
    let rest = flat_map (links_of f) (drop (c.loop-of.of-index + 1) c.args.instances.now) in
    let now : (with_items c.loop-of.sources c.link_instance.new.sources).items ≡ c.link_instance.new.sources =
    with_items_is c.loop-of.sources c.link_instance.new.sources (c.link_instance.auto.sources ∙ c.as_mut_slice.ensures.len) in
    ap (λ s. linked s rest) now
    ∙ instance-step f c.args.instances.now c.loop-of.of-index _ c.loop-of.sources.items _
    c.link_instance.new.sources (omega arith) c.in_ok-link_instance.ensures c.as_mut_slice.ensures.value
    ∙ c.loop-of.invariant
