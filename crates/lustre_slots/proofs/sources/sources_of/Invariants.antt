use Rattle.std.proofs.Common.{◌≡◌, drop, replicate, slice_index}
use Rattle.std.specs.List.{flat_map}
use Rattle.lustre_syntax.specs.Plain.{file_tree}
use Rattle.lustre_slots.specs.declared.placed.Source.TheVariants.{Row}
use Rattle.lustre_slots.specs.Layout.{sizes_of, root_of}
use Rattle.lustre_slots.specs.Sources.{links_of, linked}
use Rattle.lustre_slots.proofs.sources.sources_of.Given as goal

abbrev pub invariant-loop-of : goal.invariant-loop-of
invariant-loop-of l =
    let f = file_tree l.plan.file.now in
    linked l.sources.items (flat_map (links_of f) (drop l.of-index l.instances))
    ≡ linked (replicate (slice_index (sizes_of f) (root_of f).node) Row) (flat_map (links_of f) l.instances)
