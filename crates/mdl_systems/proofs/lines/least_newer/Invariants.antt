use Rattle.std.proofs.Common.{◌≡◌, drop}
use Rattle.base_refusals.specs.FirstRefusal.{least_in, as_plain, earlier_of}
use Rattle.mdl_tree.specs.Values.{section_tree}
use Rattle.mdl_systems.specs.Outlines.{root_system, systems_inside}
use Rattle.mdl_systems.specs.Held.{all_seen}
use Rattle.mdl_systems.specs.Refusals.{newer}
use Rattle.mdl_systems.proofs.lines.least_newer.Given as goal

abbrev pub invariant-loop-block : goal.invariant-loop-block
invariant-loop-block l =
    earlier_of (as_plain l.least) (least_in (λ b. least_in newer (systems_inside b)) (all_seen (drop l.block-index l.blocks)))
    ≡ earlier_of (newer (root_system (section_tree l.fn.system))) (least_in (λ b. least_in newer (systems_inside b)) (all_seen l.fn.blocks))
