use Rattle.std.proofs.Common.{◌≡◌, List, ◌++◌, drop}
use Rattle.std.specs.List.{AllZip}
use Rattle.base_refusals.specs.FirstRefusal.{as_plain, least_in, earlier_of}
use Rattle.mdl_systems.specs.declared.placed.PlacedBlock.{PlacedBlock}
use Rattle.mdl_systems.specs.Refusals.{unread, misformed}
use Rattle.mdl_systems.specs.Reading.{IsRead, IsFaultless}
use Rattle.mdl_systems.specs.Held.{all_seen}
use Rattle.mdl_systems.proofs.blocks.read_outlines.Given as goal

abbrev pub invariant-loop-outline : goal.invariant-loop-outline
invariant-loop-outline l = record {
  unread : earlier_of (as_plain l.faults.unread) (least_in (unread l.defaults) (all_seen (drop l.outline-index l.outlines)))
      ≡ least_in (unread l.fn.defaults) (all_seen l.fn.outlines);
  misformed : earlier_of (as_plain l.faults.misformed) (least_in (misformed l.defaults) (all_seen (drop l.outline-index l.outlines)))
      ≡ least_in (misformed l.fn.defaults) (all_seen l.fn.outlines);
  blocks : IsFaultless l.faults → (rest : List PlacedBlock) → AllZip (IsRead l.defaults) (all_seen (drop l.outline-index l.outlines)) rest →
      AllZip (IsRead l.fn.defaults) (all_seen l.fn.outlines) (l.blocks.items ++ rest);
}
