-- The slots of nodes, as the table of their room has them.
use Rattle.std.specs.Prelude.{ℕ, List, map}
use Rattle.lustre_slots.specs.declared.extents.Extent.{Extent}

abbrev pub slots_in : List Extent → List ℕ
slots_in extents = map (λ e. e.slots) extents
