use Rattle.std.proofs.Common.{take}
use Rattle.modules_profile.proofs.lemmas.InputMasks.{AreMasksAt}
use Rattle.modules_profile.proofs.needs.masks_at.Given as goal

abbrev pub invariant-loop-b : goal.invariant-loop-b
invariant-loop-b l = AreMasksAt l.reached l.control (take l.b-index l.places) l.masks.items
