-- The one relation between a system by its own rows, its profile, and its code.
use Rattle.std.specs.Prelude.{List}
use Rattle.modules_profile.specs.LocalSystem.{LocalSystem}
use Rattle.modules_profile.specs.SystemProfile.{SystemProfile}
use Rattle.emit_shape.specs.SystemTree.{SystemTree}
use Rattle.emit_shape.specs.Slots.{Slot}
use Rattle.emit_shape.specs.LocalShape.{HasLocalShape}
use Rattle.right_relation.specs.Relation.{Behaves}
use Rattle.right_claim.specs.Alone.{IsLawfulAlone, HasShortChains}

-- The code of a system is right by itself, whatever code its children have that does the same.
pub record SystemOk (local : LocalSystem) (profile : SystemProfile)
    (code : SystemTree) : Type 0 where
  pub slots : List Slot
  -- its struct and procedures have their shape, and each function gives just its outputs
  pub shape : HasLocalShape local profile slots code
  -- in each tick of each run of its rows its calls keep the relation, with each node and each call
  -- of a child once, within its part of the bound on steps; and it starts and resets right
  pub behaves : Behaves local profile slots code
  -- it keeps the rules and limits of C
  pub lawful : IsLawfulAlone local code
  pub chains : HasShortChains local code
