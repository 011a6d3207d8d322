-- What the code of a system may read and call, after its children.
use Rattle.std.specs.Prelude.{ℕ, List, ◌++◌, length}
use Rattle.modules_profile.specs.LocalSystem.{LocalSystem}
use Rattle.modules_profile.specs.SystemProfile.{SystemProfile}
use Rattle.modules_schedule.specs.SystemSchedule.{SystemSchedule}
use Rattle.c_syntax.specs.Tree.{PureTree, StructTree, ProcedureTree}
use Rattle.c_syntax.specs.Lawful.{Reach}
use Rattle.emit_shape.specs.Relocation.{Relocation}
use Rattle.right_claim.specs.Alone.{bare_procedures, behind_bare, alone}
use Rattle.emit_system_spec.specs.EmittedCode.{system_code}
use Rattle.right_system_rules.proofs.FieldPlaces.{fields}

module _ (local : LocalSystem) (profile : SystemProfile) (schedule : SystemSchedule) where
  -- where the code is
  abbrev pub relocation : Relocation
  relocation = behind_bare local (system_code local profile schedule)

  -- how many procedures of children are in front of it
  abbrev pub bare : ℕ
  bare = length (bare_procedures local)

  abbrev pub structs : List PureTree → List StructTree
  structs pures = (alone local (system_code local profile schedule) pures).structs

  -- what the code of a procedure with so many parameters reaches, where these procedures are after those of children
  abbrev pub reach : List PureTree → List ProcedureTree → ℕ → Reach
  reach pures later params = record {
    pures = pures;
    structs = structs pures;
    procedures = bare_procedures local ++ later;
    fields = fields local schedule;
    params = params;
    of = length local.children;
  }
