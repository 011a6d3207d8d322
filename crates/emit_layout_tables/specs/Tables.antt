-- The tables of a layout, as they are made before its profile is at hand.
use Rattle.std.specs.Prelude.{ℕ, List}
use Rattle.base_core.specs.declared.base.Port.{Port}
use Rattle.base_fixed_point.specs.declared.types.FixType.{FixType}
use Rattle.modules_profile.specs.SystemProfile.{SystemProfile}
use Rattle.emit_system_spec.specs.declared.node.Place.{Place}
use Rattle.emit_system_spec.specs.declared.source.Source.{Source}
use Rattle.emit_layout.specs.Laid.{Scheduled}
use Rattle.emit_layout.specs.Tables.{HasTables}

-- these are the tables of a layout of the system, whatever its profile
abbrev pub AreTables : (of : Scheduled) → List Source → List Place → List ℕ → List ℕ →
    List (Port × FixType) → Type 0
AreTables of found placed grouped based typed =
    (profile : SystemProfile) →
    HasTables (record { local = of.local; profile = profile; schedule = of.schedule }) found placed
    grouped based typed
