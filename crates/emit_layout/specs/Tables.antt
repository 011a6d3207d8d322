-- What holds of the tables of a layout.
use Rattle.std.specs.Prelude.{◌≡◌, ℕ, ◌+◌, List, map, length, Option}
use Rattle.std.specs.List.{range_with_len}
use Rattle.base_core.specs.declared.base.Port.{Port}
use Rattle.base_fixed_point.specs.declared.types.FixType.{FixType}
use Rattle.modules_profile.specs.Locals.{own_header}
use Rattle.emit_system_spec.specs.declared.node.Place.{Place}
use Rattle.emit_system_spec.specs.declared.source.Source.{Source}
use Rattle.emit_system_spec.specs.Emittable.{IsEmittable}
use Rattle.emit_system_spec.specs.Fields.{value_rows, single_rows, line_rows, numbers, first_place, shared_groups}
use Rattle.emit_system_spec.specs.Groups.{code_groups, own_count}
use Rattle.emit_system_spec.specs.Heads.{port_types}
use Rattle.emit_system_spec.specs.Places.{node_places, child_base}
use Rattle.emit_system_spec.specs.Sources.{sources}
use Rattle.emit_layout.specs.Laid.{Laid, Scheduled}

-- a table gives the first place of each of these numbers, and of no other any
abbrev pub TellsPlaces : List ℕ → (ℕ → Option ℕ) → Type 0
TellsPlaces keys told = (k : ℕ) → told k ≡ first_place keys k

-- the rows with a value, with the memory of one sample and with that of several, and the groups
-- with a counter, by number
pub record HasFields (of : Scheduled) (valued single lined counted : List ℕ) : Type 0 where
  pub emittable : IsEmittable of.local of.schedule
  pub values : valued ≡ numbers (value_rows of.local)
  pub singles : single ≡ numbers (single_rows of.local)
  pub lines : lined ≡ numbers (line_rows of.local)
  pub counters : counted ≡ shared_groups of.schedule

-- the tables of a layout beside its fields
pub record HasTables (of : Laid) (found : List Source) (placed : List Place)
    (grouped based : List ℕ) (typed : List (Port × FixType)) : Type 0 where
  pub emittable : IsEmittable of.local of.schedule
  pub are_sources : found ≡ sources of.local
  pub nodes : placed ≡ node_places of.local
  pub groups : grouped ≡ code_groups of.schedule
  pub bases : based
      ≡ map (child_base of.local (own_count of.schedule))
      (range_with_len 0 (length of.local.children + 1))
  pub ports : typed ≡ port_types (own_header of.local of.profile)
