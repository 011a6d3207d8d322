-- The tables of a layout, of the system that it is seen as; and what 32 bits number there.
use Rattle.std.proofs.Common.{◌≡◌, ℕ, ◌+◌, ◌^◌, ◌≤◌, List, length, ap, subst, arith}
use Rattle.std.specs.List.{sum_by}
use Rattle.std.proofs.lemmas.List.{take_all}
use Rattle.modules_profile.specs.declared.local.ChildUse.{ChildUse}
use Rattle.modules_profile.specs.LocalSystem.{LocalSystem}
use Rattle.modules_profile.specs.Headers.{header_functions}
use Rattle.modules_schedule.specs.SystemSchedule.{SystemSchedule}
use Rattle.emit_system_spec.specs.Emittable.{IsEmittable}
use Rattle.emit_system_spec.specs.Groups.{own_count}
use Rattle.emit_system_spec.specs.Places.{child_base}
use Rattle.emit_layout.specs.declared.layout.Layout.TheInside.{Inside}
use Rattle.emit_layout.specs.Laid.{Laid}
use Rattle.emit_layout.specs.Tables.{HasTables}

-- what a value of the program has, of the system that it is seen as
pub has-tables : (i : Inside) (self : Laid) →
    HasTables (record { local = i.fields.local; profile = i.profile.now; schedule = i.fields.schedule }) i.tables.sources
    i.tables.nodes.items i.tables.groups.items i.tables.bases.items i.tables.ports.items →
    record { local = i.fields.local; profile = i.profile.now; schedule = i.fields.schedule } ≡ self →
    HasTables self i.tables.sources i.tables.nodes.items i.tables.groups.items i.tables.bases.items i.tables.ports.items
has-tables i self has same = subst (λ (of : Laid). HasTables of i.tables.sources i.tables.nodes.items i.tables.groups.items i.tables.bases.items i.tables.ports.items) same has

-- ---- Procedures

pub base-of-all : (local : LocalSystem) (count : ℕ) → child_base local count (length local.children) ≡ count
    + sum_by (λ u. length (header_functions u.header) + 3) local.children
base-of-all local count =
    ap (λ (us : List ChildUse). count + sum_by (λ u. length (header_functions u.header) + 3) us)
    (take_all (length local.children) local.children (omega arith))

pub own-within : (local : LocalSystem) (schedule : SystemSchedule) → IsEmittable local schedule → own_count schedule ≤ 2 ^ 31
own-within local schedule is = let few = is.procedures in let all = base-of-all local (own_count schedule) in omega (arith, few, all)
