-- The systems of a table: the root, and the subsystem rows; the system around a subsystem is one of them, and is before it.
use Rattle.std.specs.Prelude.{◌≡◌, ℕ, suc, ◌<◌, true, ◌&&◌, List, map, length, Contains, Option, Some, None, refl}
use Rattle.std.proofs.Common.{subst, arith, inl, inr}
use Rattle.std.proofs.lemmas.Bool.{and_from, and_parts}
use Rattle.std.proofs.lemmas.Option.{same_Some, none-some}
use Rattle.diagram_meaning.specs.declared.table.Row.{Row}
use Rattle.diagram_meaning.specs.Rows.{row_at, row_numbers, is_inside}
use Rattle.diagram_blocks.specs.Kinds.{is_subsystem}
use Rattle.diagram_meaning.specs.WellFormed.{IsNested, IsOwner}
use Rattle.modules_profile.specs.Systems.{systems, systems_inside}
use Rattle.modules_profile.proofs.lemmas.Members.{in-first, in-rest, in-cases, in-map, of-map, in-filter, of-filter, in-range, of-range}

-- how far a system is in the table: outward it falls
abbrev pub rank : Option ℕ → ℕ
rank None = 0
rank (Some e) = suc e

module _ (rows : List Row) where
  -- a subsystem row of the table
  abbrev pub IsSubsystem : ℕ → Type 0
  IsSubsystem e = (e < length rows) × (is_subsystem (row_at rows e).kind ≡ true)

  of-inside : (e : ℕ) → Contains (systems_inside rows None) e → IsSubsystem e
  of-inside e has =
      let kept = of-filter (λ c. is_subsystem (row_at rows c).kind && is_inside rows None c) (row_numbers rows) e has in
      let high = (of-range 0 (length rows) e kept.0).1 in
      (omega (arith, high), (and_parts (is_subsystem (row_at rows e).kind) (is_inside rows None e) kept.1).0)

  -- the systems after the root are those of subsystem rows
  pub of-systems : (e : ℕ) → Contains (systems rows) (Some e) → IsSubsystem e
  of-systems e has = elim (in-cases None (Some e) (map Some (systems_inside rows None)) has) [
    | inl same ↦ absurd (none-some e same)
    | inr more ↦
        let m = of-map Some (systems_inside rows None) (Some e) more in
        subst IsSubsystem (same_Some m.0 e m.2) (of-inside m.0 m.1)
  ]

  in-systems : (e : ℕ) → IsSubsystem e → Contains (systems rows) (Some e)
  in-systems e (below, subsystem) =
      in-rest None (Some e) (map Some (systems_inside rows None))
      (in-map Some (systems_inside rows None) e
      (in-filter (λ c. is_subsystem (row_at rows c).kind && is_inside rows None c) (row_numbers rows) e
      (in-range 0 (length rows) e (omega arith) (omega (arith, below)))
      (and_from (is_subsystem (row_at rows e).kind) (is_inside rows None e) subsystem refl)))

  module _ (nested : IsNested rows) (e : ℕ) (below : e < length rows) where
    owned-in : (o : Option ℕ) → IsOwner rows e o → Contains (systems rows) o
    owned-in None owner = in-first None (map Some (systems_inside rows None))
    owned-in (Some g) owner = in-systems g (let before = owner.0 in omega (arith, before, below), owner.1)

    pub owner-in : Contains (systems rows) (row_at rows e).owner
    owner-in = owned-in (row_at rows e).owner (nested.owned e below)

    owned-before : (o : Option ℕ) → IsOwner rows e o → rank o < suc e
    owned-before None owner = omega arith
    owned-before (Some g) owner = let before = owner.0 in omega (arith, before)

    pub owner-before : rank (row_at rows e).owner < suc e
    owner-before = owned-before (row_at rows e).owner (nested.owned e below)
