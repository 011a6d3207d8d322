-- The systems of a model are in its table, and among its systems.
use Rattle.std.proofs.Common.{◌≡◌, sym, ap, ◌∙◌, ℕ, ◌<◌, true, ◌&&◌, List, length, map, Option, None, Some, arith, inl, inr, true≢false}
use Rattle.std.specs.Prelude.{Contains}
use Rattle.diagram_blocks.specs.Kinds.{is_subsystem}
use Rattle.diagram_meaning.specs.declared.Row.{Row}
use Rattle.diagram_meaning.specs.Rows.{row_at, row_numbers, is_inside}
use Rattle.diagram_meaning.proofs.lemmas.Tick.{row_at-past}
use Rattle.diagram_typed_runs.specs.TypedRuns.{IsSystem}
use Rattle.modules_profile.specs.Systems.{systems_inside, systems}
use Rattle.modules_profile.proofs.lemmas.Members.{in-first, in-rest, in-map, in-filter, in-range}

pub system-below : (rows : List Row) (e : ℕ) → is_subsystem (row_at rows e).kind ≡ true → e < length rows
system-below rows e is = elim (row_at-past rows e) [
  | inl below ↦ below
  | inr past ↦ absurd (true≢false (sym is ∙ ap (λ (row : Row). is_subsystem row.kind) past))
]

pub in-systems : (rows : List Row) (s : Option ℕ) → IsSystem rows s → Contains (systems rows) s
in-systems rows None system = in-first None (map Some (systems_inside rows None))
in-systems rows (Some e) system =
    in-rest None (Some e) (map Some (systems_inside rows None))
    (in-map Some (systems_inside rows None) e
    (in-filter (λ k. is_subsystem (row_at rows k).kind && is_inside rows None k) (row_numbers rows) e
    (in-range 0 (length rows) e (omega arith) (let below = system-below rows e system in omega (arith, below)))
    (ap (λ b. b && true) system)))
