-- Rows that are known where they are read, and the activity that is known with those that control it.
use Rattle.std.proofs.Common.{◌≡◌, refl, sym, subst, ℕ, zero, suc, ◌<◌, true, not, List, ◌∷◌, ◌++◌, length, Contains, Option, None, Some, arith, inl, inr}
use Rattle.std.specs.Prelude.{⊤}
use Rattle.std.specs.List.{AllByRecursion}
use Rattle.std.proofs.lemmas.Bool.{and_parts}
use Rattle.std.proofs.lemmas.List.Elements.{Contains-append_left, Contains-append_right}
use Rattle.diagram_blocks.specs.Kinds.{is_outport}
use Rattle.diagram_blocks.specs.Meaning.{has_value}
use Rattle.diagram_meaning.specs.declared.Row.{Row}
use Rattle.diagram_meaning.specs.Rows.{row_at, enclosing}
use Rattle.diagram_meaning.specs.Inputs.{wires_of_rows}
use Rattle.diagram_meaning.specs.SystemRuns.{IsRowOf}
use Rattle.diagram_meaning.specs.WellFormed.{IsWireIn, IsOwner}
use Rattle.diagram_meaning.proofs.lemmas.Enclosing.{enclosing-step}
use Rattle.diagram_typed_runs.specs.TypedRuns.{IsSystem}
use Rattle.emit_shape.specs.Names.{value_name}
use Rattle.lustre_rows.proofs.lemmas.Lists.{all-member}
use Rattle.lustre_rows.proofs.lemmas.Systems.{system-below}
use Rattle.lustre_rows.proofs.lemmas.Wires.{child-reading}
use Rattle.lustre_ticks.proofs.Setting.{Setting, rows, IsKnown}
use Rattle.lustre_ticks.proofs.Around.{KnowsActivity, root-activity, child-activity}

-- ---- Rows that are known where they are read

pub record KnownRow (g : Setting) (b : ℕ) : Type 0 where
  pub value : b < length (rows g) → has_value (row_at (rows g) b).kind ≡ true → IsKnown g (row_at (rows g) b).owner (value_name b)
  pub output : (e : ℕ) → b < length (rows g) → is_outport (row_at (rows g) b).kind ≡ true → (row_at (rows g) b).owner ≡ Some e →
      IsKnown g (row_at (rows g) e).owner (value_name b)

pub known-wire : (g : Setting) (o : Option ℕ) (c : ℕ) → KnownRow g c → IsWireIn (rows g) o c → IsKnown g o (value_name c)
known-wire g o c known (below, inl (own, out)) =
    let parts = and_parts (has_value (row_at (rows g) c).kind) (not (is_outport (row_at (rows g) c).kind)) out in
    subst (λ (s : Option ℕ). IsKnown g s (value_name c)) own (known.value below parts.0)
known-wire g o c known (below, inr (outport, (e, own, parent))) =
    subst (λ (s : Option ℕ). IsKnown g s (value_name c)) parent (known.output e below outport own)

-- ---- Activity by the controls around

abbrev pub BelowSystem : ℕ → Option ℕ → Type 0
BelowSystem n None = ⊤
BelowSystem n (Some e) = e < n

pub owner-system : (table : List Row) (b : ℕ) (o : Option ℕ) → IsOwner table b o → IsSystem table o
owner-system table b None owner = tt
owner-system table b (Some e) owner = owner.1

pub owner-below : (table : List Row) (n e : ℕ) (o : Option ℕ) → e < suc n → IsOwner table e o → BelowSystem n o
owner-below table n e None below owner = tt
owner-below table n e (Some f) below owner = let less = owner.0 in omega (arith, below, less)

pub activity-known : (g : Setting) (n : ℕ) (s : Option ℕ) → IsSystem (rows g) s → BelowSystem n s →
    ((c : ℕ) → Contains (wires_of_rows (rows g) (enclosing (rows g) None s)) c → KnownRow g c) → KnowsActivity g s
activity-known g zero None system below each = root-activity g
activity-known g zero (Some e) system below each = absurd (omega (arith, below))
activity-known g (suc n) None system below each = root-activity g
activity-known g (suc n) (Some e) system below each =
    let nested = g.tick.resolved.tree.table.nested in
    let o = (row_at (rows g) e).owner in
    let own = (row_at (rows g) e).inputs in
    let in_table = system-below (rows g) e system in
    let row : IsRowOf (rows g) o e = record { in_table = in_table; own = refl } in
    let owner : IsOwner (rows g) e o = nested.owned e in_table in
    let outer_wires = wires_of_rows (rows g) (enclosing (rows g) None o) in
    let step : enclosing (rows g) None (Some e) ≡ e ∷ enclosing (rows g) None o = enclosing-step (rows g) None nested e in_table in
    let every : (c : ℕ) → Contains (own ++ outer_wires) c → KnownRow g c =
    λ c m. each c (subst (λ (es : List ℕ). Contains (wires_of_rows (rows g) es) c) (sym step) m) in
    let outside = owner-system (rows g) e o owner in
    let outer = activity-known g n o outside (owner-below (rows g) n e o below owner)
    (λ c m. every c (Contains-append_right own outer_wires c m)) in
    let wired = subst (λ (s : Option ℕ). AllByRecursion (IsWireIn (rows g) s) own)
    (child-reading (rows g) (row_at (rows g) e).kind o system) (g.tick.resolved.tree.table.wired.wires e in_table) in
    child-activity g o outside e row system outer
    (λ c m. known-wire g o c (every c (Contains-append_left own outer_wires c m)) (all-member (IsWireIn (rows g) o) own wired c m))
