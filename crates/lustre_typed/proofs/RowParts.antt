-- The start of a row and whether it runs, as expressions with types.
use Rattle.std.proofs.Common.{◌≡◌, refl, sym, subst, ℕ, ◌^◌, ◌<◌, Bool, true, false, if◌then◌else◌, List, Option, ℤ, pos, neg_ℤ, int_lt, unsigned_abs, arith}
use Rattle.std.proofs.lemmas.Int.{ints}
use Rattle.diagram_meaning.specs.Diagram.{Diagram, time_at}
use Rattle.diagram_meaning.specs.ResolvedTree.{ResolvedTree, IsResolvedTree, diagram_of}
use Rattle.diagram_meaning.specs.Run.{start_of}
use Rattle.diagram_meaning.specs.SystemRuns.{IsRowOf}
use Rattle.emit_row_code.specs.TestCode.{hit_test}
use Rattle.lustre_syntax.specs.Tree.{int, bool, number, name, negative}
use Rattle.lustre_syntax.specs.Named.{NamedExpr}
use Rattle.lustre_syntax.specs.Lawful.{AreDistinct}
use Rattle.lustre_system.specs.Names.{active_name, now_leaf}
use Rattle.lustre_system.specs.RowEquations.{test_in, runs, signed_number}
use Rattle.lustre_right.specs.Systems.{system_texts, place_in}
use Rattle.lustre_typed.proofs.LawsOfRows.{Laws}
use Rattle.lustre_typed.proofs.Names.{types, Fits, active-holds}
use Rattle.lustre_rows.proofs.lemmas.RowFacts.{start-small, period-short}
use Rattle.lustre_typed.proofs.Tests.{hit-on, also-typed}
use Rattle.lustre_typed.proofs.Typed.{deeper, number-typed, name-typed, negative-typed}

below-zero : (v : ℤ) → int_lt v (pos 0) ≡ true → neg_ℤ v ≡ pos (unsigned_abs v)
below-zero v is = grind (arith, ints)

not-below-zero : (v : ℤ) → int_lt v (pos 0) ≡ false → v ≡ pos (unsigned_abs v)
not-below-zero v is = grind (arith, ints)

module _ (laws : Laws) (r : ResolvedTree) (resolved : IsResolvedTree r) (s : Option ℕ)
    (distinct : AreDistinct (system_texts (diagram_of r) s)) where
  abbrev d : Diagram
  d = diagram_of r

  abbrev place : List ℕ → ℕ
  place = place_in d s

  signed-typed : (v : ℤ) → unsigned_abs v < 2 ^ 63 → Fits d s (signed_number v) int 2
  signed-typed v small = by (int_lt v (pos 0)) refl
    where
      by : (b : Bool) → int_lt v (pos 0) ≡ b → Fits d s (if b then negative (number (neg_ℤ v)) else number v) int 2
      by true is =
          subst (λ (w : ℤ). Fits d s (negative (number w)) int 2) (sym (below-zero v is))
          (negative-typed (types d s) place (number (pos (unsigned_abs v))) 1 (number-typed (types d s) place (unsigned_abs v) small))
      by false is =
          subst (λ (w : ℤ). Fits d s (number w) int 2) (sym (not-below-zero v is))
          (deeper (types d s) place (number (pos (unsigned_abs v))) int 1 2 (omega arith)
          (number-typed (types d s) place (unsigned_abs v) small))

  module _ (b : ℕ) (row : IsRowOf d.rows s b) where
    abbrev pub start : NamedExpr
    start = signed_number (start_of d b)

    pub start-typed : Fits d s start int 2
    start-typed = signed-typed (start_of d b) (start-small r resolved b row.in_table)

    pub runs-typed : Fits d s (runs d s b) bool 11
    runs-typed =
        also-typed d s distinct (name active_name) (test_in d s (hit_test (time_at d b) (now_leaf d.rows s)))
        (deeper (types d s) place (name active_name) bool 1 10 (omega arith)
        (name-typed (types d s) place active_name bool (active-holds d s distinct)))
        (hit-on d s distinct (time_at d b) (period-short r resolved b row.in_table laws.short laws.ticks laws.divide))
