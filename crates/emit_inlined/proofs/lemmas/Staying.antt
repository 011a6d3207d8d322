-- Where the procedures that stay are in the program without helpers, and what they call.
use Rattle.std.specs.Prelude.{◌≡◌, ℕ, ◌<◌, Bool, true, false, if◌then◌else◌, List, [], ◌++◌, take, Option, Some, None, option_map, slice_get}
use Rattle.std.specs.List.{AllByRecursion}
use Rattle.std.proofs.Common.{refl, sym, ap, subst, ◌∙◌, arith}
use Rattle.std.proofs.lemmas.Option.{slice_get-map, get_or_from_slice_get, same_Some}
use Rattle.c_syntax.specs.Tree.{StmtTrees, no_stmts, more_stmts, ProcedureTree, ProgramTree}
use Rattle.c_syntax.specs.Lawful.{AreProcedures}
use Rattle.c_semantics.specs.Machine.{is_interface}
use Rattle.emit_pruned.proofs.lemmas.Numbers.{all-left, all-right, all-both, each-then, each-both}
use Rattle.emit_inlined.specs.Inlined.{stmt_calls, stmts_calls, no_procedure, procedure_at, helper_call, stays, kept_from, place, inlined_procedure, inlined}
use Rattle.emit_inlined.proofs.lemmas.KeptPlaces.{take-at, kept-at, kept-below, kept-found}
use Rattle.emit_inlined.proofs.lemmas.CallCounts.{others_in, remaining, remaining-stay}
use Rattle.emit_inlined.proofs.lemmas.AtPositions.{body-calls}

-- ---- Places

pub procedure-at : (p : ProgramTree) (k : ℕ) (q : ProcedureTree) → slice_get p.procedures k ≡ Some q → procedure_at p k ≡ q
procedure-at p k q there = get_or_from_slice_get p.procedures k q no_procedure there

-- a procedure that stays is at its place
pub stays-at : (p : ProgramTree) (k : ℕ) (q : ProcedureTree) → slice_get p.procedures k ≡ Some q → stays p k ≡ true →
    slice_get (inlined p).procedures (place p k) ≡ Some (inlined_procedure p q)
stays-at p k q there keep =
    slice_get-map (inlined_procedure p) (kept_from (stays p) 0 p.procedures) (place p k)
    ∙ ap (option_map (inlined_procedure p)) (kept-at (stays p) p.procedures k q there keep)

-- and before each that came later
pub stays-before : (p : ProgramTree) (k n : ℕ) (q : ProcedureTree) → k < n → slice_get p.procedures k ≡ Some q → stays p k ≡ true →
    slice_get (take (place p n) (inlined p).procedures) (place p k) ≡ Some (inlined_procedure p q)
stays-before p k n q below there keep =
    take-at (inlined p).procedures (place p k) (place p n) (kept-below (stays p) k n below keep) ∙ stays-at p k q there keep

-- what a procedure of the program without helpers was
pub record Was (p : ProgramTree) (j : ℕ) (y : ProcedureTree) : Type 0 where
  pub position : ℕ
  pub procedure : ProcedureTree
  pub there : slice_get p.procedures position ≡ Some procedure
  pub kept : stays p position ≡ true
  pub at : place p position ≡ j
  pub is : inlined_procedure p procedure ≡ y

-- each was one that stays
pub was : (p : ProgramTree) (j : ℕ) (y : ProcedureTree) → slice_get (inlined p).procedures j ≡ Some y → Was p j y
was p j y there =
    by (slice_get (kept_from (stays p) 0 p.procedures) j) refl
    (sym (slice_get-map (inlined_procedure p) (kept_from (stays p) 0 p.procedures) j) ∙ there)
  where
    by : (o : Option ProcedureTree) → slice_get (kept_from (stays p) 0 p.procedures) j ≡ o →
        option_map (inlined_procedure p) o ≡ Some y → Was p j y
    by None found same = absurd (let wrong : ⊥ = cc same in wrong)
    by (Some q) found same =
        let before = kept-found (stays p) p.procedures j q found in
        record {
          position = before.position;
          procedure = q;
          there = before.there;
          kept = before.kept;
          at = before.place;
          is = same_Some (inlined_procedure p q) y same;
        }

-- ---- Calls

-- what holds of each procedure that statements call holds of those beside helpers
others-each : (P : ℕ → Type 0) (p : ProgramTree) (ss : StmtTrees) → AllByRecursion P (stmts_calls ss) → AllByRecursion P (others_in p ss)
others-each P p no_stmts h = tt
others-each P p (more_stmts s ss) h =
    by (helper_call p s) (others-each P p ss (all-right P (stmt_calls s) (stmts_calls ss) h))
  where
    by : (o : Option (ℕ × List ℕ)) → AllByRecursion P (others_in p ss) →
        AllByRecursion P (elim o [ Some found ↦ others_in p ss | None ↦ stmt_calls s ++ others_in p ss ])
    by (Some found) rest = rest
    by None rest = all-both P (stmt_calls s) (others_in p ss) (all-left P (stmt_calls s) (stmts_calls ss) h) rest

remaining-each : (P : ℕ → Type 0) (p : ProgramTree) (q : ProcedureTree) → AllByRecursion P (stmts_calls q.body) →
    AllByRecursion P (remaining p q)
remaining-each P p q h = by (is_interface q.name)
  where
    by : (b : Bool) → AllByRecursion P (if b then others_in p q.body else stmts_calls q.body)
    by true = others-each P p q.body h
    by false = h

-- beside helpers whose bodies go there, a procedure calls earlier ones that stay
pub remaining-holds : (P : ℕ → Type 0) (p : ProgramTree) (k : ℕ) (q : ProcedureTree) → AreProcedures p.pures p.structs [] p.procedures →
    slice_get p.procedures k ≡ Some q → ((j : ℕ) → j < k → stays p j ≡ true → P j) → AllByRecursion P (remaining p q)
remaining-holds P p k q lawful there each =
    each-then (λ j. (j < k) × (stays p j ≡ true)) P (remaining p q) (λ j both. each j both.0 both.1)
    (each-both (λ j. j < k) (λ j. stays p j ≡ true) (remaining p q)
    (remaining-each (λ j. j < k) p q (body-calls p k k q (omega arith) lawful there)) (remaining-stay p k q there))

-- so does all of a helper's body
pub helper-holds : (P : ℕ → Type 0) (p : ProgramTree) (k : ℕ) (q : ProcedureTree) → AreProcedures p.pures p.structs [] p.procedures →
    slice_get p.procedures k ≡ Some q → is_interface q.name ≡ false → ((j : ℕ) → j < k → stays p j ≡ true → P j) →
    AllByRecursion P (stmts_calls q.body)
helper-holds P p k q lawful there unlogged each =
    subst (λ b. AllByRecursion P (if b then others_in p q.body else stmts_calls q.body)) unlogged (remaining-holds P p k q lawful there each)
