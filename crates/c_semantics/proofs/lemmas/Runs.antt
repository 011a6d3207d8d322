-- Laws of runs: lists of statements one after the other, and what stays as it was.
use Rattle.std.proofs.Common.{◌≡◌, refl, sym, ◌∙◌, ap, ℕ, zero, suc, ◌+◌, ◌<◌, ◌≢◌, List, [], ◌∷◌, ◌++◌, length, arith, slice_get, take, Some, subst, unwrap_or, add-zero}
use Rattle.std.proofs.Math.Path.{fun_ext}
use Rattle.std.proofs.lemmas.List.{append_assoc, get_or_append_left, length-append}
use Rattle.std.proofs.Math.Seq.{get_or-append_seam}
use Rattle.c_syntax.specs.Tree.{StmtTrees, no_stmts, more_stmts, stmts_append, StructTree, ProcedureTree}
use Rattle.c_semantics.specs.Cells.{Cell, Cells, no_cells, more_cells, cell_at, set_cell}
use Rattle.c_semantics.specs.Values.{Function}
use Rattle.c_semantics.specs.CellLaws.{cells_count}
use Rattle.c_semantics.specs.Machine.{Outcome, done, stuck, behind, then_run, Scope, run_stmt, run_stmts, LoggedCall, StoredField, Routine, no_routine, routine_at, routine_of, routines_of}

-- nothing before an outcome leaves it as it is
pub behind-nothing : (o : Outcome) → behind [] [] o ≡ o
behind-nothing (done a) = refl
behind-nothing (stuck at cells) = refl

pub behind-behind : (l m : List LoggedCall) (s t : List StoredField) (o : Outcome) → behind l s (behind m t o) ≡ behind (l ++ m) (s ++ t) o
behind-behind l m s t (done a) =
    let same : (x : List LoggedCall) (y : List StoredField) (x' : List LoggedCall) (y' : List StoredField) → x ≡ x' →
    y ≡ y' → done (record { cells = a.cells; steps = a.steps; log = x; stores = y }) ≡ done
    (record { cells = a.cells; steps = a.steps; log = x'; stores = y' }) =
    λ x y x' y' e d i. done (record { cells = a.cells; steps = a.steps; log = e i; stores = d i }) in
    same _ _ _ _ (sym (append_assoc l m a.log)) (sym (append_assoc s t a.stores))
behind-behind l m s t (stuck at cells) = refl

-- what follows an outcome with earlier events after it
pub then_run-behind : (l : List LoggedCall) (s : List StoredField) (o : Outcome) (go : Cells → ℕ → Outcome) →
    then_run (behind l s o) go ≡ behind l s (then_run o go)
then_run-behind l s (done a) go = sym (behind-behind l a.log s a.stores (go a.cells a.steps))
then_run-behind l s (stuck at cells) go = refl

-- three runs one after the other
pub then_run-then_run : (o : Outcome) (f g : Cells → ℕ → Outcome) →
    then_run (then_run o f) g ≡ then_run o (λ cells steps. then_run (f cells steps) g)
then_run-then_run (done a) f g = then_run-behind a.log a.stores (f a.cells a.steps) g
then_run-then_run (stuck at cells) f g = refl

-- the statements of two lists, one after the other
pub run_stmts-append : (s : Scope) (a b : StmtTrees) (cells : Cells) (steps : ℕ) →
    run_stmts s (stmts_append a b) cells steps ≡ then_run (run_stmts s a cells steps) (run_stmts s b)
run_stmts-append s no_stmts b cells steps = sym (behind-nothing (run_stmts s b cells steps))
run_stmts-append s (more_stmts first rest) b cells steps =
    ap (then_run (run_stmt s first cells steps)) (fun_ext (λ c. fun_ext (λ n. run_stmts-append s rest b c n)))
    ∙ sym (then_run-then_run (run_stmt s first cells steps) (run_stmts s rest) (run_stmts s b))

-- a field that is set, and the others
pub cell_at-set_cell-other : (cells : Cells) (i j : ℕ) (c : Cell) → i ≢ j → cell_at (set_cell cells i c) j ≡ cell_at cells j
cell_at-set_cell-other no_cells i j c apart = refl
cell_at-set_cell-other (more_cells b cs) zero zero c apart = absurd (apart refl)
cell_at-set_cell-other (more_cells b cs) zero (suc j) c apart = refl
cell_at-set_cell-other (more_cells b cs) (suc i) zero c apart = refl
cell_at-set_cell-other (more_cells b cs) (suc i) (suc j) c apart = cell_at-set_cell-other cs i j c (λ e. apart (ap suc e))

pub cell_at-set_cell-same : (cells : Cells) (i : ℕ) (c : Cell) → i < cells_count cells → cell_at (set_cell cells i c) i ≡ c
cell_at-set_cell-same no_cells i c within = absurd (omega (arith, within))
cell_at-set_cell-same (more_cells b cs) zero c within = refl
cell_at-set_cell-same (more_cells b cs) (suc i) c within = cell_at-set_cell-same cs i c (omega (arith, within))

-- later procedures leave the earlier ones as they are
pub routines_of-before : (structs : List StructTree) (functions : List Function) (earlier : List Routine)
    (ps : List ProcedureTree) (k : ℕ) → k < length earlier →
    routine_at (routines_of structs functions earlier ps) k ≡ routine_at earlier k
routines_of-before structs functions earlier [] k within = refl
routines_of-before structs functions earlier (p ∷ ps) k within =
    routines_of-before structs functions (earlier ++ routine_of structs functions earlier (length earlier) p ∷ []) ps k
    (longer earlier _ k within) ∙ get_or_append_left earlier _ no_routine k within
  where
    longer : (xs : List Routine) (y : Routine) (n : ℕ) → n < length xs → n < length (xs ++ y ∷ [])
    longer xs y n h = omega (arith, length-append xs (y ∷ []))

-- the procedure at a position, by the routines of those before it
pub routines_of-at : (structs : List StructTree) (functions : List Function) (earlier : List Routine)
    (ps : List ProcedureTree) (j : ℕ) (p : ProcedureTree) → slice_get ps j ≡ Some p →
    routine_at (routines_of structs functions earlier ps) (length earlier + j)
    ≡ routine_of structs functions (routines_of structs functions earlier (take j ps)) (length earlier + j) p
routines_of-at structs functions earlier [] j p there = cc
routines_of-at structs functions earlier (q ∷ ps) zero p there =
    let r : Routine = routine_of structs functions earlier (length earlier) q in
    rw add-zero (routines_of-before structs functions (earlier ++ r ∷ []) ps (length earlier)
    (omega (arith, length-append earlier (r ∷ []))) ∙ get_or-append_seam earlier r [] no_routine
    ∙ ap (routine_of structs functions earlier (length earlier)) (ap (λ o. unwrap_or o q) there))
routines_of-at structs functions earlier (q ∷ ps) (suc j) p there =
    let r : Routine = routine_of structs functions earlier (length earlier) q in
    let e : length (earlier ++ r ∷ []) + j ≡ length earlier + suc j = omega (arith, length-append earlier (r ∷ [])) in
    subst (λ n. routine_at (routines_of structs functions (earlier ++ r ∷ []) ps) n
    ≡ routine_of structs functions (routines_of structs functions (earlier ++ r ∷ []) (take j ps)) n p) e
    (routines_of-at structs functions (earlier ++ r ∷ []) ps j p there)
