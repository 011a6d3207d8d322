-- What statements leave as it was: the fields in which they store nothing, and call nothing that may.
use Rattle.std.specs.Prelude.{◌≡◌, ℕ, ◌+◌, ◌==◌, nat_lt, not, Bool, true, false, if◌then◌else◌, List, [], ◌∷◌, ⊤}
use Rattle.std.specs.List.{AllByRecursion, list_any}
use Rattle.std.proofs.Common.{refl, sym, ap, ◌∙◌}
use Rattle.std.proofs.lemmas.Bool.{and_parts, not-true, or_parts, eqb-false}
use Rattle.c_syntax.specs.declared.code.Target.{Target}
use Rattle.c_syntax.specs.declared.code.Target.TheVariants.{Own, Child}
use Rattle.c_syntax.specs.declared.fault.Why.TheVariants.{Range, Steps}
use Rattle.c_syntax.specs.Tree.{StmtTree, assign, assign_at, branch, call, StmtTrees, no_stmts, more_stmts, type_at}
use Rattle.c_semantics.specs.Cells.{Cell, Cells, number, items, object, set_cell, set_item, fields_at, items_at}
use Rattle.c_semantics.specs.Values.{Answer, gives, sticks, and_then, is_in_type, stuck_at, step_limit, reads, index_in, eval, eval_cond}
use Rattle.c_semantics.specs.Machine.{LoggedCall, StoredField, Outcome, done, stuck, behind, then_run, on_answer, begin_step, in_child, on_target, routine_at, Scope, arguments, store, store_at, run_stmt, run_stmts}
use Rattle.c_semantics.proofs.lemmas.Runs.{cell_at-set_cell-other}
use Rattle.emit_fused.specs.Kept.{is_apart, target_keeps, stmt_keeps, stmts_keep}
use Rattle.emit_fused.proofs.SameReads.{SameAt}

-- ---- Fields of two instances

-- two instances hold the same in each of these fields
abbrev pub AreSameAt : List ℕ → Cells → Cells → Type 0
AreSameAt fields cells others = AllByRecursion (SameAt cells others) fields

pub same-fields : (fields : List ℕ) (cells : Cells) → AreSameAt fields cells cells
same-fields [] cells = tt
same-fields (f ∷ fields) cells = (refl, same-fields fields cells)

same-further : (fields : List ℕ) (cells others last : Cells) → AreSameAt fields cells others → AreSameAt fields others last →
    AreSameAt fields cells last
same-further [] cells others last h g = tt
same-further (f ∷ fields) cells others last h g = (g.0 ∙ h.0, same-further fields cells others last h.1 g.1)

-- a field is set that is none of these
same-set : (fields : List ℕ) (cells : Cells) (g : ℕ) (c : Cell) → is_apart fields g ≡ true → AreSameAt fields cells (set_cell cells g c)
same-set [] cells g c apart = tt
same-set (f ∷ fields) cells g c apart =
    let parts = or_parts (f == g) (list_any (λ k. k == g) fields) (not-true (list_any (λ k. k == g) (f ∷ fields)) apart) in (
      cell_at-set_cell-other cells g f c (λ e. eqb-false f g parts.0 (sym e)),
      same-set fields cells g c (ap not parts.1),
    )

-- ---- What a run is made of

module _ (fields : List ℕ) where
  -- an execution on these fields leaves them as they are
  abbrev pub Keeps : Cells → Outcome → Type 0
  Keeps cells (done a) = AreSameAt fields cells a.cells
  Keeps cells (stuck at left) = ⊤

  keeps-behind : (cells : Cells) (l : List LoggedCall) (s : List StoredField) (o : Outcome) → Keeps cells o → Keeps cells (behind l s o)
  keeps-behind cells l s (done a) h = h
  keeps-behind cells l s (stuck at left) h = tt

  keeps-further : (cells others : Cells) (o : Outcome) → AreSameAt fields cells others → Keeps others o → Keeps cells o
  keeps-further cells others (done a) h g = same-further fields cells others a.cells h g
  keeps-further cells others (stuck at left) h g = tt

  keeps-then : (cells : Cells) (o : Outcome) (go : Cells → ℕ → Outcome) → Keeps cells o →
      ((others : Cells) (n : ℕ) → Keeps others (go others n)) → Keeps cells (then_run o go)
  keeps-then cells (done a) go h after =
      keeps-behind cells a.log a.stores (go a.cells a.steps)
      (keeps-further cells a.cells (go a.cells a.steps) h (after a.cells a.steps))
  keeps-then cells (stuck at left) go h after = tt

  keeps-answer : {A : Type 0} (cells : Cells) (a : Answer A) (go : A → ℕ → Outcome) → ((r : A) (n : ℕ) → Keeps cells (go r n)) →
      Keeps cells (on_answer a cells go)
  keeps-answer cells (gives r n) go after = after r n
  keeps-answer cells (sticks at) go after = tt

  keeps-step : (line : ℕ) (cells : Cells) (n : ℕ) (go : ℕ → Outcome) → ((count : ℕ) → Keeps cells (go count)) →
      Keeps cells (begin_step line cells n go)
  keeps-step line cells n go after = by (nat_lt n step_limit)
    where
      by : (b : Bool) → Keeps cells (if b then go (n + 1) else stuck (stuck_at line Steps) cells)
      by true = after (n + 1)
      by false = tt

  -- a store in another field, if the number is in the field's type
  keeps-stored : (line f : ℕ) (cells : Cells) (c : Cell) (n : ℕ) → is_apart fields f ≡ true → (b : Bool) →
      Keeps cells
      (if b then done (record { cells = set_cell cells f c; steps = n; log = []; stores = record { path = []; field = f } ∷ [] })
      else stuck (stuck_at line Range) cells)
  keeps-stored line f cells c n apart true = same-set fields cells f c apart
  keeps-stored line f cells c n apart false = tt

  keeps-child : (f : ℕ) (cells : Cells) (o : Outcome) → is_apart fields f ≡ true → Keeps cells (in_child f cells o)
  keeps-child f cells (done a) apart = same-set fields cells f (object a.cells) apart
  keeps-child f cells (stuck at left) apart = tt

keeps-nothing : (cells : Cells) (o : Outcome) → Keeps [] cells o
keeps-nothing cells (done a) = tt
keeps-nothing cells (stuck at left) = tt

keeps-target : (fields : List ℕ) (target : Target) (go : Cells → ℕ → Outcome) (cells : Cells) (n : ℕ) → target_keeps fields target ≡ true →
    Keeps fields cells (on_target target go cells n)
keeps-target [] Own go cells n h = keeps-nothing cells (go cells n)
keeps-target (f ∷ fields) Own go cells n h = absurd (let wrong : ⊥ = cc h in wrong)
keeps-target [] (Child f) go cells n h = keeps-child [] f cells (go (fields_at cells f) n) h
keeps-target (g ∷ fields) (Child f) go cells n h = keeps-child (g ∷ fields) f cells (go (fields_at cells f) n) h

-- ---- Statements

module _ (s : Scope) (fields : List ℕ) where
  either-keeps : (f g : Cells → ℕ → Outcome) → ((cells : Cells) (n : ℕ) → Keeps fields cells (f cells n)) →
      ((cells : Cells) (n : ℕ) → Keeps fields cells (g cells n)) → (b : Bool) (cells : Cells) (n : ℕ) →
      Keeps fields cells ((if b then f else g) cells n)
  either-keeps f g one other true cells n = one cells n
  either-keeps f g one other false cells n = other cells n

  mutual
    pub stmt-keeps : (x : StmtTree) → stmt_keeps fields x ≡ true → (cells : Cells) (n : ℕ) → Keeps fields cells (run_stmt s x cells n)
    stmt-keeps (assign line f e) h cells n =
        keeps-step fields line cells n
        (λ count. on_answer (eval s.functions (reads s.values cells) line e count) cells
        (λ v end. store line (type_at s.types f) f v cells end))
        (λ count. keeps-answer fields cells (eval s.functions (reads s.values cells) line e count)
        (λ v end. store line (type_at s.types f) f v cells end)
        (λ v end. keeps-stored fields line f cells (number v) end h (is_in_type (type_at s.types f) v)))
    stmt-keeps (assign_at line f index e) h cells n =
        keeps-step fields line cells n (λ count. on_answer (found count) cells stored)
        (λ count. keeps-answer fields cells (found count) stored
        (λ i mid. keeps-answer fields cells (eval s.functions (reads s.values cells) line e mid)
        (λ v end. store_at line (type_at s.types f) f i v cells end)
        (λ v end. keeps-stored fields line f cells (items (set_item (items_at cells f) i v)) end h (is_in_type (type_at s.types f) v))))
      where
        found : ℕ → Answer ℕ
        found count = and_then (eval s.functions (reads s.values cells) line index count) (index_in line (items_at cells f))

        stored : ℕ → ℕ → Outcome
        stored i mid = on_answer (eval s.functions (reads s.values cells) line e mid) cells
            (λ v end. store_at line (type_at s.types f) f i v cells end)
    stmt-keeps (branch line test on_true on_false) h cells n =
        let parts = and_parts (stmts_keep fields on_true) (stmts_keep fields on_false) h in
        keeps-step fields line cells n
        (λ count. on_answer (eval_cond s.functions (reads s.values cells) line test count) cells
        (λ holds. (if holds then run_stmts s on_true else run_stmts s on_false) cells))
        (λ count. keeps-answer fields cells (eval_cond s.functions (reads s.values cells) line test count)
        (λ holds. (if holds then run_stmts s on_true else run_stmts s on_false) cells)
        (λ holds end. either-keeps (run_stmts s on_true) (run_stmts s on_false) (stmts-keep on_true parts.0) (stmts-keep on_false parts.1)
        holds cells end))
    stmt-keeps (call line k target es) h cells n =
        keeps-step fields line cells n
        (λ count. on_answer (arguments s.functions (reads s.values cells) line (routine_at s.routines k).params es count) cells
        (λ values. on_target target ((routine_at s.routines k).run values) cells))
        (λ count. keeps-answer fields cells (arguments s.functions (reads s.values cells) line (routine_at s.routines k).params es count)
        (λ values. on_target target ((routine_at s.routines k).run values) cells)
        (λ values end. keeps-target fields target ((routine_at s.routines k).run values) cells end h))

    pub stmts-keep : (xs : StmtTrees) → stmts_keep fields xs ≡ true → (cells : Cells) (n : ℕ) → Keeps fields cells (run_stmts s xs cells n)
    stmts-keep no_stmts h cells n = same-fields fields cells
    stmts-keep (more_stmts x xs) h cells n =
        let parts = and_parts (stmt_keeps fields x) (stmts_keep fields xs) h in
        keeps-then fields cells (run_stmt s x cells n) (run_stmts s xs) (stmt-keeps x parts.0 cells n) (stmts-keep xs parts.1)
