-- Code without helpers, made statement by statement, and the procedures that stay, one by one.
use Rattle.std.specs.Prelude.{◌≡◌, ℕ, zero, suc, ◌+◌, ◌<◌, ◌≤◌, Bool, true, false, if◌then◌else◌, List, [], ◌∷◌, ◌++◌, map, length, Option, Some, None, slice_get, slice_index_or}
use Rattle.std.proofs.Common.{refl, sym, ap, ◌∙◌, arith, take, get_or}
use Rattle.std.proofs.lemmas.List.{append-nil, append_assoc, map-append, take_all, take_more, length-take-le}
use Rattle.std.proofs.lemmas.Option.{same_Some}
use Rattle.c_syntax.specs.declared.code.Stmt.{Stmt}
use Rattle.c_syntax.specs.declared.program.Procedure.{Procedure}
use Rattle.c_syntax.specs.Tree.{StmtTree, StmtTrees, no_stmts, more_stmts, stmts_append, ProcedureTree, stmts_of_list}
use Rattle.c_syntax.specs.Plain.{procedure_tree, stmt_tree}
use Rattle.emit_inlined.specs.Inlined.{no_procedure, moved_stmt, moved_stmts, kept_from, itself}
use Rattle.emit_inlined.specs.Steps.{call_by, in_place_by, stmts_by}

-- ---- Statements

stmts-append : (xs ys : List StmtTree) → stmts_of_list (xs ++ ys) ≡ stmts_append (stmts_of_list xs) (stmts_of_list ys)
stmts-append [] ys = refl
stmts-append (x ∷ xs) ys = ap (more_stmts x) (stmts-append xs ys)

append-none : (xs : StmtTrees) → stmts_append xs no_stmts ≡ xs
append-none no_stmts = refl
append-none (more_stmts x xs) = ap (more_stmts x) (append-none xs)

append-append : (xs ys zs : StmtTrees) → stmts_append (stmts_append xs ys) zs ≡ stmts_append xs (stmts_append ys zs)
append-append no_stmts ys zs = refl
append-append (more_stmts x xs) ys zs = ap (more_stmts x) (append-append xs ys zs)

module _ (procedures : List ProcedureTree) (helpers : ℕ → Bool) (place : ℕ → ℕ) where
  abbrev Made : List Stmt → StmtTrees
  Made ss = stmts_by procedures helpers place (stmts_of_list (map stmt_tree ss))

  inlined-push : (ss : List Stmt) (s : Stmt) →
      Made (ss ++ s ∷ []) ≡ stmts_append (Made ss) (in_place_by procedures helpers place (stmt_tree s))
  inlined-push [] s = append-none (in_place_by procedures helpers place (stmt_tree s))
  inlined-push (t ∷ ss) s =
      ap (stmts_append (in_place_by procedures helpers place (stmt_tree t))) (inlined-push ss s)
      ∙ sym (append-append (in_place_by procedures helpers place (stmt_tree t)) (Made ss)
      (in_place_by procedures helpers place (stmt_tree s)))

  pub inlined-more : (ss : List Stmt) (i : ℕ) (s : Stmt) (list more new : List Stmt) → i < length ss → s ≡ get_or ss i s →
      stmts_of_list (map stmt_tree list) ≡ stmts_by procedures helpers place (stmts_of_list (map stmt_tree (take i ss))) →
      stmts_of_list (map stmt_tree more) ≡ in_place_by procedures helpers place (stmt_tree s) → new ≡ list ++ more →
      stmts_of_list (map stmt_tree new) ≡ stmts_by procedures helpers place (stmts_of_list (map stmt_tree (take (i + 1) ss)))
  inlined-more ss i s list more new inside read before one made =
      ap (λ xs. stmts_of_list (map stmt_tree xs)) made ∙ ap stmts_of_list (map-append stmt_tree list more)
      ∙ stmts-append (map stmt_tree list) (map stmt_tree more) ∙ (λ j. stmts_append (before j) (one j))
      ∙ sym (ap Made (take_more ss i s inside ∙ ap (λ x. take i ss ++ x ∷ []) (sym read)) ∙ inlined-push (take i ss) s)

  pub inlined-all : (ss : List Stmt) (i : ℕ) (list : List Stmt) → length ss ≤ i →
      stmts_of_list (map stmt_tree list) ≡ stmts_by procedures helpers place (stmts_of_list (map stmt_tree (take i ss))) →
      stmts_of_list (map stmt_tree list) ≡ stmts_by procedures helpers place (stmts_of_list (map stmt_tree ss))
  inlined-all ss i list all before = before ∙ ap Made (take_all i ss all)

-- what goes where a helper is called, and where another statement is
pub helper-in-place : (procedures : List ProcedureTree) (helpers : ℕ → Bool) (place : ℕ → ℕ) (s : StmtTree) (found : ℕ × List ℕ)
    (xs : StmtTrees) → Some found ≡ call_by helpers s →
    xs ≡ moved_stmts (λ i. slice_index_or found.1 i 0) place (slice_index_or procedures found.0 no_procedure).body →
    xs ≡ in_place_by procedures helpers place s
helper-in-place procedures helpers place s found xs is made = made ∙ ap
    (λ o. elim o [
      | Some one ↦ moved_stmts (λ i. slice_index_or one.1 i 0) place (slice_index_or procedures one.0 no_procedure).body
      | None ↦ more_stmts (moved_stmt itself place s) no_stmts
    ])
    is

pub itself-in-place : (procedures : List ProcedureTree) (helpers : ℕ → Bool) (place : ℕ → ℕ) (s : StmtTree) (xs : StmtTrees) →
    None ≡ call_by helpers s → xs ≡ more_stmts (moved_stmt itself place s) no_stmts → xs ≡ in_place_by procedures helpers place s
itself-in-place procedures helpers place s xs is made = made ∙ ap
    (λ o. elim o [
      | Some one ↦ moved_stmts (λ i. slice_index_or one.1 i 0) place (slice_index_or procedures one.0 no_procedure).body
      | None ↦ more_stmts (moved_stmt itself place s) no_stmts
    ])
    is

-- ---- Bodies

pub body_there : (qs : List Procedure) (k : ℕ) (q : Procedure) → slice_get qs k ≡ Some q →
    stmts_of_list (map stmt_tree q.body.items) ≡ (slice_index_or (map procedure_tree qs) k no_procedure).body
body_there [] k q there = absurd (let wrong : ⊥ = cc there in wrong)
body_there (x ∷ xs) zero q there = ap (λ (y : Procedure). stmts_of_list (map stmt_tree y.body.items)) (sym (same_Some x q there))
body_there (x ∷ xs) (suc k) q there = body_there xs k q there

pub body_past : (qs : List Procedure) (k : ℕ) → slice_get qs k ≡ None →
    no_stmts ≡ (slice_index_or (map procedure_tree qs) k no_procedure).body
body_past [] k none = refl
body_past (x ∷ xs) zero none = absurd (let wrong : ⊥ = cc none in wrong)
body_past (x ∷ xs) (suc k) none = body_past xs k none

-- ---- Procedures

module _ (keeps : ℕ → Bool) (change : ProcedureTree → ProcedureTree) where
  kept-push : (ps : List ProcedureTree) (n m : ℕ) (q : ProcedureTree) → n + length ps ≡ m →
      kept_from keeps n (ps ++ q ∷ []) ≡ kept_from keeps n ps ++ (if keeps m then q ∷ [] else [])
  kept-push [] n m q e =
      append-nil (if keeps n then q ∷ [] else []) ∙ ap (λ k. if keeps k then q ∷ [] else []) (let same : n ≡ m = omega (arith, e) in same)
  kept-push (p ∷ ps) n m q e =
      ap (λ xs. (if keeps n then p ∷ [] else []) ++ xs) (kept-push ps (suc n) m q (omega (arith, e)))
      ∙ sym (append_assoc (if keeps n then p ∷ [] else []) (kept_from keeps (suc n) ps) (if keeps m then q ∷ [] else []))

  kept-one-more : (ps : List ProcedureTree) (i : ℕ) (q : ProcedureTree) → i < length ps → q ≡ get_or ps i q →
      map change (kept_from keeps 0 (take (i + 1) ps))
      ≡ map change (kept_from keeps 0 (take i ps)) ++ (if keeps i then change q ∷ [] else [])
  kept-one-more ps i q inside read =
      ap (λ xs. map change (kept_from keeps 0 xs)) (take_more ps i q inside ∙ ap (λ x. take i ps ++ x ∷ []) (sym read))
      ∙ ap (map change) (kept-push (take i ps) 0 i q (let long = length-take-le i ps (omega (arith, inside)) in omega (arith, long)))
      ∙ map-append change (kept_from keeps 0 (take i ps)) (if keeps i then q ∷ [] else [])
      ∙ ap (λ xs. map change (kept_from keeps 0 (take i ps)) ++ xs) (inside_choice (keeps i))
    where
      inside_choice : (b : Bool) → map change (if b then q ∷ [] else []) ≡ (if b then change q ∷ [] else [])
      inside_choice true = refl
      inside_choice false = refl

  pub kept-yes : (ps made : List ProcedureTree) (i : ℕ) (q y : ProcedureTree) → i < length ps → q ≡ get_or ps i q → keeps i ≡ true →
      made ≡ map change (kept_from keeps 0 (take i ps)) → y ≡ change q → made ++ y ∷ [] ≡ map change (kept_from keeps 0 (take (i + 1) ps))
  kept-yes ps made i q y inside read keep is same =
      (λ j. is j ++ same j ∷ [])
      ∙ ap (λ b. map change (kept_from keeps 0 (take i ps)) ++ (if b then change q ∷ [] else [])) (sym keep)
      ∙ sym (kept-one-more ps i q inside read)

  pub kept-no : (ps made : List ProcedureTree) (i : ℕ) (q : ProcedureTree) → i < length ps → q ≡ get_or ps i q → keeps i ≡ false →
      made ≡ map change (kept_from keeps 0 (take i ps)) → made ≡ map change (kept_from keeps 0 (take (i + 1) ps))
  kept-no ps made i q inside read drop is =
      is ∙ sym (append-nil (map change (kept_from keeps 0 (take i ps))))
      ∙ ap (λ b. map change (kept_from keeps 0 (take i ps)) ++ (if b then change q ∷ [] else [])) (sym drop)
      ∙ sym (kept-one-more ps i q inside read)
