-- How deep the functions are that a call can reach.
use Rattle.std.proofs.Common.{◌≡◌, ℕ, zero, suc, ◌+◌, ◌*◌, ◌<◌, ◌≤◌, List, [], ◌∷◌, length, arith, take, map, get_or, ap, ◌∙◌, sym, Vec, refl, drop, Bool, false, slice_get, slice_index_or, Some, subst}
use native.Mathlib.Numerals.{unary_clauses}
use Rattle.base_core.specs.declared.text.Text.{Text}
use Rattle.c_syntax.specs.declared.code.CType.{CType}
use Rattle.c_syntax.specs.declared.code.Cond.{Cond}
use Rattle.c_syntax.specs.declared.code.Stmt.{Stmt}
use Rattle.c_syntax.specs.declared.code.Stmt.TheViews as stmt_views
use Rattle.c_syntax.specs.declared.program.Procedure.{Procedure}
use Rattle.c_syntax.specs.declared.program.Program.{Program}
use Rattle.c_semantics.specs.Machine.{is_interface}
use Rattle.c_interpreter.specs.Sound.{IsSoundStmt, AreSoundStmts}
use Rattle.std.specs.declared.alloc.Global.{Global}
use Rattle.c_syntax.specs.declared.code.Expr.{Expr}
use Rattle.c_syntax.specs.declared.code.Cond.TheViews as views
use Rattle.c_syntax.specs.declared.program.Pure.{Pure}
use Rattle.c_syntax.specs.Plain.{expr_tree, cond_tree, stmt_tree, procedure_tree, param_trees, program_tree}
use Rattle.c_syntax.specs.Tree.{exprs_of_list, pure, branch, stmts_of_list, ProcedureTree, ProgramTree}
use Rattle.c_syntax.specs.Limits.{expr_depth, exprs_depth, stmt_depth, stmts_depth}
use Rattle.c_syntax.proofs.lemmas.PlainLaws.{expr_tree-Pure, stmt_tree-If}

abbrev pub depth_of : Expr → ℕ
depth_of e = expr_depth (expr_tree e)

abbrev pub depth_in : List Expr → ℕ
depth_in es = exprs_depth (exprs_of_list (map expr_tree es))

abbrev pub bodies : List Pure → ℕ
bodies [] = 0
bodies (p ∷ ps) = 8 * depth_of p.body + 3 + bodies ps

-- the body of a function, over those before it
pub bodies_at : (ps : List Pure) (k : ℕ) (p : Pure) → k < length ps → p ≡ get_or ps k p →
    bodies (take k ps) + 8 * depth_of p.body + 2 < bodies ps
bodies_at [] k p h there = absurd (omega arith)
bodies_at (q ∷ ps) zero p h there = let d : depth_of p.body ≡ depth_of q.body = λ i. depth_of (there i).body in omega arith
bodies_at (q ∷ ps) (suc k) p h there = omega (arith, bodies_at ps k p (omega arith) there)

-- the arguments of a call are less deep than the call
pub depth_under : (e : Expr) (k : ℕ) (values : Vec Expr Global) (items : List Expr) → e ≡ views.Pure k values →
    items ≡ values.items → depth_in items < depth_of e
depth_under e k values items is same =
    let a : depth_of e ≡ expr_depth (pure k (exprs_of_list (map expr_tree values.items))) =
    ap expr_depth (ap expr_tree is ∙ expr_tree-Pure k values) in
    let b : depth_in items ≡ depth_in values.items = ap depth_in same in
    omega arith

-- each of them is no deeper than they are
pub depth_at : (es : List Expr) (k : ℕ) (e : Expr) → k < length es → e ≡ get_or es k e → depth_of e ≤ depth_in es
depth_at [] k e h there = absurd (omega arith)
depth_at (x ∷ es) zero e h there = let d : depth_of e ≡ depth_of x = λ i. depth_of (there i) in omega arith
depth_at (x ∷ es) (suc k) e h there = omega (arith, depth_at es k e (omega arith) there)

-- ---- procedures
abbrev pub procs_depth : List ProcedureTree → ℕ
procs_depth [] = 0
procs_depth (q ∷ qs) = 4 * stmts_depth q.body + 4 + procs_depth qs

-- the body of a procedure, over those before it
pub procs_at : (ps : List ProcedureTree) (k level : ℕ) (q : ProcedureTree) → k < level → slice_get ps k ≡ Some q →
    procs_depth (take k ps) + 4 * stmts_depth q.body + 4 ≤ procs_depth (take level ps)
procs_at [] k level q h there = absurd (cc)
procs_at (p ∷ ps) k zero q h there = absurd (omega arith)
procs_at (p ∷ ps) zero (suc level) q h there =
    let e : p ≡ q = cc in let d : stmts_depth p.body ≡ stmts_depth q.body = λ i. stmts_depth (e i).body in omega arith
procs_at (p ∷ ps) (suc k) (suc level) q h there = omega (arith, procs_at ps k level q (omega arith) there)

-- each statement is no deeper than all of them
pub stmts_depth_at : (xs : List Stmt) (k : ℕ) (x : Stmt) → k < length xs → x ≡ get_or xs k x →
    stmt_depth (stmt_tree x) ≤ stmts_depth (stmts_of_list (map stmt_tree xs))
stmts_depth_at [] k x h there = absurd (omega arith)
stmts_depth_at (y ∷ ys) zero x h there =
    let d : stmt_depth (stmt_tree x) ≡ stmt_depth (stmt_tree y) = λ i. stmt_depth (stmt_tree (there i)) in omega arith
stmts_depth_at (y ∷ ys) (suc k) x h there = omega (arith, stmts_depth_at ys k x (omega arith) there)

-- ---- sound statements
pub sound_here : (p : ProgramTree) (level of : ℕ) (xs : List Stmt) (k : ℕ) (x : Stmt) → k < length xs →
    x ≡ get_or xs k x → AreSoundStmts p level of (stmts_of_list (map stmt_tree (drop k xs))) →
    IsSoundStmt p level of (stmt_tree x)
sound_here p level of [] k x h there sound = absurd (omega arith)
sound_here p level of (y ∷ ys) zero x h there sound = subst (λ (z : Stmt). IsSoundStmt p level of (stmt_tree z)) (sym there) sound.0
sound_here p level of (y ∷ ys) (suc k) x h there sound = sound_here p level of ys k x (omega arith) there sound

pub sound_more : (p : ProgramTree) (level of : ℕ) (xs : List Stmt) (k : ℕ) → k < length xs →
    AreSoundStmts p level of (stmts_of_list (map stmt_tree (drop k xs))) →
    AreSoundStmts p level of (stmts_of_list (map stmt_tree (drop (k + 1) xs)))
sound_more p level of [] k h sound = absurd (omega arith)
sound_more p level of (y ∷ ys) zero h sound = sound.1
sound_more p level of (y ∷ ys) (suc k) h sound = simp unary_clauses (simp unary_clauses at (sound_more p level of ys k (omega arith) sound))

-- ---- lookups of procedures
pub proc_below : (ps : List Procedure) (k : ℕ) (q : ProcedureTree) → slice_get (map procedure_tree ps) k ≡ Some q → k < length ps
proc_below [] k q there = absurd (cc)
proc_below (p ∷ ps) zero q there = omega arith
proc_below (p ∷ ps) (suc k) q there = omega (arith, proc_below ps k q there)

pub proc_is : (ps : List Procedure) (k : ℕ) (q : ProcedureTree) (p : Procedure) →
    slice_get (map procedure_tree ps) k ≡ Some q → p ≡ get_or ps k p → procedure_tree p ≡ q
proc_is [] k q p there e = absurd (cc)
proc_is (x ∷ ps) zero q p there e = let d : procedure_tree x ≡ q = cc in ap procedure_tree e ∙ d
proc_is (x ∷ ps) (suc k) q p there e = proc_is ps k q p there e

-- the same of a procedure that was found in a program
pub found_is : (found program : Program) (k : ℕ) (q : ProcedureTree) (p : Procedure) → found ≡ program →
    slice_get (program_tree program).procedures k ≡ Some q → p ≡ get_or found.procedures.items k p →
    procedure_tree p ≡ q
found_is found program k q p same there e =
    proc_is program.procedures.items k q p there (e ∙ ap (λ (x : Program). get_or x.procedures.items k p) same)

pub proc_logged : (ps : List Procedure) (k : ℕ) (q : ProcedureTree) (logged : List Bool) →
    slice_get (map procedure_tree ps) k ≡ Some q → logged ≡ map (λ x. is_interface x.name) (map procedure_tree ps) →
    slice_index_or logged k false ≡ is_interface q.name
proc_logged ps k q logged there same = ap (λ xs. slice_index_or xs k false) same ∙ at_list ps k there
  where
    at_list : (xs : List Procedure) (j : ℕ) → slice_get (map procedure_tree xs) j ≡ Some q →
        slice_index_or (map (λ x. is_interface x.name) (map procedure_tree xs)) j false ≡ is_interface q.name
    at_list [] j h = absurd (cc)
    at_list (x ∷ xs) zero h = let d : procedure_tree x ≡ q = cc in λ i. is_interface (d i).name
    at_list (x ∷ xs) (suc j) h = at_list xs j h

pub proc_params : (p : Procedure) → map (λ q. q.type) (procedure_tree p).params ≡ map (λ q. q.1) p.params.items
proc_params p = at_list p.params.items
  where
    at_list : (xs : List (Text × CType)) → map (λ q. q.type) (param_trees xs) ≡ map (λ q. q.1) xs
    at_list [] = refl
    at_list (x ∷ xs) = ap (λ ys. x.1 ∷ ys) (at_list xs)

pub proc_count : (p : Procedure) → length (procedure_tree p).params ≡ length p.params.items
proc_count p = at_list p.params.items
  where
    at_list : (xs : List (Text × CType)) → length (param_trees xs) ≡ length xs
    at_list [] = refl
    at_list (x ∷ xs) = omega (arith, at_list xs)

pub if_depth : (s : Stmt) (line : ℕ) (test : Cond) (on_true on_false : Vec Stmt Global)
    (yes_items no_items : List Stmt) → s ≡ stmt_views.If line test on_true on_false → yes_items ≡ on_true.items →
    no_items ≡ on_false.items → stmt_tree s ≡ branch line (cond_tree test) (stmts_of_list (map stmt_tree yes_items))
    (stmts_of_list (map stmt_tree no_items))
if_depth s line test on_true on_false yes_items no_items is same_yes same_no =
    ap stmt_tree is ∙ stmt_tree-If line test on_true on_false
    ∙ (λ i. branch line (cond_tree test) (stmts_of_list (map stmt_tree (sym same_yes i)))
    (stmts_of_list (map stmt_tree (sym same_no i))))
